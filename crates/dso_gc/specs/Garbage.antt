-- Garbage, by lists: the objects that are in the graph, and that no path of edges reaches from a start.
use Rattle.std.specs.Prelude.{ℕ, ◌≡◌, true, List}
use Rattle.dso_base.specs.Reached.{IsGarbage}
use Rattle.dso_lookup.specs.Search.{has_edge, is_listed}

-- the object is in the list
abbrev pub IsIn : List ℕ → ℕ → Type 0
IsIn objects o = is_listed o objects ≡ true

-- the list has the edge
abbrev pub IsEdgeIn : List (ℕ × ℕ) → ℕ → ℕ → Type 0
IsEdgeIn edges a b = has_edge a b edges ≡ true

-- the object is garbage, by the lists of the objects in the graph, of the starts and of the edges
abbrev pub IsGarbageOf : List ℕ → List ℕ → List (ℕ × ℕ) → ℕ → Type 0
IsGarbageOf graph starts edges o = IsGarbage (IsIn graph) (IsIn starts) (IsEdgeIn edges) o

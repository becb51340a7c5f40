-- Edges in a list, each from an object to one that its copy names.
use Rattle.std.specs.Prelude.{ℕ, ◌≡◌, Bool, eqb, ◌&&◌, ◌||◌, Option, List, ◌++◌, map, fold}
use Rattle.dso_base.specs.declared.value.Value.{Value}
use Rattle.dso_base.specs.Block.{body_names}
use Rattle.dso_lookup.specs.Search.{has_edge, reference_in}
use Rattle.dso_table.specs.declared.slot.Slot.{Slot}
use Rattle.dso_table.specs.ObjectTables.{standing_of}
use Rattle.dso_table.specs.States.{body_of}

-- the edge from the object to the one that a value names, if it names one
abbrev pub edges_in : ℕ → Value → List (ℕ × ℕ)
edges_in object value = map (λ (named : ℕ). (object, named)) (reference_in value)

-- the list with the edges from the object to those that the values name behind it, each as often as it is named
abbrev pub with_edges : ℕ → List Value → List (ℕ × ℕ) → List (ℕ × ℕ)
with_edges object values edges = fold (λ found value. found ++ edges_in object value) edges values

-- The list has the edges that it had before, and those from this object to each of which the test says so.
abbrev pub AddsEdges : ℕ → (ℕ → Bool) → List (ℕ × ℕ) → List (ℕ × ℕ) → Type 0
AddsEdges object names old new = (a b : ℕ) → has_edge a b new ≡ (has_edge a b old || (eqb object a && names b))

-- whether the copy names the object, where what is kept of an object has one
abbrev pub copy_names : Option Slot → ℕ → Bool
copy_names slot b = body_names (body_of (standing_of slot)) b

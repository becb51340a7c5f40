-- The edges of a graph in rows, by the object that they go from.
use Rattle.std.specs.List.{list_any}
use Rattle.std.specs.Ordering.{nat_cmp}
use Rattle.std.specs.Prelude.{ℕ, ◌≡◌, Bool, eqb, is_some, List}
use Rattle.dso_lookup.specs.Lists.{lists_of}
use Rattle.dso_lookup.specs.Maps.{look}
use Rattle.dso_lookup.specs.Search.{has_edge, is_listed}
use Rattle.dso_gc.specs.declared.edges.Edges.{Edges}

-- whether an edge of the list goes to the object
abbrev pub is_target : ℕ → List (ℕ × ℕ) → Bool
is_target o edges = list_any (λ edge. eqb edge.1 o) edges

-- it has these edges: to which objects they go from each one, and to which they go at all
pub record HasEdges (all : Edges) (edges : List (ℕ × ℕ)) : Type 0 where
  pub between : (a b : ℕ) → is_listed b (lists_of nat_cmp all.rows a) ≡ has_edge a b edges
  pub targets : (o : ℕ) → is_some (look nat_cmp all.targets o) ≡ is_target o edges

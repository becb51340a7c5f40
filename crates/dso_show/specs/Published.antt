-- The objects that records publish, as they came, and whether each has a body.
use Rattle.std.specs.Prelude.{ℕ, ◌≢◌, Option, None, List, flat_map, map}
use Rattle.std.specs.List.{AllByRecursion}
use Rattle.dso_base.specs.declared.record.Body.{Body}
use Rattle.dso_base.specs.declared.record.Txn.{Txn}

-- the objects of bodies
abbrev pub objects_of : List Body → List ℕ
objects_of bodies = map (λ body. body.object) bodies

-- the objects that the records publish
abbrev pub published : List (ℕ × Txn) → List ℕ
published records = flat_map (λ r. objects_of r.1.news) records

-- the object of each of these bodies has a body in the graph
abbrev pub AreThere : (ℕ → Option Body) → List Body → Type 0
AreThere bodies news = AllByRecursion (λ body. bodies body.object ≢ None) news

-- each object that the records publish has a body in the graph
abbrev pub AreAllThere : (ℕ → Option Body) → List (ℕ × Txn) → Type 0
AreAllThere bodies records = AllByRecursion (λ r. AreThere bodies r.1.news) records

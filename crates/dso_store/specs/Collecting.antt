-- What a collection reads of a table of bodies, and what is left of the table where it takes bodies out.
use Rattle.std.specs.Prelude.{ℕ, suc, cond, not, ◌&&◌, is_some, Option, None, List, [], ◌∷◌, flat_map, map}
use Rattle.dso_base.specs.declared.record.Body.{Body}
use Rattle.dso_base.specs.declared.value.Value.{Value}
use Rattle.dso_lookup.specs.Search.{is_listed, reference_in}

-- an edge from the object to each object that the values name
abbrev pub edges_from : ℕ → List Value → List (ℕ × ℕ)
edges_from a values = flat_map (λ v. map (λ (b : ℕ). (a, b)) (reference_in v)) values

-- the edges of all bodies of a table
abbrev pub edges_of : List (ℕ × Body) → List (ℕ × ℕ)
edges_of entries = flat_map (λ e. edges_from e.0 e.1.values) entries

-- the bodies without those of the objects of the list
abbrev pub without : List ℕ → (ℕ → Option Body) → ℕ → Option Body
without ids bodies o = cond (is_listed o ids) None (bodies o)

-- how many different objects of the list have a body: each counts where it stands last
abbrev pub count_there : (ℕ → Option Body) → List ℕ → ℕ
count_there bodies [] = 0
count_there bodies (o ∷ ids) = cond (is_some (bodies o) && not (is_listed o ids)) (suc (count_there bodies ids))
    (count_there bodies ids)

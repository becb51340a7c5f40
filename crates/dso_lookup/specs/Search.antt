-- The search for what is found from a value: a list of the private objects found so far, each once.
use Rattle.std.specs.Prelude.{ℕ, ◌≡◌, Bool, cond, not, eqb, ◌&&◌, List, [], ◌∷◌, ◌++◌, fold}
use Rattle.std.specs.List.{list_any}
use Rattle.std.specs.Ordering.{nat_cmp}
use Rattle.std.specs.BTreeSet.{BTreeSet, contains}
use Rattle.dso_base.specs.declared.value.Value.{Value}
use Rattle.dso_base.specs.declared.value.Value.TheVariants as value

-- whether the object is in the list
abbrev pub is_listed : ℕ → List ℕ → Bool
is_listed o objects = list_any (λ listed. eqb listed o) objects

-- whether the list has the edge from a to b
abbrev pub has_edge : ℕ → ℕ → List (ℕ × ℕ) → Bool
has_edge a b edges = list_any (λ edge. eqb edge.0 a && eqb edge.1 b) edges

-- the set has exactly the objects of the list
abbrev pub IsSetOf : BTreeSet ℕ → List ℕ → Type 0
IsSetOf set objects = (o : ℕ) → contains nat_cmp set o ≡ is_listed o objects

-- the object that a value names, if any
abbrev pub reference_in : Value → List ℕ
reference_in (value.Ref o) = o ∷ []
reference_in v = []

-- what was found, with the object if it is private and was not found yet
abbrev pub with_found : (ℕ → Bool) → List ℕ → ℕ → List ℕ
with_found mine found o = cond (mine o && not (is_listed o found)) (found ++ o ∷ []) found

-- what was found, with each of these objects that is private and was not found yet
abbrev pub with_all_found : (ℕ → Bool) → List ℕ → List ℕ → List ℕ
with_all_found mine objects found = fold (with_found mine) found objects

-- an object was looked at: what it names was added to what was found
pub record IsLookedAt (mine : ℕ → Bool) (names : ℕ → ℕ → Bool) (object : ℕ) (old new : List ℕ) : Type 0 where
  pub named : List ℕ
  pub all : (o : ℕ) → is_listed o named ≡ names object o
  pub added : new ≡ with_all_found mine named old

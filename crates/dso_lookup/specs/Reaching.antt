-- That the test of what is found from a value tells exactly what is found.
use Rattle.std.specs.Prelude.{ℕ, ◌≡◌, ◌↔◌, ◌⊎◌, Bool, true, List, [], ◌∷◌}
use Rattle.dso_base.specs.declared.value.Value.{Value}
use Rattle.dso_base.specs.Reach.{Reached, reach}

-- the list has the object
abbrev pub IsListed : ℕ → List ℕ → Type 0
IsListed o [] = ⊥
IsListed o (first ∷ rest) = (o ≡ first) ⊎ IsListed o rest

-- the list has each object that the test tells
abbrev pub ListsEach : (ℕ → Bool) → List ℕ → Type 0
ListsEach mine objects = (o : ℕ) → mine o ≡ true → IsListed o objects

-- Reach: with a list of all private objects, the test tells exactly what is found.
abbrev pub ReachTells : Type 0
ReachTells = (mine : ℕ → Bool) (names : ℕ → ℕ → Bool) (objects : List ℕ) (v : Value) (o : ℕ) → ListsEach mine objects
    → (reach mine names objects v o ≡ true) ↔ Reached mine names v o

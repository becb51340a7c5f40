-- Which private objects are found from a value: what becomes shared where the value is stored in a shared object.
use Rattle.std.specs.Prelude.{ℕ, ◌≡◌, Bool, true, false, eqb, ◌&&◌, ◌||◌, List, [], ◌∷◌}
use Rattle.dso_base.specs.declared.value.Value.{Value}
use Rattle.dso_base.specs.declared.value.Value.TheVariants as value

-- Object b is found from object a through private objects: it is a, or a field of a private object that is so
-- found names it. `mine` tells the private objects of the thread, `names a b` that a field of a names b. What is
-- found is private itself.
pub data Found (mine : ℕ → Bool) (names : ℕ → ℕ → Bool) (a : ℕ) : ℕ → Type 0 where
  start : mine a ≡ true → Found mine names a a
  onward : {b : ℕ} (c : ℕ) → Found mine names a b → names b c ≡ true → mine c ≡ true → Found mine names a c

-- the private objects that are found from a value, none where the value is no object
abbrev pub Reached : (ℕ → Bool) → (ℕ → ℕ → Bool) → Value → ℕ → Type 0
Reached mine names (value.Ref a) o = Found mine names a o
Reached mine names v o = ⊥

-- there is a way from a to b over objects of the list: a itself names b, or there is a way that leaves the first
-- of the list out, or one to the first and one on from it
abbrev pub has_way : (ℕ → ℕ → Bool) → List ℕ → ℕ → ℕ → Bool
has_way names [] a b = names a b
has_way names (first ∷ rest) a b = has_way names rest a b || (has_way names rest a first && has_way names rest first b)

-- one object of the two names the other, and both are private
abbrev pub names_within : (ℕ → Bool) → (ℕ → ℕ → Bool) → ℕ → ℕ → Bool
names_within mine names a b = mine a && (mine b && names a b)

-- The same set as a test, for a list that has every private object of the thread: `reach` is true exactly where
-- `Reached` holds.
abbrev pub reach : (ℕ → Bool) → (ℕ → ℕ → Bool) → List ℕ → Value → ℕ → Bool
reach mine names objects (value.Ref a) o = mine a
    && (mine o && (eqb o a || has_way (names_within mine names) objects a o))
reach mine names objects v o = false

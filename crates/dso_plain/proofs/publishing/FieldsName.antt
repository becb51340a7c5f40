-- The objects that the fields of an object name, added field by field to a list.
use Rattle.std.proofs.Common.{ℕ, suc, ◌≡◌, refl, ◌∙◌, ap, Bool, true, false, ◌||◌, Option, List}
use Rattle.dso_base.specs.declared.value.Value.{Value}
use Rattle.dso_lookup.specs.Search.{is_listed}
use Rattle.dso_plain.specs.After.{names_below, holds_reference}

-- a test that fails adds nothing
or_false : (a : Bool) → a ≡ (a || false)
or_false true = refl
or_false false = refl

-- the tests of two fields, in either order
regrouped : (a b c : Bool) → ((a || b) || c) ≡ (a || (c || b))
regrouped true b c = refl
regrouped false true true = refl
regrouped false true false = refl
regrouped false false true = refl
regrouped false false false = refl

-- of no field nothing
pub named_none : (heap : ℕ × ℕ → Option Value) (a o : ℕ) (found : List ℕ) → is_listed o found ≡ (is_listed o found || names_below heap 0 a o)
named_none heap a o found = or_false (is_listed o found)

-- one field more
pub named_next : (heap : ℕ × ℕ → Option Value) (a n o : ℕ) (start found next : List ℕ) → is_listed o found ≡ (is_listed o start || names_below heap n a o)
    → is_listed o next ≡ (is_listed o found || holds_reference o (heap (a, n))) → is_listed o next ≡ (is_listed o start || names_below heap (suc n) a o)
named_next heap a n o start found next was is = is ∙ ap (λ b. b || holds_reference o (heap (a, n))) was ∙ regrouped (is_listed o start) (names_below heap n a o) (holds_reference o (heap (a, n)))

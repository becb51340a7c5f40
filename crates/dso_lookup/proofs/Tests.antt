-- Tests that hold together, and tests of numbers.
use Rattle.std.proofs.Common.{ℕ, ◌≡◌, inl, inr, refl, sym, ◌∙◌, Bool, true, false, eqb, ◌&&◌, ◌||◌}
use Rattle.std.proofs.lemmas.Bool.{eqb-true, eq-eqb}
use Rattle.std.proofs.lemmas.Bool.Decides.{eqb_tells}
use Rattle.std.specs.Cmp.{unsigned_tied}
use Rattle.std.specs.Ordering.{is_eq, nat_cmp}

-- both of two tests hold
pub both : (a b : Bool) → (a && b) ≡ true → (a ≡ true) × (b ≡ true)
both true b e = (refl, e)
both false b e = absurd (cc e)

-- the first of two tests holds
pub left_holds : (a b : Bool) → a ≡ true → (a || b) ≡ true
left_holds true b e = refl
left_holds false b e = absurd (cc e)

-- the second of two tests holds
pub right_holds : (a b : Bool) → b ≡ true → (a || b) ≡ true
right_holds true b e = refl
right_holds false b e = e

-- two tests of which each tells the other are one
pub same_tests : (a b : Bool) → (a ≡ true → b ≡ true) → (b ≡ true → a ≡ true) → a ≡ b
same_tests true b to from = sym (to refl)
same_tests false true to from = from refl
same_tests false false to from = refl

-- a number is told from another either way
flipped : (a b : ℕ) → eqb a b ≡ eqb b a
flipped a b = elim (eqb_tells a b) [
  | inl h ↦ h.0 ∙ sym (eq-eqb b a (sym h.1))
  | inr h ↦ elim (eqb_tells b a) [
    | inl g ↦ absurd (h.1 (sym g.1))
    | inr g ↦ h.0 ∙ sym g.0
  ]
]

-- where the order of numbers takes two for the same, the test of numbers does
pub number_at : (a b : ℕ) → is_eq (nat_cmp a b) ≡ eqb b a
number_at a b = unsigned_tied a b ∙ flipped a b

-- Tests of numbers, and what is written at one.
use Rattle.std.proofs.Common.{ℕ, ◌≡◌, refl, sym, ◌∙◌, ap, Bool, true, false, cond, eqb, Some, None}
use Rattle.std.proofs.Math.Path.{fun_ext}
use Rattle.std.proofs.lemmas.Bool.{eqb-true, eq-eqb}
use Rattle.std.specs.BTreeMap.{is_at}
use Rattle.std.specs.Cmp.{unsigned_tied}
use Rattle.std.specs.Ordering.{nat_cmp}
use Rattle.dso_lookup.specs.Maps.{or_old}
use Rattle.dso_lookup.proofs.Tests.{same_tests}
use Rattle.dso_table.specs.States.{with_at}

-- a number is told from another either way
pub either_way : (a b : ℕ) → eqb a b ≡ eqb b a
either_way a b = same_tests (eqb a b) (eqb b a) (λ e. eq-eqb b a (sym (eqb-true a b e))) (λ e. eq-eqb a b (sym (eqb-true b a e)))

-- the order of numbers takes two for the same where the test of numbers does
pub at_number : (o p : ℕ) → is_at (nat_cmp o) p ≡ eqb p o
at_number o p = unsigned_tied o p ∙ either_way o p

-- a key that the order takes for the number is the number
pub at_it : (o p : ℕ) → is_at (nat_cmp o) p ≡ true → p ≡ o
at_it o p e = eqb-true p o (sym (at_number o p) ∙ e)

-- the number itself is at it
pub is_at_itself : (o : ℕ) → is_at (nat_cmp o) o ≡ true
is_at_itself o = at_number o o ∙ eq-eqb o o refl

module _ {V : Type 0} where
  -- what is written at a number, told at each number
  pub with_at_told : (o : ℕ) (v : V) (f : ℕ → V) (p : ℕ) → with_at o v f p ≡ cond (eqb p o) v (f p)
  with_at_told o v f p = ap (λ b. or_old (cond b (Some v) None) (f p)) (at_number o p) ∙ by (eqb p o)
    where
      by : (b : Bool) → or_old (cond b (Some v) None) (f p) ≡ cond b v (f p)
      by true = refl
      by false = refl

  -- what stands at a number can be written there again
  pub with_at_same : (o : ℕ) (v : V) (f : ℕ → V) → f o ≡ v → with_at o v f ≡ f
  with_at_same o v f is = fun_ext (λ p. by p (is_at (nat_cmp o) p) refl)
    where
      by : (p : ℕ) (b : Bool) → is_at (nat_cmp o) p ≡ b → or_old (cond b (Some v) None) (f p) ≡ f p
      by p true e = sym is ∙ ap f (sym (at_it o p e))
      by p false e = refl

  -- the last of two writes at a number stays
  pub with_at_again : (o : ℕ) (v w : V) (f : ℕ → V) → with_at o v (with_at o w f) ≡ with_at o v f
  with_at_again o v w f = fun_ext (λ p. by (is_at (nat_cmp o) p) (f p))
    where
      by : (b : Bool) (x : V) → or_old (cond b (Some v) None) (or_old (cond b (Some w) None) x) ≡ or_old (cond b (Some v) None) x
      by true x = refl
      by false x = refl

-- a function of what is written at a number
pub with_at_map : {V W : Type 0} (g : V → W) (o : ℕ) (v : V) (f : ℕ → V) → (λ p. g (with_at o v f p)) ≡ with_at o (g v) (λ p. g (f p))
with_at_map {V} g o v f = fun_ext (λ p. by (is_at (nat_cmp o) p) (f p))
  where
    by : (b : Bool) (x : V) → g (or_old (cond b (Some v) None) x) ≡ or_old (cond b (Some (g v)) None) (g x)
    by true x = refl
    by false x = refl

-- at the number stands what is written there
pub with_at_here : {V : Type 0} (o : ℕ) (v : V) (f : ℕ → V) → with_at o v f o ≡ v
with_at_here o v f = ap (λ b. or_old (cond b (Some v) None) (f o)) (is_at_itself o)

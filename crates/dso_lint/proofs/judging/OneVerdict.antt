-- Code has one verdict.
use Rattle.std.proofs.Common.{◌≡◌, ◌⊎◌, inl, inr, refl, ℕ, ◌<◌, Bool, true, false, sym, subst, ap, ◌∙◌}
use Rattle.std.proofs.lemmas.Bool.{cases_order}
use Rattle.dso_machine.specs.declared.code.Code.{Code}
use Rattle.dso_lint.specs.declared.answer.Lint.{Lint}
use Rattle.dso_lint.specs.declared.answer.Lint.TheVariants.{Yes, No}
use Rattle.dso_lint.specs.declared.answer.Place.{Place}
use Rattle.dso_lint.specs.declared.answer.Place.TheVariants.{Method, Thread}
use Rattle.dso_lint.specs.declared.answer.Why.{Why}
use Rattle.dso_lint.specs.declared.answer.Why.TheVariants as why
use Rattle.dso_lint.specs.Clean.{Chosen, Choice, IsWithin}
use Rattle.dso_lint.specs.Verdict.{IsBefore, IsVerdict, Fails, Passes, Tells}

-- ---- one choice

both_ways : (a b : Bool) → (a ≡ true → b ≡ true) → (b ≡ true → a ≡ true) → a ≡ b
both_ways true b there back = sym (there refl)
both_ways false true there back = back refl
both_ways false false there back = refl

same_values : {A : Type 0} (f g : A → Bool) → ((x : A) → f x ≡ g x) → f ≡ g
same_values f g same = λ i x. same x i

same_chosen : (c d : Chosen) → c.variable ≡ d.variable → c.this ≡ d.this → c ≡ d
same_chosen c d variables this = ap (λ (f : ℕ → Bool). record { variable = f; this = c.this }) variables ∙ ap (λ (b : Bool). record { variable = d.variable; this = b }) this

same_choices : (c d : Choice) → ((at : Place) → c at ≡ d at) → c ≡ d
same_choices c d same = λ i at. same at i

one_choice : (c d : Choice) → IsWithin c d → IsWithin d c → c ≡ d
one_choice c d there back = same_choices c d (λ at.
    let variables : (c at).variable ≡ (d at).variable = same_values (c at).variable (d at).variable (λ i. both_ways ((c at).variable i) ((d at).variable i) (there.variable at i) (back.variable at i)) in
    same_chosen (c at) (d at) variables (both_ways (c at).this (d at).this (there.this at) (back.this at)))

-- ---- one answer

-- the places are one, or one stands before the other
place_cases : (a b : Place) → IsBefore a b ⊎ (a ≡ b) ⊎ IsBefore b a
place_cases (Method k) (Method m) = by (cases_order k m)
  where
    by : (k ≡ m) ⊎ ((k < m) ⊎ (m < k)) → IsBefore (Method k) (Method m) ⊎ (Method k ≡ Method m) ⊎ IsBefore (Method m) (Method k)
    by (inl same) = inr (inl (ap Method same))
    by (inr (inl low)) = inl low
    by (inr (inr high)) = inr (inr high)
place_cases (Method k) (Thread m) = inl tt
place_cases (Thread k) (Method m) = inr (inr tt)
place_cases (Thread k) (Thread m) = by (cases_order k m)
  where
    by : (k ≡ m) ⊎ ((k < m) ⊎ (m < k)) → IsBefore (Thread k) (Thread m) ⊎ (Thread k ≡ Thread m) ⊎ IsBefore (Thread m) (Thread k)
    by (inl same) = inr (inl (ap Thread same))
    by (inr (inl low)) = inl low
    by (inr (inr high)) = inr (inr high)

module _ (code : Code) (choice : Choice) where
  -- what passes fails no rule
  passes_not : (at : Place) (reason : Why) → Passes code choice at → Fails code choice at reason → ⊥
  passes_not at why.Access pass fails = fails pass.access
  passes_not at why.Upgrade pass fails = fails.1 pass.upgrade

  one_reason : (at : Place) (r s : Why) → Fails code choice at r → Fails code choice at s → r ≡ s
  one_reason at why.Access why.Access fails other = refl
  one_reason at why.Access why.Upgrade fails other = absurd (fails other.0)
  one_reason at why.Upgrade why.Access fails other = absurd (other fails.0)
  one_reason at why.Upgrade why.Upgrade fails other = refl

  one_answer : (a b : Lint) → Tells code choice a → Tells code choice b → a ≡ b
  one_answer Yes Yes tells other = refl
  one_answer Yes (No at reason) tells other = absurd (passes_not at reason (tells at) other.0)
  one_answer (No at reason) Yes tells other = absurd (passes_not at reason (other at) tells.0)
  one_answer (No at r) (No place s) tells other = by (place_cases at place)
    where
      by : IsBefore at place ⊎ (at ≡ place) ⊎ IsBefore place at → No at r ≡ No place s
      by (inl before) = absurd (passes_not at r (other.1 at before) tells.0)
      by (inr (inl same)) =
          let there : Fails code choice at s = subst (λ p. Fails code choice p s) (sym same) other.0 in
          ap (λ p. No p r) same ∙ ap (No place) (one_reason at r s tells.0 there)
      by (inr (inr before)) = absurd (passes_not place s (tells.1 place before) other.0)

pub one_verdict : (code : Code) (a b : Lint) → IsVerdict code a → IsVerdict code b → a ≡ b
one_verdict code a b first second =
    let same : first.choice ≡ second.choice = one_choice first.choice second.choice (second.clean.largest first.choice first.clean.keeps) (first.clean.largest second.choice second.clean.keeps) in
    one_answer code second.choice a b (subst (λ c. Tells code c a) same first.tells) second.tells

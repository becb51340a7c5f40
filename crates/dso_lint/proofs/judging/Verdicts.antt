-- What was found of each body, one after the other, and the answer by it.
use Rattle.std.proofs.Common.{◌≡◌, ◌⊎◌, inl, inr, ℕ, suc, ◌-◌, ◌<◌, ◌≤◌, arith, cond, length, sym, subst, ap, ◌∙◌}
use Rattle.std.proofs.lemmas.Bool.{cases_eq, cases_lt, le-ltb, lt-ltb}
use Rattle.dso_machine.specs.declared.code.Code.{Code}
use Rattle.dso_lint.specs.declared.answer.Lint.TheVariants.{Yes, No}
use Rattle.dso_lint.specs.declared.answer.Place.{Place}
use Rattle.dso_lint.specs.declared.answer.Place.TheVariants as place
use Rattle.dso_lint.specs.declared.answer.Why.{Why}
use Rattle.dso_lint.specs.Access.{KeepsAccess}
use Rattle.dso_lint.specs.Clean.{Chosen, Choice}
use Rattle.dso_lint.specs.CleanRows.{place_at}
use Rattle.dso_lint.specs.Listed.{routines}
use Rattle.dso_lint.specs.Routines.{Routine, IsAt}
use Rattle.dso_lint.specs.Upgrades.{NeverUpgrades}
use Rattle.dso_lint.specs.Verdict.{IsBefore, KeepsAccessAt, NeverUpgradesAt, Passes, Fails, Tells}
use Rattle.dso_lint.proofs.cleanness.Choices.{HasNumber, number_of}

-- ---- the places of bodies

pub place_below : (methods p : ℕ) → p < methods → place_at methods p ≡ place.Method (suc p)
place_below methods p low = ap (λ b. cond b (place.Method (suc p)) (place.Thread (suc (p - methods)))) (lt-ltb p methods low)

pub place_past : (methods p : ℕ) → methods ≤ p → place_at methods p ≡ place.Thread (suc (p - methods))
place_past methods p high = ap (λ b. cond b (place.Method (suc p)) (place.Thread (suc (p - methods)))) (le-ltb p methods high)

-- ---- one place

module _ (code : Code) (choice : Choice) (at : Place) (body : Routine) (stands : IsAt code at body) where
  only_body : (other : Routine) → IsAt code at other → body ≡ other
  only_body other is = cc (sym stands ∙ is)

  pub access_at : (chosen : Chosen) → choice at ≡ chosen → KeepsAccess code.shape chosen body → KeepsAccessAt code choice at
  access_at chosen same keeps other is = subst (KeepsAccess code.shape (choice at)) (only_body other is) (subst (λ (c : Chosen). KeepsAccess code.shape c body) (sym same) keeps)

  pub access_back : (chosen : Chosen) → choice at ≡ chosen → KeepsAccessAt code choice at → KeepsAccess code.shape chosen body
  access_back chosen same keeps = subst (λ (c : Chosen). KeepsAccess code.shape c body) same (keeps body stands)

  pub upgrades_at : NeverUpgrades code body → NeverUpgradesAt code choice at
  upgrades_at never other is = subst (NeverUpgrades code) (only_body other is) never

  pub upgrades_back : NeverUpgradesAt code choice at → NeverUpgrades code body
  upgrades_back never = never body stands

-- ---- all places

module _ (code : Code) (choice : Choice) where
  abbrev n : ℕ
  n = length code.methods

  -- the bodies before this one pass
  abbrev pub PassBefore : ℕ → Type 0
  PassBefore p = (q : ℕ) → q < p → Passes code choice (place_at n q)

  pub pass_more : (p : ℕ) → PassBefore p → Passes code choice (place_at n p) → (r : ℕ) → r ≤ suc p → PassBefore r
  pass_more p before here r few q low = by (cases_eq q p)
    where
      by : (q ≡ p) ⊎ (q ≡ p → ⊥) → Passes code choice (place_at n q)
      by (inl same) = subst (λ k. Passes code choice (place_at n k)) (sym same) here
      by (inr other) = before q (omega (arith, low, few, other))

  -- the order of places is that of the bodies
  before_lower : (q p : ℕ) → IsBefore (place_at n q) (place_at n p) → q < p
  before_lower q p before = by (cases_lt q n) (cases_lt p n)
    where
      by : (q < n) ⊎ (n ≤ q) → (p < n) ⊎ (n ≤ p) → q < p
      by (inl low) (inl few) =
          let first = subst (λ a. IsBefore a (place_at n p)) (place_below n q low) before in
          let both : suc q < suc p = subst (IsBefore (place.Method (suc q))) (place_below n p few) first in
          omega (arith, both)
      by (inl low) (inr high) = omega (arith, low, high)
      by (inr past) (inl few) =
          let first = subst (λ a. IsBefore a (place_at n p)) (place_past n q past) before in
          let both : ⊥ = subst (IsBefore (place.Thread (suc (q - n)))) (place_below n p few) first in
          absurd both
      by (inr past) (inr high) =
          let first = subst (λ a. IsBefore a (place_at n p)) (place_past n q past) before in
          let both : suc (q - n) < suc (p - n) = subst (IsBefore (place.Thread (suc (q - n)))) (place_past n p high) first in
          omega (arith, both, past, high)

  -- a place passes where its body does, if it has one
  passes : (at : Place) → ((body : Routine) → IsAt code at body → (number : HasNumber code at body) → Passes code choice (place_at n number.number)) → Passes code choice at
  passes at each = record { access = access; upgrade = upgrade }
    where
      access : KeepsAccessAt code choice at
      access body is =
          let number = number_of code at body is in
          let so : Passes code choice at = subst (Passes code choice) (sym number.is_place) (each body is number) in
          so.access body is

      upgrade : NeverUpgradesAt code choice at
      upgrade body is =
          let number = number_of code at body is in
          let so : Passes code choice at = subst (Passes code choice) (sym number.is_place) (each body is number) in
          so.upgrade body is

  pub tells_yes : PassBefore (length (routines code)) → Tells code choice Yes
  tells_yes each at = passes at (λ body is number. each number.number number.low)

  pub tells_no : (p : ℕ) (at : Place) (reason : Why) → at ≡ place_at n p → PassBefore p → Fails code choice (place_at n p) reason → Tells code choice (No at reason)
  tells_no p at reason same each fails =
      let here : Fails code choice at reason = subst (λ a. Fails code choice a reason) (sym same) fails in (
        here,
        λ other before. passes other (λ body is number.
            let first : IsBefore (place_at n number.number) at = subst (λ a. IsBefore a at) number.is_place before in
            each number.number (before_lower number.number p (subst (IsBefore (place_at n number.number)) same first))),
      )

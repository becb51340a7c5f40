-- The locks of a list that pass two tests.
use Rattle.std.specs.List.{list_any}
use Rattle.std.proofs.Common.{◌≡◌, refl, sym, ◌∙◌, ap, Bool, true, false, cond, ◌&&◌, ◌||◌, List, [], ◌∷◌, filter}
use Rattle.dso_base.specs.declared.lock.LockName.{LockName}
use Rattle.dso_plain.specs.KeyTests.{is_lock}
use Rattle.dso_plain.proofs.keys.SameKeys.{same_lock}
use Rattle.dso_law.proofs.runs.Quiet.{lock_self}
use Rattle.dso_client.specs.LeaseReturns.{Distinct}

module _ (test other : LockName → Bool) where
  -- the locks that pass both
  abbrev pub both : List LockName → List LockName
  both locks = filter test (filter other locks)

  drop_one : (k : LockName) (locks : List LockName) → (other k && test k) ≡ false → both (k ∷ locks) ≡ both locks
  drop_one k locks fails = by (other k) fails
    where
      second : (b : Bool) → b ≡ false → cond b (k ∷ filter test (filter other locks)) (filter test (filter other locks)) ≡ filter test (filter other locks)
      second true e = absurd (cc e)
      second false e = refl

      by : (b : Bool) → (b && test k) ≡ false → filter test (cond b (k ∷ filter other locks) (filter other locks)) ≡ filter test (filter other locks)
      by true e = second (test k) e
      by false e = refl

  keep_one : (k : LockName) (locks : List LockName) → (other k && test k) ≡ true → both (k ∷ locks) ≡ k ∷ both locks
  keep_one k locks passes = by (other k) passes
    where
      second : (b : Bool) → b ≡ true → cond b (k ∷ filter test (filter other locks)) (filter test (filter other locks)) ≡ k ∷ filter test (filter other locks)
      second true e = refl
      second false e = absurd (cc e)

      by : (b : Bool) → (b && test k) ≡ true → filter test (cond b (k ∷ filter other locks) (filter other locks)) ≡ k ∷ filter test (filter other locks)
      by true e = second (test k) e
      by false e = absurd (cc e)

  -- one that passes and is in the list is left
  is_left : (l : LockName) (locks : List LockName) → (other l && test l) ≡ true → list_any (is_lock l) locks ≡ true → list_any (is_lock l) (both locks) ≡ true
  is_left l [] passes there = absurd (cc there)
  is_left l (k ∷ locks) passes there = by (is_lock l k) refl (other k && test k) refl there (is_left l locks passes)
    where
      by : (a : Bool) → is_lock l k ≡ a → (b : Bool) → (other k && test k) ≡ b → (a || list_any (is_lock l) locks) ≡ true → (list_any (is_lock l) locks ≡ true → list_any (is_lock l) (both locks) ≡ true)
          → list_any (is_lock l) (both (k ∷ locks)) ≡ true
      by true same true kept there later = ap (list_any (is_lock l)) (keep_one k locks kept) ∙ ap (λ b. b || list_any (is_lock l) (both locks)) same
      by true same false dropped there later = absurd (cc (sym dropped ∙ (ap (λ x. other x && test x) (same_lock l k same) ∙ passes)))
      by false differ true kept there later = ap (list_any (is_lock l)) (keep_one k locks kept) ∙ (ap (λ b. b || list_any (is_lock l) (both locks)) differ ∙ later there)
      by false differ false dropped there later = ap (list_any (is_lock l)) (drop_one k locks dropped) ∙ later there

  -- so where none is left, each of the list fails
  pub each_fails : (l : LockName) (locks : List LockName) → both locks ≡ [] → list_any (is_lock l) locks ≡ true → (other l && test l) ≡ false
  each_fails l locks none there = by (other l && test l) refl
    where
      by : (b : Bool) → (other l && test l) ≡ b → b ≡ false
      by false e = refl
      by true e = absurd (cc (sym (is_left l locks e there) ∙ ap (list_any (is_lock l)) none))

  -- where each fails, none is left
  pub none_left : (locks : List LockName) → ((k : LockName) → list_any (is_lock k) locks ≡ true → (other k && test k) ≡ false) → both locks ≡ []
  none_left [] fails = refl
  none_left (k ∷ locks) fails = drop_one k locks (fails k (ap (λ b. b || list_any (is_lock k) locks) (lock_self k))) ∙ none_left locks (λ j there. fails j (behind (is_lock j k) (list_any (is_lock j) locks) there))
    where
      behind : (a b : Bool) → b ≡ true → (a || b) ≡ true
      behind true b h = refl
      behind false b h = h

  -- where each but one fails, that one is left where it passes
  pub one_left : (l : LockName) (locks : List LockName) → Distinct locks → ((k : LockName) → is_lock l k ≡ false → (other k && test k) ≡ false) → (other l && test l) ≡ true
      → list_any (is_lock l) locks ≡ true → both locks ≡ l ∷ []
  one_left l [] distinct fails passes there = absurd (cc there)
  one_left l (k ∷ locks) distinct fails passes there = by (is_lock l k) refl there (one_left l locks distinct.1 fails passes)
    where
      rest_fails : is_lock l k ≡ true → (j : LockName) → list_any (is_lock j) locks ≡ true → (other j && test j) ≡ false
      rest_fails same j among = it (is_lock l j) refl
        where
          it : (b : Bool) → is_lock l j ≡ b → (other j && test j) ≡ false
          it false differ = fails j differ
          it true alike = absurd (cc (sym distinct.0 ∙ (ap (λ x. list_any (is_lock x) locks) (same_lock l k same ∙ sym (same_lock l j alike)) ∙ among)))

      by : (a : Bool) → is_lock l k ≡ a → (a || list_any (is_lock l) locks) ≡ true → (list_any (is_lock l) locks ≡ true → both locks ≡ l ∷ []) → both (k ∷ locks) ≡ l ∷ []
      by true same there later =
          let it = same_lock l k same in
          keep_one k locks (ap (λ x. other x && test x) it ∙ passes) ∙ (ap (λ rest. k ∷ rest) (none_left locks (rest_fails same)) ∙ ap (λ x. x ∷ []) it)
      by false differ there later = drop_one k locks (fails k differ) ∙ later there

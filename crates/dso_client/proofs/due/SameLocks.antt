-- Two lists of locks that rise are the same where the same locks are in them.
use Rattle.std.specs.List.{list_any, AllByRecursion}
use Rattle.std.proofs.Common.{◌≡◌, refl, sym, ◌∙◌, ap, subst, Bool, true, false, cond, ◌&&◌, ◌||◌, List, [], ◌∷◌, filter}
use Rattle.dso_base.specs.declared.lock.LockName.{LockName}
use Rattle.dso_plain.specs.KeyTests.{is_lock}
use Rattle.dso_plain.proofs.keys.SameKeys.{same_lock}
use Rattle.dso_law.specs.Leases.{is_lock_before}
use Rattle.dso_law.proofs.client.ClientLaws.{lock_either_way}
use Rattle.dso_law.proofs.runs.Quiet.{lock_self}
use Rattle.dso_client.specs.LeaseReturns.{Rising}
use Rattle.dso_client.proofs.due.Rising.{before_before, before_isnt, after_isnt}

-- what holds of each of a list holds of one of it
all_in : (P : LockName → Type 0) (k : LockName) (locks : List LockName) → AllByRecursion P locks → list_any (is_lock k) locks ≡ true → P k
all_in P k [] h there = absurd (cc there)
all_in P k (l ∷ locks) h there = by (is_lock k l) refl there (all_in P k locks h.1)
  where
    by : (b : Bool) → is_lock k l ≡ b → (b || list_any (is_lock k) locks) ≡ true → (list_any (is_lock k) locks ≡ true → P k) → P k
    by true same there later = subst P (same_lock k l same) h.0
    by false differ there later = later there

-- no lock stands before itself
not_before_itself : (l : LockName) → is_lock_before l l ≡ true → ⊥
not_before_itself l e = cc (sym (lock_self l) ∙ before_isnt l l e)

-- the locks that are told alike of the rest too
in_rest : (a b d : Bool) → (a ≡ true → (b ≡ false) × (d ≡ false)) → (a || b) ≡ (a || d) → b ≡ d
in_rest true b d none same = let both = none refl in both.0 ∙ sym both.1
in_rest false b d none same = same

-- a lock that is the first isn't in the rest
first_only : (k x : LockName) (xs : List LockName) → AllByRecursion (λ j. is_lock_before x j ≡ true) xs → is_lock k x ≡ true → list_any (is_lock k) xs ≡ false
first_only k x xs after same = ap (λ l. list_any (is_lock l) xs) (sym (same_lock k x same)) ∙ after_isnt x xs after

pub same_rising : (xs ys : List LockName) → Rising xs → Rising ys → ((k : LockName) → list_any (is_lock k) xs ≡ list_any (is_lock k) ys) → xs ≡ ys
same_rising [] [] h g same = refl
same_rising [] (y ∷ ys) h g same = absurd (cc (same y ∙ ap (λ b. b || list_any (is_lock y) ys) (lock_self y)))
same_rising (x ∷ xs) [] h g same = absurd (cc (sym (same x) ∙ ap (λ b. b || list_any (is_lock x) xs) (lock_self x)))
same_rising (x ∷ xs) (y ∷ ys) h g same = by (is_lock x y) refl (same_rising xs ys h.1 g.1)
  where
    by : (b : Bool) → is_lock x y ≡ b → (((k : LockName) → list_any (is_lock k) xs ≡ list_any (is_lock k) ys) → xs ≡ ys) → x ∷ xs ≡ y ∷ ys
    by true e later =
        let it : y ≡ x = same_lock x y e in
        let rest : xs ≡ ys = later (λ k. in_rest (is_lock k x) (list_any (is_lock k) xs) (list_any (is_lock k) ys)
        (λ first. (first_only k x xs h.0 first, first_only k y ys g.0 (ap (is_lock k) it ∙ first)))
        (same k ∙ ap (λ l. is_lock k l || list_any (is_lock k) ys) it)) in
        λ i. sym it i ∷ rest i
    by false e later =
        let x_there : list_any (is_lock x) ys ≡ true = sym (ap (λ b. b || list_any (is_lock x) ys) e) ∙ (sym (same x) ∙ ap (λ b. b || list_any (is_lock x) xs) (lock_self x)) in
        let y_there : list_any (is_lock y) xs ≡ true = sym (ap (λ b. b || list_any (is_lock y) xs) (lock_either_way y x ∙ e)) ∙ (same y ∙ ap (λ b. b || list_any (is_lock y) ys) (lock_self y)) in
        absurd (not_before_itself y (before_before y x y (all_in (λ j. is_lock_before y j ≡ true) x ys g.0 x_there) (all_in (λ j. is_lock_before x j ≡ true) y xs h.0 y_there)))

-- what holds of each holds of each that is left
all_left : (P : LockName → Type 0) (test : LockName → Bool) (locks : List LockName) → AllByRecursion P locks → AllByRecursion P (filter test locks)
all_left P test [] h = tt
all_left P test (l ∷ locks) h = by (test l) (all_left P test locks h.1)
  where
    by : (b : Bool) → AllByRecursion P (filter test locks) → AllByRecursion P (cond b (l ∷ filter test locks) (filter test locks))
    by true later = (h.0, later)
    by false later = later

-- a part of a list that rises does
pub rising_left : (test : LockName → Bool) (locks : List LockName) → Rising locks → Rising (filter test locks)
rising_left test [] h = tt
rising_left test (l ∷ locks) h = by (test l) (rising_left test locks h.1)
  where
    by : (b : Bool) → Rising (filter test locks) → Rising (cond b (l ∷ filter test locks) (filter test locks))
    by true later = (all_left (λ k. is_lock_before l k ≡ true) test locks h.0, later)
    by false later = later

-- which locks are left
pub among_left : (k : LockName) (test : LockName → Bool) (locks : List LockName) → list_any (is_lock k) (filter test locks) ≡ (list_any (is_lock k) locks && test k)
among_left k test [] = refl
among_left k test (l ∷ locks) = by (is_lock k l) refl (test l) refl (among_left k test locks)
  where
    none_left : (b : Bool) → (b && false) ≡ false
    none_left true = refl
    none_left false = refl

    by : (a : Bool) → is_lock k l ≡ a → (b : Bool) → test l ≡ b → list_any (is_lock k) (filter test locks) ≡ (list_any (is_lock k) locks && test k)
        → list_any (is_lock k) (cond b (l ∷ filter test locks) (filter test locks)) ≡ ((a || list_any (is_lock k) locks) && test k)
    by true same true passes later =
        let it : test k ≡ true = ap test (sym (same_lock k l same)) ∙ passes in
        ap (λ b. b || list_any (is_lock k) (filter test locks)) same ∙ sym it
    by true same false fails later =
        let it : test k ≡ false = ap test (sym (same_lock k l same)) ∙ fails in
        later ∙ (ap (λ b. list_any (is_lock k) locks && b) it ∙ (none_left (list_any (is_lock k) locks) ∙ sym it))
    by false differ true passes later = ap (λ b. b || list_any (is_lock k) (filter test locks)) differ ∙ later
    by false differ false fails later = later

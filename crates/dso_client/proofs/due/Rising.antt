-- Lists of locks that rise have each lock once.
use Rattle.std.specs.List.{list_any, AllByRecursion}
use Rattle.std.proofs.Common.{ℕ, ◌≡◌, refl, ◌∙◌, ap, Bool, true, false, cond, eqb, ◌||◌, List, [], ◌∷◌, arith}
use Rattle.std.specs.Prelude.{ltb}
use Rattle.std.proofs.lemmas.Bool.Decides.{nat_tests}
use Rattle.dso_base.specs.declared.journal.Entry.{Entry}
use Rattle.dso_base.specs.declared.journal.Input.{Input}
use Rattle.dso_base.specs.declared.journal.Input.TheVariants.{TookDown}
use Rattle.dso_base.specs.declared.lock.LockName.{LockName}
use Rattle.dso_base.specs.declared.lock.LockName.TheVariants.{Mon, Name}
use Rattle.dso_base.specs.declared.message.Down.{Down}
use Rattle.dso_base.specs.declared.message.Down.TheVariants as down
use Rattle.dso_plain.specs.KeyTests.{is_lock}
use Rattle.dso_law.specs.Entries.{by_taken_down}
use Rattle.dso_law.specs.Leases.{is_lock_before, insert_lock, granted_by, granted}
use Rattle.dso_client.specs.LeaseReturns.{Distinct, Rising}

-- numbers are ordered
below_below : (a b c : ℕ) → ltb a b ≡ true → ltb b c ≡ true → ltb a c ≡ true
below_below a b c e d = grind (arith, nat_tests)

not_below : (a b : ℕ) → eqb b a ≡ false → ltb a b ≡ false → ltb b a ≡ true
not_below a b e d = grind (arith, nat_tests)

isnt_itself : (a b : ℕ) → ltb a b ≡ true → eqb b a ≡ false
isnt_itself a b e = grind (arith, nat_tests)

-- and so are locks
pub before_before : (l k j : LockName) → is_lock_before l k ≡ true → is_lock_before k j ≡ true → is_lock_before l j ≡ true
before_before (Mon a) (Mon b) (Mon c) e d = below_below a b c e d
before_before (Mon a) (Mon b) (Name c) e d = refl
before_before (Mon a) (Name b) (Mon c) e d = absurd (cc d)
before_before (Mon a) (Name b) (Name c) e d = refl
before_before (Name a) (Mon b) j e d = absurd (cc e)
before_before (Name a) (Name b) (Mon c) e d = absurd (cc d)
before_before (Name a) (Name b) (Name c) e d = below_below a b c e d

isnt_before : (l k : LockName) → is_lock l k ≡ false → is_lock_before l k ≡ false → is_lock_before k l ≡ true
isnt_before (Mon a) (Mon b) e d = not_below a b e d
isnt_before (Mon a) (Name b) e d = absurd (cc d)
isnt_before (Name a) (Mon b) e d = refl
isnt_before (Name a) (Name b) e d = not_below a b e d

pub before_isnt : (l k : LockName) → is_lock_before l k ≡ true → is_lock l k ≡ false
before_isnt (Mon a) (Mon b) e = isnt_itself a b e
before_isnt (Mon a) (Name b) e = refl
before_isnt (Name a) (Mon b) e = refl
before_isnt (Name a) (Name b) e = isnt_itself a b e

-- what stands after a lock isn't that lock
pub after_isnt : (l : LockName) (locks : List LockName) → AllByRecursion (λ k. is_lock_before l k ≡ true) locks → list_any (is_lock l) locks ≡ false
after_isnt l [] h = refl
after_isnt l (k ∷ locks) h = ap (λ b. b || list_any (is_lock l) locks) (before_isnt l k h.0) ∙ after_isnt l locks h.1

pub rising_distinct : (locks : List LockName) → Rising locks → Distinct locks
rising_distinct [] h = tt
rising_distinct (l ∷ locks) h = (after_isnt l locks h.0, rising_distinct locks h.1)

-- a lock before the first stands before all
before_all : (l k : LockName) (locks : List LockName) → is_lock_before l k ≡ true → AllByRecursion (λ j. is_lock_before k j ≡ true) locks → AllByRecursion (λ j. is_lock_before l j ≡ true) locks
before_all l k [] e h = tt
before_all l k (j ∷ locks) e h = (before_before l k j e h.0, before_all l k locks e h.1)

-- a list that follows a lock still does with one more that does
insert_after : (l k : LockName) (locks : List LockName) → is_lock_before k l ≡ true → AllByRecursion (λ j. is_lock_before k j ≡ true) locks → AllByRecursion (λ j. is_lock_before k j ≡ true) (insert_lock l locks)
insert_after l k [] e h = (e, tt)
insert_after l k (first ∷ rest) e h = by (is_lock l first) (is_lock_before l first) (insert_after l k rest e h.1)
  where
    by : (b d : Bool) → AllByRecursion (λ j. is_lock_before k j ≡ true) (insert_lock l rest) → AllByRecursion (λ j. is_lock_before k j ≡ true) (cond b (first ∷ rest) (cond d (l ∷ first ∷ rest) (first ∷ insert_lock l rest)))
    by true d later = h
    by false true later = (e, h)
    by false false later = (h.0, later)

pub insert_rising : (l : LockName) (locks : List LockName) → Rising locks → Rising (insert_lock l locks)
insert_rising l [] h = (tt, tt)
insert_rising l (first ∷ rest) h = by (is_lock l first) (is_lock_before l first) (insert_rising l rest h.1) refl refl
  where
    by : (b d : Bool) → Rising (insert_lock l rest) → is_lock l first ≡ b → is_lock_before l first ≡ d → Rising (cond b (first ∷ rest) (cond d (l ∷ first ∷ rest) (first ∷ insert_lock l rest)))
    by true d later e f = h
    by false true later e f = ((f, before_all l first rest f h.0), h)
    by false false later e f = (insert_after l first rest (isnt_before l first e f) h.0, later)

-- the locks that were granted rise
granted_one : (m : Down) (locks : List LockName) → Rising locks → Rising (granted_by m locks)
granted_one (down.Grant l level) locks h = insert_rising l locks h
granted_one m locks h = h

granted_more : (input : Input) (locks : List LockName) → Rising locks → Rising (by_taken_down granted_by input locks)
granted_more (TookDown m) locks h = granted_one m locks h
granted_more input locks h = h

pub granted_rises : (es : List Entry) → Rising (granted es)
granted_rises [] = tt
granted_rises (e ∷ es) = granted_more e.input (granted es) (granted_rises es)

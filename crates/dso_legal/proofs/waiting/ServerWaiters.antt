-- What the server's entries make of its lists of waiters: what is sent but wakes leaves them, and they have each thread once.
use Rattle.std.specs.List.{list_any, AllByRecursion}
use Rattle.std.proofs.Common.{ℕ, ◌≡◌, refl, sym, ◌∙◌, ap, subst, Bool, true, false, cond, not, eqb, ◌&&◌, ◌||◌, Option, Some, None, List, [], ◌∷◌, ◌++◌}
use Rattle.dso_base.specs.declared.journal.Entry.{Entry}
use Rattle.dso_base.specs.declared.journal.Sent.{Sent}
use Rattle.dso_base.specs.declared.journal.Sent.TheVariants.{ToServer, ToClient}
use Rattle.dso_base.specs.declared.lock.LockName.{LockName}
use Rattle.dso_base.specs.declared.lock.ThreadId.{ThreadId}
use Rattle.dso_base.specs.declared.message.Down.{Down}
use Rattle.dso_base.specs.declared.message.Down.TheVariants as down
use Rattle.dso_base.specs.declared.record.Body.{Body}
use Rattle.dso_base.specs.declared.record.Choice.{Choice}
use Rattle.dso_base.specs.declared.record.Choice.TheVariants.{Here, There, All}
use Rattle.dso_base.specs.declared.record.Ending.{Ending}
use Rattle.dso_base.specs.declared.record.Ending.TheVariants as ending
use Rattle.dso_base.specs.declared.record.Note.{Note}
use Rattle.dso_base.specs.declared.record.Set.{Set}
use Rattle.dso_base.specs.declared.record.Txn.{Txn}
use Rattle.dso_base.specs.Following.{is_thread}
use Rattle.dso_plain.specs.KeyTests.{is_lock}
use Rattle.dso_plain.proofs.keys.SameKeys.{same_thread, thread_self}
use Rattle.dso_law.specs.ClientWaiters.{without}
use Rattle.dso_law.specs.Entries.{by_sent_down}
use Rattle.dso_law.specs.FitsUp.{AreDistinct}
use Rattle.dso_law.specs.ServerStep.{object_to, changes_to, sets_for, changes_of}
use Rattle.dso_law.specs.ServerWaiters.{without_client, waiters_by_sent}
use Rattle.dso_law.specs.Settings.{Settings, clients_of}
use Rattle.dso_legal.specs.Places.{Place, Away, Kept, Gone, unkept, place_chosen, place_noted, places_noted, place_ended}
use Rattle.dso_legal.proofs.copies.ServerMessages.{IsOfLease}
use Rattle.dso_legal.proofs.leases.LeaseSteps.{no_both}
use Rattle.dso_legal.proofs.marks.BlockMarks.{still_once}
use Rattle.dso_legal.proofs.records.ServerSent.{EachTold, told_each_flat}
use Rattle.dso_legal.proofs.waiting.ServerWakes.{Woken}

-- a record puts nobody in the server's list: a choice doesn't,
chosen_gone : (t : ThreadId) (choice : Choice) (s : Place) → place_chosen t choice s ≡ Gone → s ≡ Gone
chosen_gone t (Here u) s = by (is_thread t u)
  where
    by : (b : Bool) → cond b Away s ≡ Gone → s ≡ Gone
    by true gone = absurd (cc gone)
    by false gone = gone
chosen_gone t There s = λ gone. gone
chosen_gone t All Away = λ gone. absurd (cc gone)
chosen_gone t All Kept = λ gone. absurd (cc gone)
chosen_gone t All Gone = λ gone. gone

-- a notification doesn't,
noted_gone : (l : LockName) (t : ThreadId) (note : Note) (s : Place) (b : Bool) → cond b (place_chosen t note.choice s) s ≡ Gone → s ≡ Gone
noted_gone l t note s true gone = chosen_gone t note.choice s gone
noted_gone l t note s false gone = gone

-- nor do all of a record's,
pub all_noted_gone : (l : LockName) (t : ThreadId) (notes : List Note) (s : Place) → places_noted l t notes s ≡ Gone → s ≡ Gone
all_noted_gone l t [] s gone = gone
all_noted_gone l t (note ∷ notes) s gone = noted_gone l t note s (is_lock l note.lock) (all_noted_gone l t notes (place_noted l t note s) gone)

-- nor its ending
pub ended_gone : (l : LockName) (t u : ThreadId) (end : Ending) (s : Place) → place_ended l t u end s ≡ Gone → s ≡ Gone
ended_gone l t u (ending.Wait k) s = by (is_lock l k && is_thread t u)
  where
    by : (b : Bool) → cond b Kept s ≡ Gone → s ≡ Gone
    by true gone = absurd (cc gone)
    by false gone = gone
ended_gone l t u (ending.Timeout k) s = by (is_lock l k && is_thread t u) s
  where
    by : (b : Bool) (s : Place) → cond b (unkept s) s ≡ Gone → s ≡ Gone
    by true Away gone = absurd (cc gone)
    by true Kept gone = absurd (cc gone)
    by true Gone gone = gone
    by false s gone = gone
ended_gone l t u (ending.Exit k) s = λ gone. gone
ended_gone l t u (ending.End fault) s = λ gone. gone

-- whether an item is in two lists
pub any_append : {X : Type 0} (test : X → Bool) (xs ys : List X) → list_any test (xs ++ ys) ≡ (list_any test xs || list_any test ys)
any_append test [] ys = refl
any_append test (x ∷ xs) ys = ap (λ b. test x || b) (any_append test xs ys) ∙ sym (joined (test x) (list_any test xs) (list_any test ys))
  where
    joined : (a b c : Bool) → ((a || b) || c) ≡ (a || (b || c))
    joined true b c = refl
    joined false b c = refl

-- what holds of each thread of a list holds of one that is found in it
pub found : (P : ThreadId → Type 0) (t : ThreadId) (ts : List ThreadId) → list_any (is_thread t) ts ≡ true → AllByRecursion P ts → P t
found P t [] there each = absurd (cc there)
found P t (u ∷ ts) there each = by (is_thread t u) refl there (found P t ts)
  where
    by : (b : Bool) → is_thread t u ≡ b → (b || list_any (is_thread t) ts) ≡ true → (list_any (is_thread t) ts ≡ true → AllByRecursion P ts → P t) → P t
    by true same there later = subst P (same_thread t u same) each.0
    by false other there later = later there each.1

-- two lists that share no thread have each once
pub once_both : (xs ys : List ThreadId) → AreDistinct xs → AreDistinct ys → AllByRecursion (λ t. list_any (is_thread t) xs ≡ false) ys → AreDistinct (xs ++ ys)
once_both [] ys once more apart = more
once_both (x ∷ xs) ys once more apart = (any_append (is_thread x) xs ys ∙ ap (λ b. b || list_any (is_thread x) ys) once.0 ∙ unlisted (list_any (is_thread x) ys) refl, once_both xs ys once.1 more (rest ys apart))
  where
    unlisted : (b : Bool) → list_any (is_thread x) ys ≡ b → b ≡ false
    unlisted true there = no_both (list_any (is_thread x) (x ∷ xs)) (ap (λ b. b || list_any (is_thread x) xs) (thread_self x)) (found (λ t. list_any (is_thread t) (x ∷ xs) ≡ false) x ys there apart)
    unlisted false none = refl

    rest : (ys : List ThreadId) → AllByRecursion (λ t. list_any (is_thread t) (x ∷ xs) ≡ false) ys → AllByRecursion (λ t. list_any (is_thread t) xs ≡ false) ys
    rest [] each = tt
    rest (y ∷ ys) each = (neither (is_thread y x) (list_any (is_thread y) xs) each.0, rest ys each.1)
      where
        neither : (a b : Bool) → (a || b) ≡ false → b ≡ false
        neither true b none = absurd (cc none)
        neither false b none = none

-- a list that a lost client's threads leave has each other one as it had
pub without_client_has : (c : ℕ) (t : ThreadId) (ts : List ThreadId) → eqb t.client c ≡ false → list_any (is_thread t) (without_client c ts) ≡ list_any (is_thread t) ts
without_client_has c t [] other = refl
without_client_has c t (u ∷ ts) other = by (eqb u.client c) refl (without_client_has c t ts other)
  where
    unlike : eqb u.client c ≡ true → (b : Bool) → is_thread t u ≡ b → b ≡ false
    unlike its true same = no_both (eqb t.client c) (subst (λ (x : ThreadId). eqb x.client c ≡ true) (same_thread t u same) its) other
    unlike its false same = refl

    by : (b : Bool) → eqb u.client c ≡ b → list_any (is_thread t) (without_client c ts) ≡ list_any (is_thread t) ts
        → list_any (is_thread t) (cond (not b) (u ∷ without_client c ts) (without_client c ts)) ≡ (is_thread t u || list_any (is_thread t) ts)
    by true its later = later ∙ sym (ap (λ b. b || list_any (is_thread t) ts) (unlike its (is_thread t u) refl))
    by false its later = ap (λ b. is_thread t u || b) later

pub without_client_once : (c : ℕ) (ts : List ThreadId) → AreDistinct ts → AreDistinct (without_client c ts)
without_client_once c [] once = tt
without_client_once c (t ∷ ts) once = by (eqb t.client c) refl (without_client_once c ts once.1)
  where
    by : (b : Bool) → eqb t.client c ≡ b → AreDistinct (without_client c ts) → AreDistinct (cond (not b) (t ∷ without_client c ts) (without_client c ts))
    by true its later = later
    by false other later = (without_client_has c t ts other ∙ once.0, later)

-- the message wakes nobody
abbrev pub IsNoWake : Down → Type 0
IsNoWake (down.Wake l t) = ⊥
IsNoWake m = Unit {0}

pub lease_wakes_none : (m : Down) → IsOfLease m → IsNoWake m
lease_wakes_none (down.Grant l level) is = tt
lease_wakes_none (down.Recall l) is = tt
lease_wakes_none m is = absurd is

-- changes wake nobody
pub changes_wake_none : (p : Settings) (d : ℕ) (txn : Txn) (es : List Entry) → EachTold IsNoWake (changes_of p d txn es)
changes_wake_none p d txn es = told_each_flat IsNoWake (λ c. cond (eqb c d) [] (changes_to c (sets_for c txn es))) (clients_of p) (λ c. by c (eqb c d) (sets_for c txn es))
  where
    by : (c : ℕ) (b : Bool) (sets : List Set) → EachTold IsNoWake (cond b [] (changes_to c sets))
    by c true sets = tt
    by c false [] = tt
    by c false (set ∷ sets) = (tt, tt)

pub object_wakes_none : (c : ℕ) (body : Option Body) → EachTold IsNoWake (object_to c body)
object_wakes_none c None = tt
object_wakes_none c (Some body) = (tt, tt)

module _ (l : LockName) where
  -- what wakes nobody leaves the list
  pub none_woken : (out : List Sent) (ts : List ThreadId) → EachTold IsNoWake out → Woken l out ts ts
  none_woken [] ts quiet = record { each = tt; leaves = refl }
  none_woken (ToServer m ∷ out) ts quiet =
      let rest : Woken l out ts ts = none_woken out ts quiet in
      record { each = rest.each; leaves = rest.leaves }
  none_woken (ToClient c m ∷ out) ts quiet = by m quiet.0 (none_woken out ts quiet.1)
    where
      by : (m : Down) → IsNoWake m → Woken l out ts ts → Woken l (ToClient c m ∷ out) ts ts
      by (down.Wake k t) no_wake rest = absurd no_wake
      by m no_wake rest = record { each = (tt, rest.each); leaves = rest.leaves }

  -- a list keeps its threads once each as some are woken
  pub sent_once : (out : List Sent) (ts : List ThreadId) → AreDistinct ts → AreDistinct (by_sent_down (waiters_by_sent l) out ts)
  sent_once [] ts once = once
  sent_once (ToServer m ∷ out) ts once = sent_once out ts once
  sent_once (ToClient c m ∷ out) ts once = sent_once out (waiters_by_sent l c m ts) (by m)
    where
      woken : (u : ThreadId) (b : Bool) → AreDistinct (cond b (without u ts) ts)
      woken u true = still_once u ts once
      woken u false = once

      by : (m : Down) → AreDistinct (waiters_by_sent l c m ts)
      by (down.Wake k u) = woken u (is_lock l k)
      by m = once

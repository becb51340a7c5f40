-- Messages that leave a part of the server as it is.
use Rattle.std.proofs.Common.{ℕ, ◌≡◌, refl, ◌∙◌, Bool, true, false, cond, List, [], ◌∷◌}
use Rattle.std.specs.List.{AllByRecursion, list_any}
use Rattle.std.specs.declared.vec.Vec.{Vec}
use Rattle.dso_base.specs.declared.journal.Sent.{Sent}
use Rattle.dso_base.specs.declared.lock.LockName.{LockName}
use Rattle.dso_base.specs.declared.lock.ThreadId.{ThreadId}
use Rattle.dso_base.specs.declared.record.Ending.{Ending}
use Rattle.dso_base.specs.declared.record.Ending.TheVariants as ending
use Rattle.dso_base.specs.declared.record.Note.{Note}
use Rattle.dso_base.specs.declared.record.Set.{Set}
use Rattle.dso_base.specs.declared.record.Txn.{Txn}
use Rattle.dso_base.specs.Following.{is_thread}
use Rattle.dso_law.specs.Entries.{by_sent_down, one_sent_down}
use Rattle.dso_law.specs.ServerReadings.{Batch, batch_by}
use Rattle.dso_law.specs.ServerWaiters.{lists_after, lists_noted, waiters_by_sent, waiters_woken, wake_each, wakes, wakes_of, wakes_timed_out}
use Rattle.dso_locks.specs.declared.told.Told.{Told}
use Rattle.dso_locks.specs.declared.told.Told.TheVariants as told
use Rattle.dso_locks.specs.Locks as locks
use Rattle.dso_locks.specs.Locks.{LockState, told_to}
use Rattle.dso_store.specs.Changes as changes
use Rattle.dso_server.proofs.lists.Lists.{each_append}

-- it gives no batch of ids
abbrev pub OffIds : Sent → Type 0
OffIds m = (given : List Batch) → one_sent_down batch_by given m ≡ given

-- it tells nothing of a lock
abbrev pub OffLocks : Sent → Type 0
OffLocks m = (l : LockName) (s : LockState) → one_sent_down (told_to l) s m ≡ s

-- it wakes nobody
abbrev pub OffWaiters : Sent → Type 0
OffWaiters m = (l : LockName) (list : List ThreadId) → one_sent_down (waiters_by_sent l) list m ≡ list

pub ids_stay : (sent : List Sent) (given : List Batch) → AllByRecursion OffIds sent → by_sent_down batch_by sent given ≡ given
ids_stay [] given off = refl
ids_stay (m ∷ sent) given off = ids_stay sent (one_sent_down batch_by given m) off.1 ∙ off.0 given

pub locks_stay : (l : LockName) (sent : List Sent) (s : LockState) → AllByRecursion OffLocks sent → by_sent_down (told_to l) sent s ≡ s
locks_stay l [] s off = refl
locks_stay l (m ∷ sent) s off = locks_stay l sent (one_sent_down (told_to l) s m) off.1 ∙ off.0 l s

pub waiters_stay : (l : LockName) (sent : List Sent) (list : List ThreadId) → AllByRecursion OffWaiters sent → by_sent_down (waiters_by_sent l) sent list ≡ list
waiters_stay l [] list off = refl
waiters_stay l (m ∷ sent) list off = waiters_stay l sent (one_sent_down (waiters_by_sent l) list m) off.1 ∙ off.0 l list

-- news of locks give no ids and wake nobody
pub told_off_ids : (all : List Told) → AllByRecursion OffIds (locks.messages_of all)
told_off_ids [] = tt
told_off_ids (told.Grant c l level ∷ all) = (λ given. refl, told_off_ids all)
told_off_ids (told.Recall c l ∷ all) = (λ given. refl, told_off_ids all)

pub told_off_waiters : (all : List Told) → AllByRecursion OffWaiters (locks.messages_of all)
told_off_waiters [] = tt
told_off_waiters (told.Grant c l level ∷ all) = (λ k list. refl, told_off_waiters all)
told_off_waiters (told.Recall c l ∷ all) = (λ k list. refl, told_off_waiters all)

-- changes neither, and they tell nothing of locks
pub changes_off_ids : {Z : Type 0} (all : List (ℕ × Vec Set Z)) → AllByRecursion OffIds (changes.messages_of all)
changes_off_ids [] = tt
changes_off_ids (change ∷ all) = (λ given. refl, changes_off_ids all)

pub changes_off_locks : {Z : Type 0} (all : List (ℕ × Vec Set Z)) → AllByRecursion OffLocks (changes.messages_of all)
changes_off_locks [] = tt
changes_off_locks (change ∷ all) = (λ l s. refl, changes_off_locks all)

pub changes_off_waiters : {Z : Type 0} (all : List (ℕ × Vec Set Z)) → AllByRecursion OffWaiters (changes.messages_of all)
changes_off_waiters [] = tt
changes_off_waiters (change ∷ all) = (λ l list. refl, changes_off_waiters all)

-- wakes give no ids and tell nothing of locks
module _ (P : Sent → Type 0) (one : (l : LockName) (t : ThreadId) → AllByRecursion P (wake_each l (t ∷ []))) where
  each_woken : (l : LockName) (threads : List ThreadId) → AllByRecursion P (wake_each l threads)
  each_woken l [] = tt
  each_woken l (t ∷ threads) = ((one l t).0, each_woken l threads)

  each_noted : (notes : List Note) (lists : LockName → List ThreadId) → AllByRecursion P (wakes notes lists)
  each_noted [] lists = tt
  each_noted (note ∷ notes) lists = each_append P (wake_each note.lock (waiters_woken note.choice (lists note.lock))) (wakes notes (lists_after note.lock note.choice lists)) (each_woken note.lock (waiters_woken note.choice (lists note.lock))) (each_noted notes (lists_after note.lock note.choice lists))

  each_timed_out : (t : ThreadId) (e : Ending) (lists : LockName → List ThreadId) → AllByRecursion P (wakes_timed_out t e lists)
  each_timed_out t (ending.Exit l) lists = tt
  each_timed_out t (ending.Wait l) lists = tt
  each_timed_out t (ending.End fault) lists = tt
  each_timed_out t (ending.Timeout l) lists = by (list_any (is_thread t) (lists l))
    where
      by : (b : Bool) → AllByRecursion P (cond b (wake_each l (t ∷ [])) [])
      by true = one l t
      by false = tt

  pub each_wake : (txn : Txn) (lists : LockName → List ThreadId) → AllByRecursion P (wakes_of txn lists)
  each_wake txn lists = each_append P (wakes txn.notes lists) (wakes_timed_out txn.thread txn.ending (lists_noted txn.notes lists)) (each_noted txn.notes lists) (each_timed_out txn.thread txn.ending (lists_noted txn.notes lists))

pub wakes_off_ids : (txn : Txn) (lists : LockName → List ThreadId) → AllByRecursion OffIds (wakes_of txn lists)
wakes_off_ids = each_wake OffIds (λ l t. (λ given. refl, tt))

pub wakes_off_locks : (txn : Txn) (lists : LockName → List ThreadId) → AllByRecursion OffLocks (wakes_of txn lists)
wakes_off_locks = each_wake OffLocks (λ l t. (λ k s. refl, tt))

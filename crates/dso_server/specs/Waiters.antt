-- The server's lists of waiters, as one function of locks.
use Rattle.std.specs.BTreeMap.{BTreeMap}
use Rattle.std.specs.Prelude.{ℕ, cond, Option, Some, None, List, [], ◌++◌}
use Rattle.dso_base.specs.declared.lock.LockName.{LockName}
use Rattle.dso_base.specs.declared.lock.ThreadId.{ThreadId}
use Rattle.dso_base.specs.declared.record.Ending.{Ending}
use Rattle.dso_base.specs.declared.record.Ending.TheVariants as ending
use Rattle.dso_base.specs.declared.record.Txn.{Txn}
use Rattle.dso_law.specs.ClientWaiters.{without}
use Rattle.dso_law.specs.ServerWaiters.{lists_noted, without_client}
use Rattle.dso_lookup.specs.Maps.{look}
use Rattle.dso_lookup.specs.Orders.{lock_order}
use Rattle.dso_plain.specs.KeyTests.{is_lock}

-- the list that is there, the empty one where there is none
abbrev pub list_there : Option (List ThreadId) → List ThreadId
list_there None = []
list_there (Some threads) = threads

-- the list of each lock
abbrev pub lists_in : BTreeMap LockName (List ThreadId) → LockName → List ThreadId
lists_in waiters l = list_there (look lock_order waiters l)

-- the lists once one of them changed
abbrev pub at_list : LockName → (List ThreadId → List ThreadId) → (LockName → List ThreadId) → LockName → List ThreadId
at_list l change lists k = cond (is_lock l k) (change (lists k)) (lists k)

-- the lists after the threads of a return of the lock came
abbrev pub lists_returned : LockName → List ThreadId → (LockName → List ThreadId) → LockName → List ThreadId
lists_returned l threads lists = at_list l (λ list. list ++ threads) lists

-- the lists after the thread timed out, if the record ends so
abbrev pub lists_timed_out : ThreadId → Ending → (LockName → List ThreadId) → LockName → List ThreadId
lists_timed_out t (ending.Timeout l) lists = at_list l (without t) lists
lists_timed_out t other lists = lists

-- the lists after all that a record wakes
abbrev pub lists_woken : Txn → (LockName → List ThreadId) → LockName → List ThreadId
lists_woken txn lists = lists_timed_out txn.thread txn.ending (lists_noted txn.notes lists)

-- the lists without the client's threads
abbrev pub lists_without : ℕ → (LockName → List ThreadId) → LockName → List ThreadId
lists_without c lists l = without_client c (lists l)

-- The server's lists of waiters, and whom a record wakes. The entries are those that count.
use Rattle.std.specs.List.{list_any}
use Rattle.std.specs.Prelude.{ℕ, cond, not, eqb, List, [], ◌∷◌, ◌++◌, map, filter, drop}
use Rattle.dso_base.specs.declared.journal.Entry.{Entry}
use Rattle.dso_base.specs.declared.journal.Input.{Input}
use Rattle.dso_base.specs.declared.journal.Input.TheVariants.{TookUp, Lose}
use Rattle.dso_base.specs.declared.journal.Sent.{Sent}
use Rattle.dso_base.specs.declared.journal.Sent.TheVariants.{ToClient}
use Rattle.dso_base.specs.declared.lock.LockName.{LockName}
use Rattle.dso_base.specs.declared.lock.ThreadId.{ThreadId}
use Rattle.dso_base.specs.declared.message.Down.{Down}
use Rattle.dso_base.specs.declared.message.Down.TheVariants as down
use Rattle.dso_base.specs.declared.message.Up.{Up}
use Rattle.dso_base.specs.declared.message.Up.TheVariants as up
use Rattle.dso_base.specs.declared.record.Choice.{Choice}
use Rattle.dso_base.specs.declared.record.Choice.TheVariants.{Here, There, All}
use Rattle.dso_base.specs.declared.record.Ending.{Ending}
use Rattle.dso_base.specs.declared.record.Ending.TheVariants as ending
use Rattle.dso_base.specs.declared.record.Note.{Note}
use Rattle.dso_base.specs.declared.record.Txn.{Txn}
use Rattle.dso_base.specs.Following.{is_thread}
use Rattle.dso_plain.specs.KeyTests.{is_lock}
use Rattle.dso_law.specs.Entries.{by_sent_down}
use Rattle.dso_law.specs.ClientWaiters.{without}

-- the threads without those of the client
abbrev pub without_client : ℕ → List ThreadId → List ThreadId
without_client c threads = filter (λ t. not (eqb t.client c)) threads

-- the threads of a return of the lock stand at the end of its list
abbrev pub waiters_by_message : LockName → Up → List ThreadId → List ThreadId
waiters_by_message l (up.Return k threads) waiters = cond (is_lock l k) (waiters ++ threads) waiters
waiters_by_message l m waiters = waiters

-- the list of the lock after an input: the threads of a return come, those of a lost client leave
abbrev pub waiters_by : LockName → Input → List ThreadId → List ThreadId
waiters_by l (TookUp c m) waiters = waiters_by_message l m waiters
waiters_by l (Lose c) waiters = without_client c waiters
waiters_by l input waiters = waiters

-- a thread that is woken leaves the list of its lock
abbrev pub waiters_by_sent : LockName → ℕ → Down → List ThreadId → List ThreadId
waiters_by_sent l c (down.Wake k t) waiters = cond (is_lock l k) (without t waiters) waiters
waiters_by_sent l c m waiters = waiters

-- Waiters: the server's list of a lock, the threads of the returns of the lock in order, without those woken since and
-- those of lost clients. A thread in the list whose timeout is taken is woken by the same entry, and so leaves the
-- list.
abbrev pub waiters_of : LockName → List Entry → List ThreadId
waiters_of l [] = []
waiters_of l (e ∷ es) = by_sent_down (waiters_by_sent l) e.sent (waiters_by l e.input (waiters_of l es))

-- the list of the first alone
abbrev pub first_only : List ThreadId → List ThreadId
first_only [] = []
first_only (t ∷ ts) = t ∷ []

-- whom a choice wakes of a list: the server's first, the whole list, nobody where the client woke one itself
abbrev pub waiters_woken : Choice → List ThreadId → List ThreadId
waiters_woken There list = first_only list
waiters_woken All list = list
waiters_woken (Here t) list = []

-- whom a choice leaves in the list
abbrev pub waiters_left : Choice → List ThreadId → List ThreadId
waiters_left There list = drop 1 list
waiters_left All list = []
waiters_left (Here t) list = list

-- the lists after a choice for the lock
abbrev pub lists_after : LockName → Choice → (LockName → List ThreadId) → LockName → List ThreadId
lists_after l choice lists k = cond (is_lock l k) (waiters_left choice (lists k)) (lists k)

-- a message to each thread woken
abbrev pub wake_each : LockName → List ThreadId → List Sent
wake_each l threads = map (λ t. ToClient t.client (down.Wake l t)) threads

-- for each notification in order the messages to those it wakes
abbrev pub wakes : List Note → (LockName → List ThreadId) → List Sent
wakes [] lists = []
wakes (note ∷ notes) lists = wake_each note.lock (waiters_woken note.choice (lists note.lock))
    ++ wakes notes (lists_after note.lock note.choice lists)

-- the lists after all the notifications
abbrev pub lists_noted : List Note → (LockName → List ThreadId) → LockName → List ThreadId
lists_noted [] lists = lists
lists_noted (note ∷ notes) lists = lists_noted notes (lists_after note.lock note.choice lists)

-- the message to the thread of a timeout, where it stands in the list of that lock
abbrev pub wakes_timed_out : ThreadId → Ending → (LockName → List ThreadId) → List Sent
wakes_timed_out t (ending.Exit l) lists = []
wakes_timed_out t (ending.Wait l) lists = []
wakes_timed_out t (ending.End fault) lists = []
wakes_timed_out t (ending.Timeout l) lists = cond (list_any (is_thread t) (lists l)) (wake_each l (t ∷ [])) []

-- Waking: the messages to those whom a record's notifications wake, in their order; then, where it ended by a timeout
-- and its thread still stands in the list of that lock, the message to the thread.
abbrev pub wakes_of : Txn → (LockName → List ThreadId) → List Sent
wakes_of txn lists = wakes txn.notes lists ++ wakes_timed_out txn.thread txn.ending (lists_noted txn.notes lists)

-- The history that a journal commits. Entries stand with the newest first, the events of a history with the first
-- first.
use Rattle.std.specs.Prelude.{ℕ, zero, suc, cond, Option, Some, None, List, [], ◌∷◌, ◌++◌, slice_get}
use Rattle.dso_base.specs.declared.journal.Entry.{Entry}
use Rattle.dso_base.specs.declared.journal.Input.{Input}
use Rattle.dso_base.specs.declared.journal.Input.TheVariants as input
use Rattle.dso_base.specs.declared.journal.Journal.{Journal}
use Rattle.dso_base.specs.declared.journal.Node.{Node}
use Rattle.dso_base.specs.declared.journal.Node.TheVariants.{Server, Client}
use Rattle.dso_base.specs.declared.lock.LockName.{LockName}
use Rattle.dso_base.specs.declared.lock.ThreadId.{ThreadId}
use Rattle.dso_base.specs.declared.message.Up.TheVariants as up
use Rattle.dso_base.specs.declared.record.Choice.TheVariants.{Here, There, All}
use Rattle.dso_base.specs.declared.record.Ending.{Ending}
use Rattle.dso_base.specs.declared.request.Event.{Event}
use Rattle.dso_base.specs.declared.request.Event.TheVariants.{Act, Lost}
use Rattle.dso_base.specs.declared.request.Reply.{Reply}
use Rattle.dso_base.specs.declared.request.Reply.TheVariants.{Done}
use Rattle.dso_base.specs.declared.request.Request.{Request}
use Rattle.dso_base.specs.declared.request.Request.TheVariants.{New, Look, Get, Put, Enter, Exit, Wait, Tick, Timeout}
use Rattle.dso_base.specs.declared.request.Request.TheVariants.{Resume, Notify, NotifyAll, Print, End, Pause, Settle}
use Rattle.dso_law.specs.Entries.{newest_first, entries_of, by_event}
use Rattle.dso_law.specs.Threads.{locks_of, ending_of, open_block}
use Rattle.dso_law.specs.Replies.{first_of_list}
use Rattle.dso_law.specs.ServerReadings.{is_lost, counted}
use Rattle.dso_law.specs.ServerWaiters.{waiters_of, lists_after}

-- a list of events, as the one block of a list where there is an ending
abbrev pub block_if : Option Ending → List Event → List (List Event)
block_if None block = []
block_if (Some ending) block = block ∷ []

-- the block that the event ends: the open block of its thread with it, as a list
abbrev pub ended_by : Event → List Entry → List (List Event)
ended_by (Act thread request reply woken) es = block_if
    (ending_of (Act thread request reply woken) (locks_of thread es))
    (open_block thread es ++ Act thread request reply woken ∷ [])
ended_by (Lost client) es = []

-- the blocks of a client's threads in the order of their endings, by the client's entries
abbrev pub ended_blocks : List Entry → List (List Event)
ended_blocks [] = []
ended_blocks (e ∷ es) = by_event (λ event blocks. blocks ++ ended_by event es) e.event (ended_blocks es)

-- the list, empty where there is none
abbrev pub or_empty : {X : Type 0} → Option (List X) → List X
or_empty None = []
or_empty (Some xs) = xs

-- the block of this number, counted from 1; empty where there is none
abbrev pub block_numbered : ℕ → List (List Event) → List Event
block_numbered zero blocks = []
block_numbered (suc n) blocks = or_empty (slice_get blocks n)

-- whom the server woke for an act, by its lists: for a done Notify that woke nobody at its client the first of the list
abbrev pub woken_there : Request → Reply → Option ThreadId → (LockName → List ThreadId) → Option ThreadId
woken_there (New class n) reply woken lists = woken
woken_there (Look o) reply woken lists = woken
woken_there (Get o f) reply woken lists = woken
woken_there (Put o f v) reply woken lists = woken
woken_there (Enter l level) reply woken lists = woken
woken_there (Exit l) reply woken lists = woken
woken_there (Wait l) reply woken lists = woken
woken_there (Tick l) reply woken lists = woken
woken_there (Timeout l) reply woken lists = woken
woken_there (Resume l) reply woken lists = woken
woken_there (Notify l) Done None lists = first_of_list (lists l)
woken_there (Notify l) reply woken lists = woken
woken_there (NotifyAll l) reply woken lists = woken
woken_there (Print v) reply woken lists = woken
woken_there (End fault) reply woken lists = woken
woken_there Pause reply woken lists = woken
woken_there Settle reply woken lists = woken

-- the server's lists after an act's notification (a timeout notifies nobody, and is the last act of its block)
abbrev pub lists_after_act : Request → Reply → Option ThreadId → (LockName → List ThreadId) → LockName → List ThreadId
lists_after_act (New class n) reply woken lists = lists
lists_after_act (Look o) reply woken lists = lists
lists_after_act (Get o f) reply woken lists = lists
lists_after_act (Put o f v) reply woken lists = lists
lists_after_act (Enter l level) reply woken lists = lists
lists_after_act (Exit l) reply woken lists = lists
lists_after_act (Wait l) reply woken lists = lists
lists_after_act (Tick l) reply woken lists = lists
lists_after_act (Timeout l) reply woken lists = lists
lists_after_act (Resume l) reply woken lists = lists
lists_after_act (Notify l) Done None lists = lists_after l There lists
lists_after_act (Notify l) Done (Some woken) lists = lists_after l (Here woken) lists
lists_after_act (Notify l) reply woken lists = lists
lists_after_act (NotifyAll l) Done woken lists = lists_after l All lists
lists_after_act (NotifyAll l) reply woken lists = lists
lists_after_act (Print v) reply woken lists = lists
lists_after_act (End fault) reply woken lists = lists
lists_after_act Pause reply woken lists = lists
lists_after_act Settle reply woken lists = lists

-- an event with whom the server woke for it
abbrev pub resolved_event : Event → (LockName → List ThreadId) → Event
resolved_event (Act thread request reply woken) lists = Act thread request reply (woken_there request reply woken lists)
resolved_event (Lost client) lists = Lost client

-- the lists after an event's notification
abbrev pub lists_after_event : Event → (LockName → List ThreadId) → LockName → List ThreadId
lists_after_event (Act thread request reply woken) lists = lists_after_act request reply woken lists
lists_after_event (Lost client) lists = lists

-- Resolved: the events of a block, where each Notify that left the choice to the server has the thread that it woke.
abbrev pub resolved : List Event → (LockName → List ThreadId) → List Event
resolved [] lists = []
resolved (event ∷ events) lists = resolved_event event lists ∷ resolved events (lists_after_event event lists)

-- the block of client c's ending of this number, resolved at the server's lists
abbrev pub block_taken : ℕ → ℕ → List Entry → List Event
block_taken c seq es = resolved (block_numbered seq (ended_blocks (entries_of (Client c) es)))
    (λ l. waiters_of l (counted (entries_of Server es)))

-- what an entry of the server gives: a record of a client that isn't lost its block, a loss its event
abbrev pub committed_by : Input → List Entry → List Event
committed_by (input.TookUp c (up.Commit txn)) es = cond (is_lost c (entries_of Server es)) [] (block_taken c txn.seq es)
committed_by (input.Lose c) es = Lost c ∷ []
committed_by other es = []

-- an entry of a client gives nothing
abbrev pub committed_at : Node → Input → List Entry → List Event
committed_at Server input es = committed_by input es
committed_at (Client c) input es = []

-- The committed history: for each entry of the server in order what it gives. So blocks stand where the server took
-- their records.
abbrev pub committed : List Entry → List Event
committed [] = []
committed (e ∷ es) = committed es ++ committed_at e.node e.input es

-- The committed history of a journal, whose first entry stands first.
abbrev pub committed_of : Journal → List Event
committed_of journal = committed (newest_first journal)

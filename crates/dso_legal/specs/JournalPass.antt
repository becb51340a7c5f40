-- The committed history by one pass over a journal: what is kept after some entries, and what one more entry makes of
-- it.
use Rattle.std.specs.Prelude.{ℕ, suc, ◌-◌, ◌<◌, ◌^◌, Bool, true, false, cond, eqb, is_some, Option, Some, None, List}
use Rattle.std.specs.Prelude.{[], ◌∷◌, ◌++◌}
use Rattle.std.specs.Option.{unwrap_or, option_map}
use Rattle.dso_base.specs.declared.journal.Entry.{Entry}
use Rattle.dso_base.specs.declared.journal.Input.{Input}
use Rattle.dso_base.specs.declared.journal.Input.TheVariants.{TookUp, Lose}
use Rattle.dso_base.specs.declared.journal.Node.{Node}
use Rattle.dso_base.specs.declared.journal.Node.TheVariants.{Server, Client}
use Rattle.dso_base.specs.declared.journal.Sent.{Sent}
use Rattle.dso_base.specs.declared.lock.Level.TheVariants.{Write}
use Rattle.dso_base.specs.declared.lock.LockName.{LockName}
use Rattle.dso_base.specs.declared.lock.ThreadId.{ThreadId}
use Rattle.dso_base.specs.declared.message.Up.TheVariants.{Commit}
use Rattle.dso_base.specs.declared.request.Event.{Event}
use Rattle.dso_base.specs.declared.request.Event.TheVariants.{Act, Lost}
use Rattle.dso_base.specs.declared.request.Reply.{Reply}
use Rattle.dso_base.specs.declared.request.Reply.TheVariants.{Done}
use Rattle.dso_base.specs.declared.request.Request.{Request}
use Rattle.dso_base.specs.declared.request.Request.TheVariants.{New, Look, Get, Put, Enter, Exit, Wait, Tick, Timeout}
use Rattle.dso_base.specs.declared.request.Request.TheVariants.{Resume, Notify, NotifyAll, Print, End, Pause, Settle}
use Rattle.dso_lookup.specs.Maps.{written, writes}
use Rattle.dso_plain.specs.KeyTests.{is_lock}
use Rattle.dso_plain.specs.History.{is_act_of}
use Rattle.dso_plain.specs.State.{Hold}
use Rattle.dso_law.specs.Entries.{entries_of, by_event, by_sent_down}
use Rattle.dso_law.specs.Threads.{Held, Waiting, Locks, hold_in, locks_of, ending_by, open_block}
use Rattle.dso_law.specs.ServerReadings.{is_lost, counted, loses}
use Rattle.dso_law.specs.ServerWaiters.{waiters_of, waiters_by, waiters_by_sent}
use Rattle.dso_legal.specs.Committed.{ended_blocks, block_numbered, resolved, committed}
use Rattle.dso_legal.specs.PendingBlocks.{no_locks}

-- What is kept of a thread: how often it holds each lock, the count that it is to have again after a wait, its open
-- block.
pub record ThreadState : Type 0 where
  pub counts : LockName → Option ℕ
  pub waiting : Option ℕ
  pub block : List Event

-- of a client: its threads, and the blocks that they ended
pub record ClientState : Type 0 where
  pub threads : ThreadId → ThreadState
  pub ended : List (List Event)

-- of the server: which clients are lost, and its lists of waiters
pub record ServerState : Type 0 where
  pub lost : ℕ → Bool
  pub waiters : LockName → List ThreadId

-- all that is kept, with the history so far
pub record PassState : Type 0 where
  pub clients : ℕ → ClientState
  pub lists : ServerState
  pub history : List Event

-- What the entries say of each. Here: of a thread's locks,
abbrev pub hold_count : Option Hold → Option ℕ
hold_count hold = option_map (λ (h : Hold). h.count) hold

abbrev pub waiting_count : Option Waiting → Option ℕ
waiting_count waiting = option_map (λ (w : Waiting). w.count) waiting

-- of a thread, by its locks and its open block,
abbrev pub thread_state_of : Locks → List Event → ThreadState
thread_state_of locks block = record {
  counts = λ l. hold_count (hold_in l locks.holds);
  waiting = waiting_count locks.waiting;
  block = block;
}

-- of a client, by its entries,
abbrev pub client_state_of : List Entry → ClientState
client_state_of own = record
    { threads = λ t. thread_state_of (locks_of t own) (open_block t own); ended = ended_blocks own }

-- of the server, by its entries,
abbrev pub server_state_of : List Entry → ServerState
server_state_of own = record { lost = λ c. is_lost c own; waiters = λ l. waiters_of l (counted own) }

-- and all of it.
abbrev pub pass_state_of : List Entry → PassState
pass_state_of es = record {
  clients = λ c. client_state_of (entries_of (Client c) es);
  lists = server_state_of (entries_of Server es);
  history = committed es;
}

-- the count after one exit: it goes down, and at 0 it is gone
abbrev pub one_less : Option ℕ → Option ℕ
one_less None = None
one_less (Some n) = cond (eqb n 1) None (Some (n - 1))

-- the counts with the lock held so often
abbrev pub with_count : LockName → Option ℕ → (LockName → Option ℕ) → LockName → Option ℕ
with_count l count counts = written (writes (is_lock l) (λ _. count)) counts

-- one more entry of the lock
abbrev pub with_entry : LockName → ThreadState → ThreadState
with_entry l state = record state { counts = with_count l (Some (suc (unwrap_or (state.counts l) 0))) state.counts }

-- a wait gives all of the lock up, and keeps its count
abbrev pub with_wait : LockName → ThreadState → ThreadState
with_wait l state = record state
    { counts = with_count l None state.counts; waiting = Some (unwrap_or (state.counts l) 0) }

-- a thread that goes on after a wait has the lock as often as before
abbrev pub with_resume : LockName → Option ℕ → ThreadState → ThreadState
with_resume l None state = state
with_resume l (Some count) state = record state { counts = with_count l (Some count) state.counts; waiting = None }

-- what an act makes of what its thread holds
abbrev pub counts_after : Request → Reply → ThreadState → ThreadState
counts_after (New class n) reply state = state
counts_after (Look o) reply state = state
counts_after (Get o f) reply state = state
counts_after (Put o f v) reply state = state
counts_after (Enter l level) Done state = with_entry l state
counts_after (Enter l level) reply state = state
counts_after (Exit l) Done state = record state { counts = with_count l (one_less (state.counts l)) state.counts }
counts_after (Exit l) reply state = state
counts_after (Wait l) Done state = with_wait l state
counts_after (Wait l) reply state = state
counts_after (Tick l) reply state = state
counts_after (Timeout l) reply state = state
counts_after (Resume l) Done state = with_resume l state.waiting state
counts_after (Resume l) reply state = state
counts_after (Notify l) reply state = state
counts_after (NotifyAll l) reply state = state
counts_after (Print v) reply state = state
counts_after (End fault) reply state = state
counts_after Pause reply state = state
counts_after Settle reply state = state

-- the lock, held so often, as a thread's holds
abbrev pub held_so_often : LockName → Option ℕ → List Held
held_so_often l None = []
held_so_often l (Some n) = record { lock = l; hold = record { level = Write; count = n } } ∷ []

-- what of its thread's locks decides whether the act is an ending: how often it holds the one that it leaves
abbrev pub locks_left_by : Request → ThreadState → Locks
locks_left_by (New class n) state = no_locks
locks_left_by (Look o) state = no_locks
locks_left_by (Get o f) state = no_locks
locks_left_by (Put o f v) state = no_locks
locks_left_by (Enter l level) state = no_locks
locks_left_by (Exit l) state = record { holds = held_so_often l (state.counts l); waiting = None }
locks_left_by (Wait l) state = no_locks
locks_left_by (Tick l) state = no_locks
locks_left_by (Timeout l) state = no_locks
locks_left_by (Resume l) state = no_locks
locks_left_by (Notify l) state = no_locks
locks_left_by (NotifyAll l) state = no_locks
locks_left_by (Print v) state = no_locks
locks_left_by (End fault) state = no_locks
locks_left_by Pause state = no_locks
locks_left_by Settle state = no_locks

-- whether the act ends its thread's block: whether it is an ending
abbrev pub ends_block : Request → Reply → ThreadState → Bool
ends_block request reply state = is_some (ending_by request reply (locks_left_by request state))

-- the open block with one more event, where it isn't ended
abbrev pub block_left : Bool → Event → List Event → List Event
block_left ends event block = cond ends [] (block ++ event ∷ [])

-- the block that is ended, as a list
abbrev pub block_ended : Bool → Event → List Event → List (List Event)
block_ended ends event block = cond ends ((block ++ event ∷ []) ∷ []) []

-- what an act makes of what is kept of its thread
abbrev pub thread_state_after : Request → Reply → Event → ThreadState → ThreadState
thread_state_after request reply event state = record (counts_after request reply state)
    { block = block_left (ends_block request reply state) event state.block }

-- what an event makes of what is kept of its client
abbrev pub client_state_after : Event → ClientState → ClientState
client_state_after (Act thread request reply woken) threads = record {
  threads = written (writes (λ t. is_act_of t (Act thread request reply woken))
      (λ _. thread_state_after request reply (Act thread request reply woken) (threads.threads thread)))
      threads.threads;
  ended = threads.ended
      ++ block_ended (ends_block request reply (threads.threads thread)) (Act thread request reply woken)
      (threads.threads thread).block;
}
client_state_after (Lost client) threads = threads

-- whether the input is a message of a lost client
abbrev pub is_of_lost : Input → (ℕ → Bool) → Bool
is_of_lost (TookUp c m) lost = lost c
is_of_lost input lost = false

-- what an input and what is sent make of a lock's list
abbrev pub list_after : LockName → Input → List Sent → List ThreadId → List ThreadId
list_after l input sent list = by_sent_down (waiters_by_sent l) sent (waiters_by l input list)

-- what an entry of the server makes of what is kept of it
abbrev pub server_state_after : Input → List Sent → ServerState → ServerState
server_state_after input sent lists = record {
  lost = λ c. cond (loses c input) true (lists.lost c);
  waiters = λ l. cond (is_of_lost input lists.lost) (lists.waiters l) (list_after l input sent (lists.waiters l));
}

-- the block of this number, resolved at the lists, where the client isn't lost
abbrev pub given_block : ℕ → List (List Event) → Bool → (LockName → List ThreadId) → List Event
given_block seq ended lost waiters = cond lost [] (resolved (block_numbered seq ended) waiters)

-- what an entry of the server gives to the history
abbrev pub given_events : Input → PassState → List Event
given_events (TookUp c (Commit txn)) kept = given_block txn.seq (kept.clients c).ended
    (kept.lists.lost c) kept.lists.waiters
given_events (Lose c) kept = Lost c ∷ []
given_events input kept = []

-- what an entry of a client makes of all that is kept
abbrev pub pass_state_at_client : ℕ → Option Event → PassState → PassState
pass_state_at_client c event kept = record kept {
  clients = written (writes (λ d. eqb d c) (λ _. by_event client_state_after event (kept.clients c))) kept.clients;
}

-- what an entry makes of all that is kept
abbrev pub pass_state_after : Node → Input → List Sent → Option Event → PassState → PassState
pass_state_after Server input sent event kept = record {
  clients = kept.clients;
  lists = server_state_after input sent kept.lists;
  history = kept.history ++ given_events input kept;
}
pass_state_after (Client c) input sent event kept = pass_state_at_client c event kept

-- what an entry gives to the history: one of a client nothing
abbrev pub given_at : Node → Input → PassState → List Event
given_at Server input kept = given_events input kept
given_at (Client c) input kept = []

-- all that is kept but for the history
abbrev pub without_history : PassState → PassState
without_history kept = record kept { history = [] }

-- one more hold of any lock by any thread is counted in 64 bits
abbrev pub CountsFit : ThreadState → Type 0
CountsFit state = (l : LockName) → unwrap_or (state.counts l) 0 < 2 ^ 64 - 1

abbrev pub AllCountsFit : PassState → Type 0
AllCountsFit kept = (c : ℕ) (t : ThreadId) → CountsFit ((kept.clients c).threads t)

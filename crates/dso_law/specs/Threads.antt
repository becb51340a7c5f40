-- What a client's entries tell of one of its threads: its locks, its blocks, its own objects.
use Rattle.std.specs.Prelude.{ℕ, Bool, true, false, cond, not, is_some, Option, Some, None, List, [], ◌∷◌, ◌++◌, filter}
use Rattle.dso_base.specs.declared.journal.Entry.{Entry}
use Rattle.dso_base.specs.declared.lock.Level.TheVariants.{Write}
use Rattle.dso_base.specs.declared.lock.LockName.{LockName}
use Rattle.dso_base.specs.declared.lock.LockName.TheVariants.{Mon, Name}
use Rattle.dso_base.specs.declared.lock.ThreadId.{ThreadId}
use Rattle.dso_base.specs.declared.record.Body.{Body}
use Rattle.dso_base.specs.declared.record.Ending.{Ending}
use Rattle.dso_base.specs.declared.record.Ending.TheVariants as ending
use Rattle.dso_base.specs.declared.request.Event.{Event}
use Rattle.dso_base.specs.declared.request.Event.TheVariants.{Act, Lost}
use Rattle.dso_base.specs.declared.request.Reply.{Reply}
use Rattle.dso_base.specs.declared.request.Reply.TheVariants.{Done, Seen}
use Rattle.dso_base.specs.declared.request.Request.{Request}
use Rattle.dso_base.specs.declared.request.Request.TheVariants.{New, Look, Get, Put, Enter, Exit, Wait, Tick, Timeout}
use Rattle.dso_base.specs.declared.request.Request.TheVariants.{Resume, Notify, NotifyAll, Print, End, Pause, Settle}
use Rattle.dso_base.specs.declared.shape.Shape.{Shape}
use Rattle.dso_base.specs.declared.value.ClassId.{ClassId}
use Rattle.dso_base.specs.Block.{Work, start, body_in, worked}
use Rattle.dso_plain.specs.KeyTests.{is_lock}
use Rattle.dso_plain.specs.State.{Hold}
use Rattle.dso_plain.specs.After.{entered, exited, count_of}
use Rattle.dso_plain.specs.History.{is_act_of}
use Rattle.dso_law.specs.Entries.{by_event}

-- a lock that a thread holds, and how
pub record Held : Type 0 where
  pub lock : LockName
  pub hold : Hold

-- a lock that a thread waits on, and the count of the hold that it is to have again
pub record Waiting : Type 0 where
  pub lock : LockName
  pub count : ℕ

-- a thread's locks: those that it holds, in the order of its first entries, and the one that it waits on
pub record Locks : Type 0 where
  pub holds : List Held
  pub waiting : Option Waiting

-- how the lock is held, None where it is not
abbrev pub hold_in : LockName → List Held → Option Hold
hold_in l [] = None
hold_in l (held ∷ holds) = cond (is_lock l held.lock) (Some held.hold) (hold_in l holds)

-- the holds with the lock held so
abbrev pub set_hold : LockName → Hold → List Held → List Held
set_hold l hold [] = record { lock = l; hold = hold } ∷ []
set_hold l hold (held ∷ holds) = cond (is_lock l held.lock) (record { lock = l; hold = hold } ∷ holds)
    (held ∷ set_hold l hold holds)

-- the holds with the lock held as said, or no longer
abbrev pub with_hold : LockName → Option Hold → List Held → List Held
with_hold l None holds = filter (λ held. not (is_lock l held.lock)) holds
with_hold l (Some hold) holds = set_hold l hold holds

-- a wait gives the whole hold up and keeps its count
abbrev pub waiting_on : LockName → Locks → Locks
waiting_on l locks = record {
  holds = with_hold l None locks.holds;
  waiting = Some (record { lock = l; count = count_of (hold_in l locks.holds) });
}

-- a waiting thread that goes on holds the lock at Write with the count it had
abbrev pub resumed : LockName → Option Waiting → Locks → Locks
resumed l None locks = locks
resumed l (Some waiting) locks = record {
  holds = with_hold l (Some (record { level = Write; count = waiting.count })) locks.holds;
  waiting = None;
}

-- what an act makes of its thread's locks: an Enter answered Done, an Exit, a Wait answered Done, a Resume. While it
-- waits a thread takes no hold: its ticks and its timeout leave its locks as they are.
abbrev pub locks_by : Request → Reply → Locks → Locks
locks_by (New class n) reply locks = locks
locks_by (Look o) reply locks = locks
locks_by (Get o f) reply locks = locks
locks_by (Put o f v) reply locks = locks
locks_by (Enter l level) Done locks = record locks {
  holds = with_hold l (entered level (hold_in l locks.holds)) locks.holds;
}
locks_by (Enter l level) reply locks = locks
locks_by (Exit l) Done locks = record locks { holds = with_hold l (exited (hold_in l locks.holds)) locks.holds }
locks_by (Exit l) reply locks = locks
locks_by (Wait l) Done locks = waiting_on l locks
locks_by (Wait l) reply locks = locks
locks_by (Tick l) reply locks = locks
locks_by (Timeout l) reply locks = locks
locks_by (Resume l) Done locks = resumed l locks.waiting locks
locks_by (Resume l) reply locks = locks
locks_by (Notify l) reply locks = locks
locks_by (NotifyAll l) reply locks = locks
locks_by (Print v) reply locks = locks
locks_by (End fault) reply locks = locks
locks_by Pause reply locks = locks
locks_by Settle reply locks = locks

-- what an event makes of the locks of thread t
abbrev pub locks_after : ThreadId → Event → Locks → Locks
locks_after t (Act thread request reply woken) locks = cond (is_act_of t (Act thread request reply woken))
    (locks_by request reply locks) locks
locks_after t (Lost client) locks = locks

-- the thread's locks after its events
abbrev pub locks_of : ThreadId → List Entry → Locks
locks_of t [] = record { holds = []; waiting = None }
locks_of t (e ∷ es) = by_event (locks_after t) e.event (locks_of t es)

-- how the thread holds the lock, None where it does not
abbrev pub hold_of : ThreadId → LockName → List Entry → Option Hold
hold_of t l es = hold_in l (locks_of t es).holds

-- the ending that an exit is where the thread no longer holds the lock after it
abbrev pub exit_ending : LockName → Option Hold → Option Ending
exit_ending l None = Some (ending.Exit l)
exit_ending l (Some hold) = None

-- An ending: an Exit after which the thread doesn't hold the lock, a Wait answered Done, a Timeout answered Done, or an
-- End.
abbrev pub ending_by : Request → Reply → Locks → Option Ending
ending_by (New class n) reply locks = None
ending_by (Look o) reply locks = None
ending_by (Get o f) reply locks = None
ending_by (Put o f v) reply locks = None
ending_by (Enter l level) reply locks = None
ending_by (Exit l) Done locks = exit_ending l (exited (hold_in l locks.holds))
ending_by (Exit l) reply locks = None
ending_by (Wait l) Done locks = Some (ending.Wait l)
ending_by (Wait l) reply locks = None
ending_by (Tick l) reply locks = None
ending_by (Timeout l) Done locks = Some (ending.Timeout l)
ending_by (Timeout l) reply locks = None
ending_by (Resume l) reply locks = None
ending_by (Notify l) reply locks = None
ending_by (NotifyAll l) reply locks = None
ending_by (Print v) reply locks = None
ending_by (End fault) Done locks = Some (ending.End fault)
ending_by (End fault) reply locks = None
ending_by Pause reply locks = None
ending_by Settle reply locks = None

-- the ending that the event is, where it is one; the locks are its thread's before it
abbrev pub ending_of : Event → Locks → Option Ending
ending_of (Act thread request reply woken) locks = ending_by request reply locks
ending_of (Lost client) locks = None

-- the open block after one more event of its thread
abbrev pub block_after : Event → Locks → List Event → List Event
block_after event locks block = cond (is_some (ending_of event locks)) [] (block ++ event ∷ [])

-- the open block of a thread: its events after its last ending, the first of them first
abbrev pub open_block : ThreadId → List Entry → List Event
open_block t [] = []
open_block t (e ∷ es) = by_event (λ event block. cond (is_act_of t event)
    (block_after event (locks_of t es) block) block) e.event (open_block t es)

-- the private objects at the next block's start: at an ending those left by the block that it ends
abbrev pub privates_after : Shape → Event → Locks → List Event → List Body → List Body
privates_after shape event locks block privates = cond (is_some (ending_of event locks))
    (worked shape (block ++ event ∷ []) (start privates)).privates privates

-- the thread's private objects as they stood before its open block
abbrev pub privates_before : Shape → ThreadId → List Entry → List Body
privates_before shape t [] = []
privates_before shape t (e ∷ es) = by_event
    (λ event privates. cond (is_act_of t event)
    (privates_after shape event (locks_of t es) (open_block t es) privates) privates) e.event
    (privates_before shape t es)

-- the work that the thread has in hand: its private objects, and what it did in its open block
abbrev pub work_of : Shape → ThreadId → List Entry → Work
work_of shape t es = worked shape (open_block t es) (start (privates_before shape t es))

-- the object is private to the thread
abbrev pub is_private : Shape → ThreadId → ℕ → List Entry → Bool
is_private shape t o es = is_some (body_in o (work_of shape t es).privates)

-- the lock is the monitor of an object private to the thread
abbrev pub is_local : Shape → ThreadId → LockName → List Entry → Bool
is_local shape t (Mon o) es = is_private shape t o es
is_local shape t (Name n) es = false

-- the first of two, if it is there, else the second
abbrev pub or_else : {X : Type 0} → Option X → Option X → Option X
or_else None y = y
or_else (Some x) y = Some x

-- the body of an object that the thread made, while it is private or published in the open block
abbrev pub own : Shape → ThreadId → ℕ → List Entry → Option Body
own shape t o es = or_else (body_in o (work_of shape t es).privates) (body_in o (work_of shape t es).news)

-- what a Look answered
abbrev pub seen_by : Request → Reply → Option (ClassId × ℕ) → Option (ClassId × ℕ)
seen_by (New class n) reply before = before
seen_by (Look o) (Seen class n) before = Some (class, n)
seen_by (Look o) reply before = before
seen_by (Get o f) reply before = before
seen_by (Put o f v) reply before = before
seen_by (Enter l level) reply before = before
seen_by (Exit l) reply before = before
seen_by (Wait l) reply before = before
seen_by (Tick l) reply before = before
seen_by (Timeout l) reply before = before
seen_by (Resume l) reply before = before
seen_by (Notify l) reply before = before
seen_by (NotifyAll l) reply before = before
seen_by (Print v) reply before = before
seen_by (End fault) reply before = before
seen_by Pause reply before = before
seen_by Settle reply before = before

-- what an event of thread t makes of its latest Look
abbrev pub seen_after : ThreadId → Event → Option (ClassId × ℕ) → Option (ClassId × ℕ)
seen_after t (Act thread request reply woken) before = cond (is_act_of t (Act thread request reply woken))
    (seen_by request reply before) before
seen_after t (Lost client) before = before

-- the class and the size that the thread's latest Look saw
abbrev pub last_seen : ThreadId → List Entry → Option (ClassId × ℕ)
last_seen t [] = None
last_seen t (e ∷ es) = by_event (seen_after t) e.event (last_seen t es)

-- whether the request ends the thread
abbrev pub asks_end : Request → Bool
asks_end (End fault) = true
asks_end request = false

-- whether the event ends its thread
abbrev pub ends_thread : Event → Bool
ends_thread (Act thread request reply woken) = asks_end request
ends_thread (Lost client) = false

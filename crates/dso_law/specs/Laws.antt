-- Laws of the readings.
use Rattle.std.specs.List.{list_any}
use Rattle.std.specs.Prelude.{ℕ, ◌≡◌, ◌↔◌, true, false, cond, Option, Some, None, List, ◌∷◌}
use Rattle.dso_base.specs.declared.journal.Entry.{Entry}
use Rattle.dso_base.specs.declared.journal.Input.TheVariants.{TookUp}
use Rattle.dso_base.specs.declared.lock.LockName.{LockName}
use Rattle.dso_base.specs.declared.lock.ThreadId.{ThreadId}
use Rattle.dso_base.specs.declared.message.Up.{Up}
use Rattle.dso_base.specs.declared.message.Up.TheVariants as up
use Rattle.dso_base.specs.declared.record.Body.{Body}
use Rattle.dso_base.specs.declared.record.Ending.TheVariants as ending
use Rattle.dso_base.specs.declared.record.Txn.{Txn}
use Rattle.dso_base.specs.declared.request.Event.{Event}
use Rattle.dso_base.specs.declared.request.Event.TheVariants.{Act}
use Rattle.dso_base.specs.declared.request.Reply.TheVariants.{Done}
use Rattle.dso_base.specs.declared.request.Request.{Request}
use Rattle.dso_base.specs.declared.request.Request.TheVariants.{Timeout}
use Rattle.dso_base.specs.declared.shape.Shape.{Shape}
use Rattle.dso_base.specs.Block.{start, work_after}
use Rattle.dso_base.specs.Following.{is_thread}
use Rattle.dso_base.specs.Naming.{up_names}
use Rattle.dso_plain.specs.KeyTests.{is_lock}
use Rattle.dso_plain.specs.State.{Hold}
use Rattle.dso_plain.specs.History.{is_act_of}
use Rattle.dso_law.specs.Settings.{Settings}
use Rattle.dso_law.specs.Threads.{Held, hold_in, with_hold, ending_of, locks_of, work_of}
use Rattle.dso_law.specs.ClientWaiters.{is_listed, is_marked}
use Rattle.dso_law.specs.ClientStep.{ActsOn, may_act}
use Rattle.dso_law.specs.FitsUp.{FitsUp, FitsUpBy}
use Rattle.dso_law.specs.ServerWaiters.{waiters_of}
use Rattle.dso_law.specs.ServerStep.{HeardStep}
use Rattle.dso_law.specs.Store.{stored}

-- Holds: after a lock is held as said, or no longer, each lock is held so or as before.
abbrev pub HoldsAfter : Type 0
HoldsAfter = (l k : LockName) (hold : Option Hold) (holds : List Held)
    → hold_in k (with_hold l hold holds) ≡ cond (is_lock l k) hold (hold_in k holds)

-- an entry with this event of the thread
pub record IsEventOf (t : ThreadId) (event : Event) (e : Entry) : Type 0 where
  pub event_is : e.event ≡ Some event
  pub its : is_act_of t event ≡ true

-- Work: an event that is no ending adds to the work that its thread has in hand as the event says; an ending leaves the
-- private objects alone.
pub record WorkAfter (shape : Shape) (t : ThreadId) (event : Event) (e : Entry) (es : List Entry) : Type 0 where
  pub goes_on : ending_of event (locks_of t es) ≡ None
      → work_of shape t (e ∷ es) ≡ work_after shape event (work_of shape t es)
  pub ends : (ending_of event (locks_of t es) ≡ None → ⊥)
      → work_of shape t (e ∷ es) ≡ start (work_after shape event (work_of shape t es)).privates

abbrev pub WorkGoesOn : Type 0
WorkGoesOn = (shape : Shape) (t : ThreadId) (event : Event) (e : Entry) (es : List Entry) → IsEventOf t event e
    → WorkAfter shape t event e es

-- Acts: the client rule has an act of the thread exactly where there is an entry that it allows, whatever the next
-- requests after it are.
abbrev pub ActsAreOpen : Type 0
ActsAreOpen = (p : Settings) (c : ℕ) (t : ThreadId) (before after : ThreadId → Option Request) (es : List Entry)
    → (may_act p c before t es ≡ true) ↔ ((e : Entry) × ActsOn p c t (before t) before after e es)

-- an entry in which a timeout of the thread on the lock is done
pub record TimesOut (t : ThreadId) (l : LockName) (e : Entry) : Type 0 where
  pub woken : Option ThreadId
  pub done : e.event ≡ Some (Act t (Timeout l) Done woken)

-- the thread is in its client's list no more, and is marked where it stood there
pub record IsOut (t : ThreadId) (l : LockName) (e : Entry) (es : List Entry) : Type 0 where
  pub unlisted : is_listed t l (e ∷ es) ≡ false
  pub marked : is_listed t l es ≡ true → is_marked t (e ∷ es) ≡ true

-- an entry in which the server takes and answers a record of client c, which isn't lost
pub record TakesRecord (p : Settings) (c : ℕ) (txn : Txn) (e : Entry) (es : List Entry) : Type 0 where
  pub input : e.input ≡ TookUp c (up.Commit txn)
  pub heard : HeardStep p c (up.Commit txn) e es

-- Timeouts: a thread whose timeout is done leaves its client's list, marked where it stood there; behind the entry that
-- takes the record of its timeout it isn't in the server's list either.
pub record Timeouts : Type 0 where
  pub at_client : (t : ThreadId) (l : LockName) (e : Entry) (es : List Entry) → TimesOut t l e → IsOut t l e es
  pub at_server : (p : Settings) (c : ℕ) (txn : Txn) (l : LockName) (e : Entry) (es : List Entry)
      → TakesRecord p c txn e es → txn.ending ≡ ending.Timeout l
      → list_any (is_thread txn.thread) (waiters_of l (e ∷ es)) ≡ false

-- Graphs: where a graph has what is stored of each object that a message names, the message fits by that graph exactly
-- where it fits.
abbrev pub SameGraphFits : Type 0
SameGraphFits = (graph : ℕ → Option Body) (p : Settings) (c : ℕ) (m : Up) (es : List Entry)
    → ((o : ℕ) → up_names m o ≡ true → graph o ≡ stored p.shape o es) → FitsUpBy graph p c m es ↔ FitsUp p c m es

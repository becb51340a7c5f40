-- What holds of monitors and waits in every state that a run from the opening state reaches.
use Rattle.std.specs.Prelude.{ℕ, ◌≤◌, ◌≡◌, ◌≢◌, true, Some, None}
use Rattle.dso_base.specs.declared.lock.LockName.{LockName}
use Rattle.dso_base.specs.declared.lock.ThreadId.{ThreadId}
use Rattle.dso_plain.specs.State.{Hold, PlainState}
use Rattle.dso_plain.specs.Possible.{HoldsWrite}

-- the thread neither holds nor waits on the lock
abbrev pub HasNoPart : LockName → ThreadId → PlainState → Type 0
HasNoPart l t s = (s.monitors (l, t) ≡ None) × (s.asleep (l, t) ≡ None)

-- Monitors: who holds a lock at Write holds it alone; every hold is counted, and so is one that a waiter is to have
-- again; only waiters are marked; and threads that have ended or whose client is lost have no part in any lock.
pub record KeepsMonitors (s : PlainState) : Type 0 where
  pub exclusion : (l : LockName) (t w : ThreadId) → t ≢ w → HoldsWrite t l s → s.monitors (l, w) ≡ None
  pub counted : (l : LockName) (t : ThreadId) (hold : Hold) → s.monitors (l, t) ≡ Some hold → 1 ≤ hold.count
  pub counted_waits : (l : LockName) (t : ThreadId) (count : ℕ) → s.asleep (l, t) ≡ Some count → 1 ≤ count
  pub only_waiters : (l : LockName) (t : ThreadId) → s.marked (l, t) ≡ true → s.asleep (l, t) ≢ None
  pub lost_are_out : (l : LockName) (t : ThreadId) → s.lost t.client ≡ true → HasNoPart l t s
  pub ended_are_out : (l : LockName) (t : ThreadId) → s.ended t ≢ None → HasNoPart l t s

-- The states that differ in one part.
use Rattle.std.specs.Prelude.{ℕ, ◌≡◌, Bool, true, false, cond, eqb, ◌&&◌, is_some, Option, None}
use Rattle.dso_base.specs.declared.lock.LockName.{LockName}
use Rattle.dso_base.specs.declared.lock.ThreadId.{ThreadId}
use Rattle.dso_base.specs.Following.{is_thread}
use Rattle.dso_plain.specs.KeyTests.{is_lock, is_place}
use Rattle.dso_lookup.specs.Maps.{writes, written}
use Rattle.dso_lookup.specs.Orders.{lock_order, thread_order}
use Rattle.dso_plain.specs.HeapTables.{either, state_of}
use Rattle.dso_plain.specs.declared.tables.HeapTables.{HeapTables}
use Rattle.dso_lookup.specs.Rows.{look_in}
use Rattle.dso_plain.specs.State.{Hold, PlainState}

-- the state with another hold of the thread on the lock
abbrev pub with_hold : LockName → ThreadId → Option Hold → PlainState → PlainState
with_hold l t hold s = record s { monitors = written (writes (is_place l t) (λ _. hold)) s.monitors }

-- the state with another wait of the thread on the lock, and another mark of it
abbrev pub with_wait : LockName → ThreadId → Option ℕ → Bool → PlainState → PlainState
with_wait l t wait mark s = record s {
  asleep = written (writes (is_place l t) (λ _. wait)) s.asleep;
  marked = written (writes (is_place l t) (λ _. mark)) s.marked;
}

-- the waits on a lock of those that are marked, with those of a row before them
abbrev pub moved : LockName → (ThreadId → Option ℕ) → (LockName × ThreadId → Option ℕ) → LockName × ThreadId → Option ℕ
moved l row marked key = cond (is_lock l key.0) (either (row key.1) (marked key)) (marked key)

-- a table by lock and thread, without what the thread has at the locks of a row
abbrev pub dropped : {V : Type 0} → ThreadId → (LockName → Option (Unit {0})) → (LockName × ThreadId → Option V)
    → LockName × ThreadId → Option V
dropped t row table key = cond (is_thread t key.1 && is_some (row key.0)) None (table key)

-- The state in which the threads that the test tells have left all monitors and waits.
abbrev pub without : (ThreadId → Bool) → PlainState → PlainState
without test s = record s {
  monitors = written (writes (λ key. test key.1) (λ _. None)) s.monitors;
  asleep = written (writes (λ key. test key.1) (λ _. None)) s.asleep;
  marked = written (writes (λ key. test key.1) (λ _. false)) s.marked;
}

-- The tables by thread list exactly the locks that the thread holds, and those on which it waits, and no wait is both
-- marked and not.
pub record Mirrors (tables : HeapTables) : Type 0 where
  pub held : (l : LockName) (t : ThreadId)
      → is_some (look_in thread_order lock_order tables.held (t, l)) ≡ is_some ((state_of tables).monitors (l, t))
  pub waiting : (l : LockName) (t : ThreadId)
      → is_some (look_in thread_order lock_order tables.waiting (t, l)) ≡ is_some ((state_of tables).asleep (l, t))
  pub apart : (l : LockName) (t : ThreadId)
      → (is_some (look_in lock_order thread_order tables.waits (l, t))
      && is_some (look_in lock_order thread_order tables.marked (l, t))) ≡ false

-- The threads of a row that are the client's have left all monitors and waits, and no thread of another client.
pub record ClearsRow (client : ℕ) (row : ThreadId → Option (Unit {0})) (old new : HeapTables) : Type 0 where
  pub marks : ThreadId → Bool
  pub is : state_of new ≡ without marks (state_of old)
  pub only : (u : ThreadId) → marks u ≡ true → eqb u.client client ≡ true
  pub all : (u : ThreadId) → is_some (row u) ≡ true → eqb u.client client ≡ true → marks u ≡ true
  pub mirrors : Mirrors new
  pub threads : new.threads ≡ old.threads

-- What each change of the tables keeps.
use Rattle.std.specs.Prelude.{◌≡◌, true, false, ◌&&◌, ◌||◌, is_some}
use Rattle.std.specs.Ordering.{nat_cmp}
use Rattle.dso_base.specs.declared.lock.LockName.{LockName}
use Rattle.dso_base.specs.declared.lock.ThreadId.{ThreadId}
use Rattle.dso_plain.specs.declared.tables.HeapTables.{HeapTables}
use Rattle.dso_lookup.specs.Rows.{look_in}
use Rattle.dso_plain.specs.StepInvariants.{PastInvariant, MonitorInvariant}
use Rattle.dso_lookup.specs.Orders.{lock_order, thread_order}
use Rattle.dso_plain.specs.HeapTables.{state_of}

-- The tables by thread list exactly the locks that the thread holds, and those on which it waits; no wait is both
-- marked and not; and each client's threads that hold or wait are listed by client.
pub record IndexesAgree (tables : HeapTables) : Type 0 where
  pub held : (l : LockName) (t : ThreadId)
      → is_some (look_in thread_order lock_order tables.held (t, l)) ≡ is_some ((state_of tables).monitors (l, t))
  pub waiting : (l : LockName) (t : ThreadId)
      → is_some (look_in thread_order lock_order tables.waiting (t, l)) ≡ is_some ((state_of tables).asleep (l, t))
  pub apart : (l : LockName) (t : ThreadId)
      → (is_some (look_in lock_order thread_order tables.waits (l, t))
      && is_some (look_in lock_order thread_order tables.marked (l, t))) ≡ false
  pub listed : (l : LockName) (t : ThreadId)
      → (is_some ((state_of tables).monitors (l, t)) || is_some ((state_of tables).asleep (l, t))) ≡ true
      → is_some (look_in nat_cmp thread_order tables.threads (t.client, t)) ≡ true

-- The state is one whose pasts and monitors are as steps keep them, and the tables agree.
pub record TablesInvariant (tables : HeapTables) : Type 0 where
  pub past : PastInvariant (state_of tables)
  pub monitors : MonitorInvariant (state_of tables)
  pub agrees : IndexesAgree tables

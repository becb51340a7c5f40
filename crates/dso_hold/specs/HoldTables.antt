-- What each change of the tables of holds keeps.
use Rattle.std.specs.Prelude.{◌≡◌, true, false, is_some, Option}
use Rattle.std.specs.Option.{option_map_or}
use Rattle.dso_base.specs.declared.lock.Level.TheVariants.{Read}
use Rattle.dso_base.specs.declared.lock.LockName.{LockName}
use Rattle.dso_base.specs.declared.lock.ThreadId.{ThreadId}
use Rattle.dso_hold.specs.declared.held.Held.{Held}
use Rattle.dso_hold.specs.declared.tables.HoldTables.{HoldTables}
use Rattle.dso_lookup.specs.Orders.{lock_order, thread_order}
use Rattle.dso_hold.specs.Holds.{hold_in, excludes}
use Rattle.dso_lookup.specs.Rows.{look_in}

-- The table by thread lists exactly the locks that the thread holds.
pub record IndexesAgree (tables : HoldTables) : Type 0 where
  pub listed : (l : LockName) (t : ThreadId)
      → is_some (look_in thread_order lock_order tables.by_thread (t, l)) ≡ is_some (hold_in tables (l, t))

-- Who holds a lock at Write, and so excludes a reader, holds it alone.
pub record IsExclusive (holds : LockName × ThreadId → Option Held) : Type 0 where
  pub alone : (l : LockName) (t u : ThreadId) → option_map_or (excludes Read) (holds (l, t)) false ≡ true
      → is_some (holds (l, u)) ≡ true → u ≡ t

-- both
pub record HoldsAgree (tables : HoldTables) : Type 0 where
  pub indexes : IndexesAgree tables
  pub exclusive : IsExclusive (hold_in tables)

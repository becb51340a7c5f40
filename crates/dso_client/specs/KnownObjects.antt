-- What is needed to tell what a thread knows of an object.
use Rattle.std.specs.Prelude.{◌≡◌, ℕ, true, ◌||◌, is_some}
use Rattle.dso_law.specs.Threads.{own}
use Rattle.dso_law.specs.Copies.{is_resident}
use Rattle.dso_table.specs.declared.tables.ObjectTables.{ObjectTables}
use Rattle.dso_client.specs.declared.thread_context.ThreadContext.{ThreadContext}
use Rattle.dso_client.specs.RunPoints.{RunPoint}
use Rattle.dso_client.specs.ContextStands.{ContextStands}
use Rattle.dso_client.specs.TableStands.{TableStands}

-- the thread and the table stand for the entries
pub record KnowsObjects (at : RunPoint) (table : ObjectTables) (context : ThreadContext) : Type 0 where
  pub of_own : ContextStands at context
  pub of_copies : TableStands at table

-- and the object is the thread's own or resident
pub record KnowsObject (at : RunPoint) (table : ObjectTables) (context : ThreadContext) (o : ℕ) : Type 0 where
  pub knows : KnowsObjects at table context
  pub there : (is_some (own at.settings.shape context.id o at.entries) || is_resident o at.entries) ≡ true

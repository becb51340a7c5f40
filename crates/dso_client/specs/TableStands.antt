-- The table of a client's objects stands for its entries.
use Rattle.std.specs.List.{list_any}
use Rattle.std.specs.Prelude.{◌≡◌, ◌≤◌, ℕ, eqb, ◌&&◌, List}
use Rattle.dso_base.specs.declared.lock.ThreadId.{ThreadId}
use Rattle.dso_law.specs.Threads.{open_block}
use Rattle.dso_law.specs.Copies.{is_object_asked}
use Rattle.dso_law.specs.HeldBody.{held_body}
use Rattle.dso_law.specs.ChangeMarks.{change_mark}
use Rattle.dso_law.specs.ResidentCount.{resident_count}
use Rattle.dso_law.specs.Records.{records}
use Rattle.dso_law.specs.UseOrder.{use_order}
use Rattle.dso_law.specs.ClientStep.{event_puts_to, wants_object}
use Rattle.dso_table.specs.declared.tables.ObjectTables.{ObjectTables}
use Rattle.dso_table.specs.States.{body_of, is_asked}
use Rattle.dso_table.specs.ObjectTables.{state_in}
use Rattle.dso_client.specs.RunPoints.{RunPoint}

-- Of each object: its copy, whether it is asked for, and its mark. Of each thread and object: whether the thread's open
-- block puts to it, and whether the thread wants it. How many objects are to be resident, and how many are. No number
-- was acknowledged beyond those of the records that were sent. The objects used last are these, in their order.
pub record TableTells (at : RunPoint) (used : List ℕ) (table : ObjectTables) : Type 0 where
  pub bodies : (o : ℕ) → body_of ((state_in table).standing o) ≡ held_body o at.entries
  pub asked : (o : ℕ) → is_asked ((state_in table).standing o) ≡ is_object_asked o at.entries
  pub marks : (o : ℕ) → (state_in table).marks o ≡ change_mark o at.entries
  pub opened : (t : ThreadId) (o : ℕ)
      → (state_in table).opened (t, o) ≡ list_any (event_puts_to o) (open_block t at.entries)
  pub wanted : (t : ThreadId) (o : ℕ)
      → (state_in table).wanted (t, o) ≡ (eqb t.client at.client && wants_object o t.index at.entries)
  pub room : (state_in table).limit ≡ at.settings.resident
  pub count : (state_in table).residents ≡ resident_count at.entries
  pub acked : (state_in table).acked ≤ records at.entries
  pub order : (state_in table).used ≡ used

-- all that the entries tell, with their order of use
abbrev pub TableStands : RunPoint → ObjectTables → Type 0
TableStands at table = TableTells at (use_order at.settings at.entries) table

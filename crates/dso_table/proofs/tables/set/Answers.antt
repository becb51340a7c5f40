use Rattle.std.proofs.Common.{ℕ, ◌≡◌, refl, sym, Bool, true, false, Option}
use Rattle.std.specs.Bool.{OnTrue, OnFalse}
use Rattle.std.specs.Option.{option_map}
use Rattle.dso_base.specs.declared.record.Set.{Set}
use Rattle.dso_table.specs.Slots.{wrote, has_slot_value}
use Rattle.dso_table.specs.States.{with_at, set}
use Rattle.dso_table.specs.ObjectTables.{slot_in, state_in, PlacesAgree, TablesAgree}
use Rattle.dso_table.specs.declared.places.Places.{Places}
use Rattle.dso_table.specs.declared.tables.ObjectTables.{ObjectTables}
use Rattle.dso_table.proofs.objects.TableChanges.{same_order, told_same, agree_same, told_written, agree_over, written_resident}
use Rattle.dso_table.proofs.tables.set.Goals as goal

-- what is told after the write, where the call answered so
record IsSet (old : ObjectTables) (places : Places) (change : Set) (changed : Option ℕ) (answer : Bool) : Type 0 where
  pub written : OnTrue answer (state_in (record old { places = places }) ≡ set change changed (state_in old))
  pub unchanged : OnFalse answer (state_in (record old { places = places }) ≡ state_in old)
  pub agree : TablesAgree (record old { places = places })

after_write : (old : ObjectTables) → TablesAgree old → (places : Places) → PlacesAgree places → (change : Set) (changed : Option ℕ) (answer : Bool) → answer ≡ has_slot_value change.field (slot_in old.places change.object) → OnTrue answer (slot_in places ≡ with_at change.object (option_map (wrote change changed) (slot_in old.places change.object)) (slot_in old.places)) → OnFalse answer (slot_in places ≡ slot_in old.places) → IsSet old places change changed answer
after_write old agree places stand change changed true found written unchanged = record {
  written = told_written old places change changed (sym found) written;
  unchanged = tt;
  agree = agree_over old agree change.object places stand (option_map (wrote change changed) (slot_in old.places change.object)) written (written_resident change changed (slot_in old.places change.object));
}
after_write old agree places stand change changed false found written unchanged = record {
  written = tt;
  unchanged = told_same old places old.order old.wanted unchanged (same_order old.order) refl;
  agree = agree_same old places old.order old.wanted unchanged agree stand agree.order (same_order old.order);
}

pub returns-clause-written : goal.returns-clause-written
returns-clause-written c = (after_write c.args.tables.now c.requires.agree c.write.new.places c.write.ensures.agree c.args.change c.args.changed c.write.result c.write.ensures.found c.write.ensures.written c.write.ensures.unchanged).written

pub returns-clause-unchanged : goal.returns-clause-unchanged
returns-clause-unchanged c = (after_write c.args.tables.now c.requires.agree c.write.new.places c.write.ensures.agree c.args.change c.args.changed c.write.result c.write.ensures.found c.write.ensures.written c.write.ensures.unchanged).unchanged

pub returns-clause-agree : goal.returns-clause-agree
returns-clause-agree c = (after_write c.args.tables.now c.requires.agree c.write.new.places c.write.ensures.agree c.args.change c.args.changed c.write.result c.write.ensures.found c.write.ensures.written c.write.ensures.unchanged).agree

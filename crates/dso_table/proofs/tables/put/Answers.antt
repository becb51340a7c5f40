use Rattle.std.proofs.Common.{refl, ap, ◌∙◌, cond, Some, Ok, Err, Result, OnOk}
use Rattle.dso_base.specs.declared.no_memory.NoMemory.{NoMemory}
use Rattle.dso_table.specs.Slots.{changed_last}
use Rattle.dso_table.specs.ObjectTables.{state_in, put_slot}
use Rattle.dso_table.specs.declared.slot.Slot.{Slot}
use Rattle.dso_table.specs.declared.slot.ObjectStanding.TheVariants as standing
use Rattle.dso_table.proofs.objects.StateChanges.{put_as_slot}
use Rattle.dso_table.proofs.objects.TableChanges.{told_over, agree_over}
use Rattle.dso_table.proofs.tables.put.Goals as goal

-- what follows from one follows from the other
on_ok : {P Q : Type 0} (r : Result (Unit {0}) NoMemory) → (P → Q) → OnOk r P → OnOk r Q
on_ok (Ok x) f p = f p
on_ok (Err e) f p = tt

pub returns-then-is_resident-clause-ok : goal.returns-then-is_resident-clause-ok
returns-then-is_resident-clause-ok c =
    let last = c.changed_last.ensures ∙ ap (λ before. changed_last c.args.changed before) c.changed_before.ensures in
    let slot : Slot = record { object = c.args.body.object; standing = standing.Resident c.args.body; changed = c.changed_last.result } in
    told_over c.args.tables.now c.requires.agree c.args.body.object c.replace.new.places c.replace.ensures.agree slot refl c.replace.ensures.changed ∙ (ap (λ changed. put_slot (record slot { changed = changed }) 0 (state_in c.args.tables.now)) last ∙ put_as_slot c.args.tables.now c.args.body c.args.changed 0 (ap (λ b. cond b 0 1) c.if-is_resident.ensures))

pub returns-then-is_resident-clause-agree : goal.returns-then-is_resident-clause-agree
returns-then-is_resident-clause-agree c =
    let slot : Slot = record { object = c.args.body.object; standing = standing.Resident c.args.body; changed = c.changed_last.result } in
    agree_over c.args.tables.now c.requires.agree c.args.body.object c.replace.new.places c.replace.ensures.agree (Some slot) c.replace.ensures.changed c.if-is_resident.ensures

pub returns-clause-ok : goal.returns-clause-ok
returns-clause-ok c =
    let last = c.changed_last.ensures ∙ ap (λ before. changed_last c.args.changed before) c.changed_before.ensures in
    let slot : Slot = record { object = c.args.body.object; standing = standing.Resident c.args.body; changed = c.changed_last.result } in
    on_ok c.put_new.result (λ e. e ∙ (ap (λ changed. put_slot (record slot { changed = changed }) 1 (state_in c.args.tables.now)) last ∙ put_as_slot c.args.tables.now c.args.body c.args.changed 1 (ap (λ b. cond b 0 1) c.if-is_resident.ensures))) c.put_new.ensures.ok

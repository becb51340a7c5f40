use Rattle.std.proofs.Common.{refl, sym, ◌≡◌, None, Some, Option, is_some, false}
use Rattle.dso_lookup.proofs.RowsInPlace.{on_err}
use Rattle.dso_table.specs.declared.slot.Slot.{Slot}
use Rattle.dso_table.specs.ObjectTables.{slot_in}
use Rattle.dso_table.proofs.objects.TableChanges.{same_order, told_same, agree_same, told_asked, agree_asked, places_back}
use Rattle.dso_table.proofs.tables.ask.Goals as goal

-- nothing is there
nothing : (slot : Option Slot) → is_some slot ≡ false → slot ≡ None
nothing None e = refl
nothing (Some slot) e = absurd (cc e)

pub returns-in_err-add-clause-err : goal.returns-in_err-add-clause-err
returns-in_err-add-clause-err c = on_err c.from_residual.result (told_same c.args.tables.now c.add.new.places c.args.tables.now.order c.args.tables.now.wanted c.in_err-add.ensures.err (same_order c.args.tables.now.order) refl)

pub returns-in_err-add-clause-agree : goal.returns-in_err-add-clause-agree
returns-in_err-add-clause-agree c = agree_same c.args.tables.now c.add.new.places c.args.tables.now.order c.args.tables.now.wanted c.in_err-add.ensures.err c.requires.agree c.add.ensures.agree c.requires.agree.order (same_order c.args.tables.now.order)

pub returns-in-Ok-clause-asked : goal.returns-in-Ok-clause-asked
returns-in-Ok-clause-asked c = told_asked c.args.tables.now c.requires.agree c.args.object c.add.new.places c.add.ensures.agree c.args.thread c.add-2.new.notes (nothing (slot_in c.args.tables.now.places c.args.object) (sym c.if-is_known.ensures)) c.in_ok-add.ensures.ok c.in-Ok.ensures.ok

pub returns-in-Ok-clause-agree : goal.returns-in-Ok-clause-agree
returns-in-Ok-clause-agree c = agree_asked c.args.tables.now c.requires.agree c.args.object c.add.new.places c.add.ensures.agree c.add-2.new.notes (nothing (slot_in c.args.tables.now.places c.args.object) (sym c.if-is_known.ensures)) c.in_ok-add.ensures.ok

pub returns-in-Err-clause-err : goal.returns-in-Err-clause-err
returns-in-Err-clause-err c = told_same c.args.tables.now c.take_out.new.places c.args.tables.now.order c.add-2.new.notes (places_back c.args.tables.now c.requires.agree c.args.object c.take_out.new.places c.take_out.ensures.agree c.add.new.places _ (nothing (slot_in c.args.tables.now.places c.args.object) (sym c.if-is_known.ensures)) c.in_ok-add.ensures.ok c.take_out.ensures.gone) (same_order c.args.tables.now.order) c.in-Err.ensures.err

pub returns-in-Err-clause-agree : goal.returns-in-Err-clause-agree
returns-in-Err-clause-agree c = agree_same c.args.tables.now c.take_out.new.places c.args.tables.now.order c.add-2.new.notes (places_back c.args.tables.now c.requires.agree c.args.object c.take_out.new.places c.take_out.ensures.agree c.add.new.places _ (nothing (slot_in c.args.tables.now.places c.args.object) (sym c.if-is_known.ensures)) c.in_ok-add.ensures.ok c.take_out.ensures.gone) c.requires.agree c.take_out.ensures.agree c.requires.agree.order (same_order c.args.tables.now.order)

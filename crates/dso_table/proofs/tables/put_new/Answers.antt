use Rattle.std.proofs.Common.{refl, ap, ◌∙◌, true}
use Rattle.dso_table.specs.ObjectTables.{is_ordered}
use Rattle.dso_table.proofs.lists.Numbers.{with_at_here}
use Rattle.dso_table.proofs.objects.TableChanges.{told_same, agree_same, order_back, told_new, agree_new}
use Rattle.dso_table.proofs.tables.put_new.Goals as goal

pub returns-in_err-add-clause-agree : goal.returns-in_err-add-clause-agree
returns-in_err-add-clause-agree c = agree_same c.args.tables.now c.args.tables.now.places c.add.new.order c.args.tables.now.wanted refl c.requires.agree c.requires.agree.places c.add.ensures.agrees (record { used = c.add.ensures.used; limit = c.add.ensures.limit; ordered = c.in_err-add.ensures.same; number = c.in_err-add.ensures.same_number })

pub take_out-requires-clause-there : goal.take_out-requires-clause-there
take_out-requires-clause-there c = ap (λ f. f c.args.slot.object) c.in_ok-add.ensures.ordered ∙ with_at_here c.args.slot.object true (is_ordered c.args.tables.now.order)

pub returns-in-Ok-clause-ok : goal.returns-in-Ok-clause-ok
returns-in-Ok-clause-ok c = told_new c.args.tables.now c.requires.agree c.args.slot.object c.put.new.places c.put.ensures.agree c.add.new.order c.args.slot refl c.in-Ok.ensures.ok c.add.ensures.used c.add.ensures.limit c.in_ok-add.ensures.number

pub returns-in-Ok-clause-agree : goal.returns-in-Ok-clause-agree
returns-in-Ok-clause-agree c = agree_new c.args.tables.now c.requires.agree c.args.slot.object c.put.new.places c.put.ensures.agree c.add.new.order c.args.slot c.add.ensures.agrees c.requires.resident c.in-Ok.ensures.ok c.in_ok-add.ensures.ordered

pub returns-in-Err-clause-err : goal.returns-in-Err-clause-err
returns-in-Err-clause-err c = told_same c.args.tables.now c.put.new.places c.take_out.new.order c.args.tables.now.wanted c.in-Err.ensures.err (order_back c.args.tables.now c.requires.agree c.args.slot.object c.add.new.order c.take_out.new.order c.requires.absent c.add.ensures.used c.add.ensures.limit c.in_ok-add.ensures.ordered c.in_ok-add.ensures.number c.take_out.ensures.used c.take_out.ensures.limit c.take_out.ensures.ordered c.take_out.ensures.number) refl

pub returns-in-Err-clause-agree : goal.returns-in-Err-clause-agree
returns-in-Err-clause-agree c = agree_same c.args.tables.now c.put.new.places c.take_out.new.order c.args.tables.now.wanted c.in-Err.ensures.err c.requires.agree c.put.ensures.agree c.take_out.ensures.agrees (order_back c.args.tables.now c.requires.agree c.args.slot.object c.add.new.order c.take_out.new.order c.requires.absent c.add.ensures.used c.add.ensures.limit c.in_ok-add.ensures.ordered c.in_ok-add.ensures.number c.take_out.ensures.used c.take_out.ensures.limit c.take_out.ensures.ordered c.take_out.ensures.number)

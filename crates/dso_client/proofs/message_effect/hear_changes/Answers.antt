use Rattle.dso_base.specs.declared.record.Set.{Set}
use Rattle.dso_base.specs.declared.value.Value.TheVariants.{Null}
use Rattle.dso_client.proofs.heard.Changes.{none_heard, one_more_heard, all_heard}
use Rattle.dso_client.proofs.message_effect.hear_changes.Goals as goal

pub loop-set-init : goal.loop-set-init
loop-set-init c = none_heard c.args.sets.now c.args.table.now

pub loop-set-preserved : goal.loop-set-preserved
loop-set-preserved c =
    let none : Set = record { object = 0; field = 0; value = Null } in
    one_more_heard c.loop-set.set-index c.args.sets.now none c.args.table.now c.loop-set.table c.hear_change.new.table c.loop-set-test.true c.loop-set.invariant c.hear_change.ensures

pub returns : goal.returns
returns c = all_heard c.loop-set.set-index c.args.sets.now c.args.table.now c.loop-set.table c.loop-set-test.false c.loop-set.invariant

use Rattle.std.proofs.Common.{Some}
use Rattle.dso_base.specs.declared.value.Value.TheVariants.{Null}
use Rattle.dso_store.specs.Changes.{row_has}
use Rattle.dso_change.proofs.Gathered.{kept_next}
use Rattle.dso_store.proofs.changes.sets_in.Goals as goal

pub loop-set-preserved : goal.loop-set-preserved
loop-set-preserved c = kept_next (λ set. row_has (Some c.args.row.now) set.object) c.args.sets.now c.loop-set.set-index (record { object = 0; field = 0; value = Null }) c.loop-set.held.items c.add_held.new.sets.items c.loop-set-test.true c.loop-set.invariant c.in_ok-add_held.ensures

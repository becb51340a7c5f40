use Rattle.std.specs.BTreeSet.{contains}
use Rattle.std.specs.Ordering.{nat_cmp}
use Rattle.dso_base.specs.declared.value.Value.TheVariants.{Null}
use Rattle.dso_change.proofs.Gathered.{kept_next}
use Rattle.dso_change.proofs.changes.changes_for.Goals as goal

pub loop-set-preserved : goal.loop-set-preserved
loop-set-preserved c = kept_next (λ set. contains nat_cmp c.in_ok-holds.holds set.object) c.as_slice-set-items.result.now c.loop-set.set-index (record { object = 0; field = 0; value = Null }) c.loop-set.changes.items c.add_held.new.changes.items c.loop-set-test.true c.loop-set.invariant c.in_ok-add_held.ensures

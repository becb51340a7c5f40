use Rattle.std.proofs.Common.{◌∙◌, sym}
use Rattle.std.specs.Ordering.{nat_cmp}
use Rattle.dso_base.specs.declared.value.Value.TheVariants.{Null}
use Rattle.dso_lookup.specs.Maps.{look}
use Rattle.dso_store.proofs.BodiesWritten.{sets_next, sets_all}
use Rattle.dso_store.proofs.bodies.set_all.Goals as goal

pub loop-set-preserved : goal.loop-set-preserved
loop-set-preserved c = sets_next c.args.sets.now (record { object = 0; field = 0; value = Null }) c.loop-set.set-index (look nat_cmp c.loop-set.bodies) (look nat_cmp c.set_in.new.bodies) c.loop-set-test.true c.set_in.ensures.written ∙ c.loop-set.invariant

pub returns : goal.returns
returns c = sym (sets_all c.args.sets.now c.loop-set.set-index (look nat_cmp c.loop-set.bodies) c.loop-set-test.false) ∙ c.loop-set.invariant

use Rattle.dso_report.proofs.bodies.Listed.{listed_next}
use Rattle.dso_report.proofs.body_table.objects_of.Goals as goal

-- the object of one body more
pub loop-body-preserved : goal.loop-body-preserved
loop-body-preserved c =
    listed_next c.args.bodies.now c.loop-body.body-index c.body-item.result c.loop-body.objects.keys c.add_object.new.order.keys c.requires c.loop-body-test.true c.body-item.is c.loop-body.invariant c.in_ok-add_object.ensures

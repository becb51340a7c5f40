use Rattle.dso_store.proofs.Collected.{one_taken}
use Rattle.dso_store.proofs.collecting.take_body.Goals as goal

pub returns-clause-bodies : goal.returns-clause-bodies
returns-clause-bodies c = one_taken c.args.object c.args.bodies.now c.take.new.map c.take.ensures.gone

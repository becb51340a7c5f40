use Rattle.cluster_cases.specs.Driving.{Goes}
use Rattle.cluster_cases.proofs.Going.{anyway}
use Rattle.cluster_cases.proofs.rows.heard.Goals as goal

pub returns-in-Some : goal.returns-in-Some
returns-in-Some c = anyway c.take.result (Goes c.args.code.now c.take.new.self) (c.take.ensures c.args.code.now c.requires)

pub returns-in-Some-2 : goal.returns-in-Some-2
returns-in-Some-2 c = anyway c.offer.result (Goes c.args.code.now c.offer.new.self) (c.offer.ensures c.args.code.now c.requires)

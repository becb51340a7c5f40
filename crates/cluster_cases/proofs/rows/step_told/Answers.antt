use Rattle.cluster_cases.specs.Driving.{Goes}
use Rattle.cluster_cases.proofs.Going.{anyway}
use Rattle.cluster_cases.proofs.rows.step_told.Goals as goal

pub returns-in-flush : goal.returns-in-flush
returns-in-flush c = anyway c.flush.result (Goes c.args.code.now c.flush.new.self) (c.flush.ensures c.args.code.now c.requires.goes)

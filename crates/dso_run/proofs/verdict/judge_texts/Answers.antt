use Rattle.std.proofs.Common.{rules}
use Rattle.dso_run.proofs.GivenTexts.{fault_refused}
use Rattle.dso_run.proofs.verdict.judge_texts.Goals as goal

-- a fault of the configuration
pub returns-in-Err : goal.returns-in-Err
returns-in-Err c = fault_refused c.args.config.now c.args.program.now c.in-Err.fault c.in-Err.ensures.refused (search rules)

use Rattle.dso_law.proofs.run_laws.numbers.Goals as goal
use Rattle.dso_law.proofs.runs.Numbers.{records_are_numbered, records_are_acked_in_order}

pub returns-clause-numbered : goal.returns-clause-numbered
returns-clause-numbered c = records_are_numbered

pub returns-clause-in_order : goal.returns-clause-in_order
returns-clause-in_order c = records_are_acked_in_order

use Rattle.dso_machine.proofs.unwinding.Laws as laws
use Rattle.dso_machine.proofs.laws.faults_unwind.Goals as goal

pub returns-clause-refused : goal.returns-clause-refused
returns-clause-refused c = laws.refused

pub returns-clause-failed : goal.returns-clause-failed
returns-clause-failed c = laws.failed

pub returns-clause-ended : goal.returns-clause-ended
returns-clause-ended c = laws.ended

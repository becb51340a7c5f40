use Rattle.dso_class.proofs.rules.OneFault as laws
use Rattle.dso_class.proofs.one_program.Program as program
use Rattle.dso_class.proofs.laws.one_answer.Goals as goal

pub returns-clause-one_fault : goal.returns-clause-one_fault
returns-clause-one_fault c = laws.one_fault

pub returns-clause-no_fault : goal.returns-clause-no_fault
returns-clause-no_fault c = laws.no_fault

pub returns-clause-one_program : goal.returns-clause-one_program
returns-clause-one_program c = program.one_program

use Rattle.dso_syntax.proofs.faults.OneFault as laws
use Rattle.dso_syntax.proofs.grammar.one_fault.Goals as goal

pub returns : goal.returns
returns c = laws.one_fault

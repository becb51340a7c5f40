use Rattle.dso_machine.proofs.unwinding.Laws as laws
use Rattle.dso_machine.proofs.laws.locks_nest.Goals as goal

pub returns-clause-exits : goal.returns-clause-exits
returns-clause-exits c = laws.exits

pub returns-clause-ends : goal.returns-clause-ends
returns-clause-ends c = laws.ends

pub returns-clause-waits : goal.returns-clause-waits
returns-clause-waits c = laws.waits

pub returns-clause-settles : goal.returns-clause-settles
returns-clause-settles c = laws.settles

pub returns-clause-settles_only : goal.returns-clause-settles_only
returns-clause-settles_only c = laws.settles_only

use Rattle.dso_legal.proofs.laws.names_are_out.Goals as goal
use Rattle.dso_legal.proofs.fitting.NamesOut.{names_are_out}

pub returns : goal.returns
returns c = names_are_out

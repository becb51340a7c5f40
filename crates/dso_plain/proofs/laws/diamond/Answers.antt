use Rattle.dso_plain.proofs.laws.diamond.Goals as goal
use Rattle.dso_plain.proofs.independence.RunsSwap.{diamond}
use Rattle.dso_plain.proofs.independence.ChoicesSwap.{choices_swap}

pub returns-clause-swaps : goal.returns-clause-swaps
returns-clause-swaps c = diamond

pub returns-clause-choices : goal.returns-clause-choices
returns-clause-choices c = choices_swap

use Rattle.dso_legal.proofs.laws.ways_down_fit.Goals as goal
use Rattle.dso_legal.proofs.fitting.WaysDownFit.{ways_down_fit}

pub returns : goal.returns
returns c = ways_down_fit

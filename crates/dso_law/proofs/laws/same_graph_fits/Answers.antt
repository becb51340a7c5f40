use Rattle.dso_law.proofs.laws.same_graph_fits.Goals as goal
use Rattle.dso_law.proofs.server.SameGraph.{same_graph_fits}

pub returns : goal.returns
returns c = same_graph_fits

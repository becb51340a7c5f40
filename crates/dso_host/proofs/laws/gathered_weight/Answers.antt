use Rattle.dso_host.proofs.hosts.Journals.{gathered_weight}
use Rattle.dso_host.proofs.laws.gathered_weight.Goals as goal

pub returns : goal.returns
returns c = gathered_weight

use Rattle.dso_host.proofs.merging.Lawful.{merged_is_lawful}
use Rattle.dso_host.proofs.laws.merged_is_lawful.Goals as goal

pub returns : goal.returns
returns c = merged_is_lawful

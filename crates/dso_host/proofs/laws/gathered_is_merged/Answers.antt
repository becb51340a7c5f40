use Rattle.dso_host.proofs.merging.Gathered.{gathered_is_merged}
use Rattle.dso_host.proofs.laws.gathered_is_merged.Goals as goal

pub returns : goal.returns
returns c = gathered_is_merged

use Rattle.dso_host.proofs.hosts.Journals.{gathered_is_lawful}
use Rattle.dso_host.proofs.laws.gathered_is_lawful.Goals as goal

pub returns : goal.returns
returns c = gathered_is_lawful

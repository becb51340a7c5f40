use Rattle.std.proofs.Common.{rules}
use Rattle.dso_host.proofs.hosts.Answered.{gathered_lawful}
use Rattle.dso_host.proofs.host.Host.gather.Goals as goal

pub returns-clause-lawful : goal.returns-clause-lawful
returns-clause-lawful c = gathered_lawful c.args.self c.in_ok-self.field-0 c.gather.result (search rules) c.gather.ensures

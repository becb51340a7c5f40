use Rattle.std.proofs.Common.{rules}
use Rattle.dso_host.proofs.hosts.Answered.{weight_told}
use Rattle.dso_host.proofs.host.Host.weight.Goals as goal

pub returns-in-Ok : goal.returns-in-Ok
returns-in-Ok c = weight_told c.args.self.now c.in-Ok.cells c.weight.result (search rules) c.weight.ensures

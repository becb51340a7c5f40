use Rattle.dso_host.proofs.hosts.Told.{none_busy, pair_busy}
use Rattle.dso_host.proofs.cells.Cells.is_busy.Goals as goal

pub returns-in-Some : goal.returns-in-Some
returns-in-Some c = pair_busy c.args.self.now c.args.client c.in-Some.pair c.is_busy.result c.in-Some.ensures.some c.is_busy.ensures

pub returns-in-None : goal.returns-in-None
returns-in-None c = none_busy c.args.self.now c.args.client _ c.in-None.ensures.none

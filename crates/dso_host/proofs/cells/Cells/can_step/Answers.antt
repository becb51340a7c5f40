use Rattle.dso_host.proofs.hosts.AnyOpen.{no_step_of, step_told}
use Rattle.dso_host.proofs.cells.Cells.can_step.Goals as goal

pub returns-in-Some : goal.returns-in-Some
returns-in-Some c = step_told c.args.self.now c.args.client c.in-Some.pair c.may_step.result c.in-Some.ensures.some c.may_step.ensures

pub returns-in-None : goal.returns-in-None
returns-in-None c = no_step_of c.args.self.now c.args.client _ c.in-None.ensures.none

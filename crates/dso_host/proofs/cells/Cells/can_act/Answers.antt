use Rattle.dso_host.proofs.hosts.AnyOpen.{act_told, no_act, no_client}
use Rattle.dso_host.proofs.cells.Cells.can_act.Goals as goal

pub returns-then-thread-eq0 : goal.returns-then-thread-eq0
returns-then-thread-eq0 c = no_client c.args.self.now c.args.thread _ c.if-thread-eq0.true

pub returns-in-Some : goal.returns-in-Some
returns-in-Some c = act_told c.args.self.now c.args.thread c.in-Some.pair c.may_act.result c.in-Some.ensures.some c.may_act.ensures

pub returns-in-None : goal.returns-in-None
returns-in-None c = no_act c.args.self.now c.args.thread _ c.in-None.ensures.none

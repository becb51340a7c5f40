use Rattle.dso_host.proofs.hosts.AnyOpen.{open_by_act, open_by_step}
use Rattle.dso_host.proofs.cells.Cells.is_any_open.Goals as goal

pub returns-then-is_any_act_open : goal.returns-then-is_any_act_open
returns-then-is_any_act_open c = open_by_act c.args.program.now c.args.self.now c.is_any_act_open.result c.is_any_act_open.ensures c.if-is_any_act_open.true

pub returns-else-is_any_act_open : goal.returns-else-is_any_act_open
returns-else-is_any_act_open c =
    open_by_step c.args.program.now c.args.self.now c.is_any_act_open.result c.is_any_step_open.result c.is_any_act_open.ensures c.if-is_any_act_open.false c.is_any_step_open.ensures

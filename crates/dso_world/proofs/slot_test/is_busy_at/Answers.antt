use Rattle.dso_world.proofs.worlds.Looks.{busy_at, lent, nobody_at, unlent}
use Rattle.dso_world.proofs.slot_test.is_busy_at.Goals as goal

pub returns-in-Some : goal.returns-in-Some
returns-in-Some c = busy_at c.args.program.now c.args.place c.args.nodes.now c.in-Some.client_node.now c.is_busy.result c.requires.within
    (lent c.args.nodes.now.client_nodes.items c.deref.result.now c.args.place c.in-Some.client_node.now c.deref.ensures.value c.in-Some.ensures.lookup.0 c.in-Some.ensures.lookup.1) (c.is_busy.ensures c.args.program.now)

pub returns-in-None : goal.returns-in-None
returns-in-None c = nobody_at c.args.program.now c.args.place c.args.nodes.now c.requires.within
    (unlent c.args.nodes.now.client_nodes.items c.deref.result.now c.args.place c.deref.ensures.value c.in-None.ensures.lookup.0)

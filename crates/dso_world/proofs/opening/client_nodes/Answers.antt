use Rattle.dso_world.proofs.worlds.Openings.{one_more}
use Rattle.dso_world.proofs.opening.client_nodes.Goals as goal

pub loop-number-preserved : goal.loop-number-preserved
loop-number-preserved c = one_more c.args.program.now c.requires c.loop-number.number c.loop-number.client_nodes.items c.push.new.self.items c.in_ok-client_node.field-0 c.loop-number.invariant c.in_ok-client_node.ensures c.in_ok-push.ensures.items

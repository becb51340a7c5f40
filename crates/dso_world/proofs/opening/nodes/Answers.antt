use Rattle.std.proofs.Common.{refl}
use Rattle.dso_world.proofs.worlds.Openings.{nodes_stand}
use Rattle.dso_world.proofs.opening.nodes.Goals as goal

pub returns : goal.returns
returns c = nodes_stand c.args.program.now c.requires _ c.in_ok-client_nodes.ensures c.in_ok-server.ensures.stands c.in_ok-server.ensures.lacks c.in_ok-server.ensures.given refl

use Rattle.std.proofs.Common.{refl}
use Rattle.dso_world.proofs.worlds.Openings.{world_stands}
use Rattle.dso_world.proofs.world.World.new.Goals as goal

pub returns-clause-stands : goal.returns-clause-stands
returns-clause-stands c = world_stands c.args.program.now c.requires _ c.new.ensures c.in_ok-nodes.ensures c.in_ok-open_steps.ensures refl

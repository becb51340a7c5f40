use Rattle.std.proofs.Common.{sym, ◌∙◌}
use Rattle.dso_world.specs.WorldStands.{entries_in}
use Rattle.dso_world.proofs.worlds.Stepped.{open_told}
use Rattle.dso_world.proofs.world.World.enabled.Goals as goal

pub returns : goal.returns
returns c = λ program stands whole. c.is_open.ensures ∙ sym (open_told program c.args.step c.args.self.now.open_steps (entries_in c.args.self.now) (stands.parts whole).open_steps)

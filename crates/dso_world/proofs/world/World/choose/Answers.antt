use Rattle.std.proofs.Common.{sym, subst}
use Rattle.dso_world.specs.WorldStands.{IsChosenStep}
use Rattle.dso_world.proofs.worlds.Choices.{chosen_step}
use Rattle.dso_world.proofs.world.World.choose.Goals as goal

pub returns-clause-chosen : goal.returns-clause-chosen
returns-clause-chosen c = λ program stands whole. subst (λ chosen. IsChosenStep program c.args.seed chosen c.args.self.now) (sym c.choose.ensures.chosen)
    (chosen_step program c.args.seed c.args.self.now (stands.parts whole).open_steps c.choose.ensures.within)

use Rattle.dso_world.proofs.journals.Letters.{letters_are_left}
use Rattle.dso_world.proofs.laws.letters_are_left.Goals as goal

pub returns : goal.returns
returns g c = letters_are_left

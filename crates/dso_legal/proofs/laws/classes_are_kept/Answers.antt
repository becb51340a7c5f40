use Rattle.dso_legal.proofs.laws.classes_are_kept.Goals as goal
use Rattle.dso_legal.proofs.fitting.Classes.{classes_are_kept}

pub returns : goal.returns
returns c = classes_are_kept

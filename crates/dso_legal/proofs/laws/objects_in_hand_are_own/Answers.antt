use Rattle.dso_legal.proofs.laws.objects_in_hand_are_own.Goals as goal
use Rattle.dso_legal.proofs.objects.OwnObjects.{objects_in_hand_are_own}

pub returns : goal.returns
returns c = objects_in_hand_are_own

use Rattle.dso_legal.proofs.laws.batches_have_room.Goals as goal
use Rattle.dso_legal.proofs.fitting.Room.{batches_have_room}

pub returns : goal.returns
returns c = batches_have_room

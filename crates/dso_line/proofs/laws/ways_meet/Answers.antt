use Rattle.dso_line.proofs.rings.Meeting.{ways_meet}
use Rattle.dso_line.proofs.laws.ways_meet.Goals as goal

pub returns : goal.returns
returns c = ways_meet

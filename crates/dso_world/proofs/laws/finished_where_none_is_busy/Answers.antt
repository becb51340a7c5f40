use Rattle.dso_world.proofs.finished.Busy.{finished_is}
use Rattle.dso_world.proofs.laws.finished_where_none_is_busy.Goals as goal

pub returns : goal.returns
returns c = finished_is

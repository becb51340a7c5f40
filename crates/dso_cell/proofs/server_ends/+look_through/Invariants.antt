use Rattle.std.proofs.Common.{length}
use Rattle.dso_cell.proofs.server_ends.+look_through.Given as goal

abbrev pub decreases-look_through : goal.decreases-look_through
decreases-look_through l = length l.ends.now

use Rattle.std.proofs.Common.{length}
use Rattle.dso_cell.proofs.server_ends.+give_each.Given as goal

abbrev pub decreases-give_each : goal.decreases-give_each
decreases-give_each l = length l.ends.now

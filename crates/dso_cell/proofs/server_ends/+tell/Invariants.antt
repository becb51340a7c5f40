use Rattle.std.proofs.Common.{length}
use Rattle.dso_cell.proofs.server_ends.+tell.Given as goal

abbrev pub decreases-tell : goal.decreases-tell
decreases-tell l = length l.messages.now

use Rattle.std.proofs.Common.{length}
use Rattle.dso_world.proofs.server_entry.+tell.Given as goal

abbrev pub decreases-tell : goal.decreases-tell
decreases-tell l = length l.messages.now

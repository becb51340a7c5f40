use Rattle.std.proofs.Common.{length}
use Rattle.dso_world.proofs.client_entry.+send_all.Given as goal

abbrev pub decreases-send_all : goal.decreases-send_all
decreases-send_all l = length l.messages.now

use Rattle.std.proofs.Common.{length}
use Rattle.dso_world.proofs.touched_threads.Touches.+with_sent.Given as goal

abbrev pub decreases-with_sent : goal.decreases-with_sent
decreases-with_sent l = length l.messages.now

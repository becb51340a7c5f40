use Rattle.std.proofs.Common.{length}
use Rattle.dso_client.proofs.named.+add_threads.Given as goal

abbrev pub decreases-add_threads : goal.decreases-add_threads
decreases-add_threads l = length l.contexts.now

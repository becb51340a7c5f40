use Rattle.std.proofs.Common.{length}
use Rattle.dso_client.proofs.thread_context.+alive.Given as goal

abbrev pub decreases-alive : goal.decreases-alive
decreases-alive l = length l.contexts.now

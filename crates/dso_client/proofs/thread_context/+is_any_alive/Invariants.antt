use Rattle.std.proofs.Common.{length}
use Rattle.dso_client.proofs.thread_context.+is_any_alive.Given as goal

abbrev pub decreases-is_any_alive : goal.decreases-is_any_alive
decreases-is_any_alive l = length l.contexts.now

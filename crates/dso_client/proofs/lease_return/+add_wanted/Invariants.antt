use Rattle.std.proofs.Common.{length}
use Rattle.dso_client.proofs.lease_return.+add_wanted.Given as goal

abbrev pub decreases-add_wanted : goal.decreases-add_wanted
decreases-add_wanted l = length l.contexts.now

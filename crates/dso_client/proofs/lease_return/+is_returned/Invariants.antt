use Rattle.std.proofs.Common.{length}
use Rattle.dso_client.proofs.lease_return.+is_returned.Given as goal

abbrev pub decreases-is_returned : goal.decreases-is_returned
decreases-is_returned l = length l.sent.now

use Rattle.std.proofs.Common.{length}
use Rattle.dso_client.proofs.lease_return.+place.Given as goal

abbrev pub decreases-place : goal.decreases-place
decreases-place l = length l.locks.now

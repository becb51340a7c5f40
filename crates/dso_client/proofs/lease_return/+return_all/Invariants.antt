use Rattle.std.proofs.Common.{length}
use Rattle.dso_client.proofs.lease_return.+return_all.Given as goal

abbrev pub decreases-return_all : goal.decreases-return_all
decreases-return_all l = length l.locks.now

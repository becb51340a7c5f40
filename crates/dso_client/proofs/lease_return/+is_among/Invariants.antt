use Rattle.std.proofs.Common.{length}
use Rattle.dso_client.proofs.lease_return.+is_among.Given as goal

abbrev pub decreases-is_among : goal.decreases-is_among
decreases-is_among l = length l.locks.now

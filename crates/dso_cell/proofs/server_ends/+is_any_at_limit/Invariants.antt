use Rattle.std.proofs.Common.{length}
use Rattle.dso_cell.proofs.server_ends.+is_any_at_limit.Given as goal

abbrev pub decreases-is_any_at_limit : goal.decreases-is_any_at_limit
decreases-is_any_at_limit l = length l.ends.now

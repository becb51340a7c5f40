use Rattle.std.proofs.Common.{length}
use Rattle.cluster_cases.proofs.turns.+all_turns.Given as goal

abbrev pub decreases-all_turns : goal.decreases-all_turns
decreases-all_turns l = length l.cells.now

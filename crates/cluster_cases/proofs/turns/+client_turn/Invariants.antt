use Rattle.std.proofs.Common.{length}
use Rattle.cluster_cases.proofs.turns.+client_turn.Given as goal

abbrev pub decreases-client_turn : goal.decreases-client_turn
decreases-client_turn l = length l.cells.now

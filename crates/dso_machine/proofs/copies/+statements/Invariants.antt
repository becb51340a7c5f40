use Rattle.std.proofs.Common.{◌≡◌, ◌*◌, ◌+◌, take}
use Rattle.dso_machine.proofs.copies.+statements.Given as goal

-- the list has what was gone over so far
abbrev pub invariant-copied_block-loop-one : goal.invariant-copied_block-loop-one
invariant-copied_block-loop-one l = l.copy ≡ take l.one-index l.all

-- each goes by the depth, and at one depth they call each other in this order, the last first
abbrev pub decreases-copied_stmt : goal.decreases-copied_stmt
decreases-copied_stmt l = 4 * goal.size-copied_stmt l

abbrev pub decreases-stmt_again : goal.decreases-stmt_again
decreases-stmt_again l = 4 * goal.size-stmt_again l + 1

abbrev pub decreases-copied_block : goal.decreases-copied_block
decreases-copied_block l = 4 * goal.size-copied_block l + 2

abbrev pub decreases-block_again : goal.decreases-block_again
decreases-block_again l = 4 * goal.size-block_again l + 3

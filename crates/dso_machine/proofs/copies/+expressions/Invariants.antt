use Rattle.std.proofs.Common.{◌≡◌, ◌*◌, ◌+◌, take}
use Rattle.dso_machine.proofs.copies.+expressions.Given as goal

-- the list has what was gone over so far
abbrev pub invariant-copied_arguments-loop-one : goal.invariant-copied_arguments-loop-one
invariant-copied_arguments-loop-one l = l.copy ≡ take l.one-index l.all

-- each goes by the depth, and at one depth they call each other in this order, the last first
abbrev pub decreases-copied_expr : goal.decreases-copied_expr
decreases-copied_expr l = 4 * goal.size-copied_expr l

abbrev pub decreases-expr_again : goal.decreases-expr_again
decreases-expr_again l = 4 * goal.size-expr_again l + 1

abbrev pub decreases-copied_arguments : goal.decreases-copied_arguments
decreases-copied_arguments l = 4 * goal.size-copied_arguments l + 2

abbrev pub decreases-arguments_again : goal.decreases-arguments_again
decreases-arguments_again l = 4 * goal.size-arguments_again l + 3

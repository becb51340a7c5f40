use Rattle.std.proofs.Common.{◌≡◌, ◌≤◌, ℕ, ◌+◌, ◌-◌, true, length, get_or}
use Rattle.dso_lint.proofs.rows.cover.Given as goal

abbrev pub invariant-loop-variables : goal.invariant-loop-variables
invariant-loop-variables l = (length l.initial.variables.items ≤ length l.variables.items) × ((i : ℕ) → get_or l.variables.items i true ≡ get_or l.initial.variables.items i true)

abbrev pub decreases-loop-variables : goal.decreases-loop-variables
decreases-loop-variables l = l.number + 1 - length l.variables.items

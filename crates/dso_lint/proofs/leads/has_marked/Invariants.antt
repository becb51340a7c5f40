use Rattle.std.proofs.Common.{◌<◌, ℕ, get_or}
use Rattle.dso_lint.specs.Leads.{Within}
use Rattle.dso_lint.proofs.leads.has_marked.Given as goal

abbrev pub invariant-loop-callee : goal.invariant-loop-callee
invariant-loop-callee l = (k : ℕ) (d : ℕ × ℕ) → k < l.callee-index → Within l.marked (get_or l.callees k d).1 → ⊥

use Rattle.std.proofs.Common.{◌≡◌, ◌-◌, ◌^◌, ◌≤◌, length}
use Rattle.dso_report.specs.Numbering.{visited}
use Rattle.dso_report.proofs.numbering.order_of.Given as goal

abbrev pub invariant-loop-visits : goal.invariant-loop-visits
invariant-loop-visits g l = (l.order.keys ≡ visited (g.S.Seen.state l.seen) l.visits) × (l.visits ≤ length l.order.keys)

-- the order never has 2 ^ 63 objects
abbrev pub decreases-loop-visits : goal.decreases-loop-visits
decreases-loop-visits g l = 2 ^ 63 - l.visits

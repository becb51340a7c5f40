use Rattle.std.proofs.Common.{◌≡◌}
use Rattle.dso_report.specs.Numbering.{add_fields}
use Rattle.dso_report.proofs.numbering.add_fields.Given as goal

abbrev pub invariant-loop-field : goal.invariant-loop-field
invariant-loop-field g l = l.order.keys ≡ add_fields (g.S.Seen.state l.seen) l.object l.field l.fn.order.keys

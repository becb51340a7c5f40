use Rattle.std.proofs.Common.{◌≡◌, Some}
use Rattle.std.specs.Fmt.{◌++?◌}
use Rattle.dso_report.specs.Report.{field_text}
use Rattle.dso_report.specs.Texts.{each_below}
use Rattle.dso_report.proofs.graph_lines.push_fields.Given as goal

abbrev pub invariant-loop-field : goal.invariant-loop-field
invariant-loop-field g l = Some l.fn.text.items ++? each_below (field_text l.graph.names.now l.graph.order.now.keys (g.S.Seen.state l.graph.seen.now) l.object l.fields) l.field ≡ Some l.text.items

use Rattle.std.proofs.Common.{◌≡◌, Some}
use Rattle.std.specs.Fmt.{◌++?◌}
use Rattle.dso_report.specs.Report.{element_text}
use Rattle.dso_report.specs.Texts.{each_below}
use Rattle.dso_report.proofs.graph_lines.push_elements.Given as goal

abbrev pub invariant-loop-at : goal.invariant-loop-at
invariant-loop-at g l = Some l.fn.text.items ++? each_below (element_text l.graph.names.now l.graph.order.now.keys (g.S.Seen.state l.graph.seen.now) l.object) l.at ≡ Some l.text.items

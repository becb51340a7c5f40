use Rattle.std.proofs.Common.{◌≡◌, Some, take}
use Rattle.std.specs.Fmt.{◌++?◌}
use Rattle.dso_report.specs.Numbering.{fields_of}
use Rattle.dso_report.specs.Report.{root_line, object_line}
use Rattle.dso_report.specs.Texts.{each_below, each_of}
use Rattle.dso_report.proofs.graph_lines.push_graph.Given as goal

abbrev pub invariant-loop-root : goal.invariant-loop-root
invariant-loop-root g l = Some l.fn.text.items ++? each_below (root_line l.names l.order.keys (g.S.Seen.state l.seen)) l.root ≡ Some l.text.items

abbrev pub invariant-loop-object : goal.invariant-loop-object
invariant-loop-object g l = (Some l.fn.text.items ++? each_below (root_line l.names l.order.keys (g.S.Seen.state l.seen)) (fields_of (g.S.Seen.state l.seen) 0)) ++? each_of (object_line l.names l.order.keys (g.S.Seen.state l.seen)) (take l.object-index l.order.keys) ≡ Some l.text.items

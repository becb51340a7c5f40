use Rattle.std.proofs.Common.{Err, inr, ap, ◌∙◌}
use Rattle.dso_report.specs.BodyGraph.{state_of_bodies}
use Rattle.dso_report.proofs.bodies.WholeGraph.{all_counted, whole_graph}
use Rattle.dso_report.proofs.texts.ReportTexts.{lacks_nothing}
use Rattle.dso_report.proofs.body_graph.graph.Goals as goal

-- no body has more values than can be counted
pub graph_of_bodies-requires-clause-counted : goal.graph_of_bodies-requires-clause-counted
graph_of_bodies-requires-clause-counted c = all_counted c.args.program.now c.requires.sound c.args.bodies.now c.requires.graph

-- a graph of the program lacks no text
pub unreachable-requires : goal.unreachable-requires
unreachable-requires c =
    lacks_nothing c.args.program.now.names (state_of_bodies c.args.bodies.now) (whole_graph c.args.program.now c.requires.sound c.args.bodies.now c.requires.graph)
    (inr (c.graph_of_bodies.ensures.missing (c.in-Err-Missing.is ∙ ap Err c.in-Err-Missing.field-0-is)))

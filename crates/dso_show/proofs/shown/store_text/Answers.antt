use Rattle.std.proofs.Common.{◌∙◌, ap, subst, Some, map}
use Rattle.std.specs.Prelude.{IfOk}
use Rattle.dso_report.specs.Report.{IsGraphText}
use Rattle.dso_show.proofs.graph.Whole.{whole_graph, whole_roots, whole_state, whole_there}
use Rattle.dso_show.proofs.shown.store_text.Goals as goal

-- a whole store has object 0
pub bodies_of-requires-clause-roots : goal.bodies_of-requires-clause-roots
bodies_of-requires-clause-roots c = whole_roots c.args.program.now c.args.kept.now c.requires.whole

-- and each object that its records publish
pub bodies_of-requires-clause-there : goal.bodies_of-requires-clause-there
bodies_of-requires-clause-there c = whole_there c.args.program.now c.args.kept.now c.requires.whole

-- their bodies are a graph of the program
pub graph-requires-clause-graph : goal.graph-requires-clause-graph
graph-requires-clause-graph c =
    whole_graph c.args.program.now c.args.kept.now c.requires.whole c.requires.sound c.as_slice.result.now
    (ap (map Some) c.as_slice.ensures.value ∙ c.in_ok-bodies.ensures)

-- and that which the records leave
pub returns : goal.returns
returns c =
    let state = whole_state c.args.program.now c.args.kept.now c.requires.whole c.requires.sound c.as_slice.result.now
    (ap (map Some) c.as_slice.ensures.value ∙ c.in_ok-bodies.ensures) in
    subst (λ s. IfOk c.graph.result (λ text. IsGraphText c.args.program.now.names s text.items)) state c.graph.ensures

use Rattle.std.proofs.Common.{Err, sym, ap, ◌∙◌}
use Rattle.std.proofs.lemmas.Result.{err_from_is_err_and}
use Rattle.dso_report.specs.Report.{element_text}
use Rattle.dso_report.proofs.texts.Appends.{below_lacks}
use Rattle.dso_report.proofs.graph_lines.push_elements.Goals as goal

-- what an element lacks, the elements lack
pub returns-in_err-push_element-clause-missing : goal.returns-in_err-push_element-clause-missing
returns-in_err-push_element-clause-missing g c is =
    let p = err_from_is_err_and c.from_residual.result c.from_residual.ensures.1 in
    below_lacks (element_text c.args.graph.now.names.now c.args.graph.now.order.now.keys (g.S.Seen.state c.args.graph.now.seen.now) c.args.object) c.args.size c.loop-at.at c.loop-at-test.true (c.in_err-push_element.ensures.missing (ap Err (sym p.2) ∙ sym p.1 ∙ is))

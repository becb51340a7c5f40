use Rattle.std.proofs.Common.{Err, sym, ap, ◌∙◌}
use Rattle.std.proofs.lemmas.Result.{err_from_is_err_and}
use Rattle.dso_report.specs.Report.{field_text}
use Rattle.dso_report.proofs.texts.Appends.{below_lacks, below_more}
use Rattle.dso_report.proofs.graph_lines.push_fields.Goals as goal

-- what a field lacks, the fields lack
pub returns-in_err-push_field-clause-missing : goal.returns-in_err-push_field-clause-missing
returns-in_err-push_field-clause-missing g c is =
    let p = err_from_is_err_and c.from_residual.result c.from_residual.ensures.1 in
    below_lacks (field_text c.args.graph.now.names.now c.args.graph.now.order.now.keys (g.S.Seen.state c.args.graph.now.seen.now) c.args.object c.args.fields.now) c.args.size c.loop-field.field c.loop-field-test.true (c.in_err-push_field.ensures.missing (ap Err (sym p.2) ∙ sym p.1 ∙ is))

-- a field more
pub loop-field-preserved : goal.loop-field-preserved
loop-field-preserved g c =
    below_more (field_text c.args.graph.now.names.now c.args.graph.now.order.now.keys (g.S.Seen.state c.args.graph.now.seen.now) c.args.object c.args.fields.now) c.args.text.now.items c.loop-field.text.items c.push_field.new.text.items c.loop-field.field
    c.loop-field.invariant c.in_ok-push_field.ensures.written

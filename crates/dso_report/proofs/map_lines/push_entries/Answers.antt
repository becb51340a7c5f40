use Rattle.std.proofs.Common.{Some, Err, ap, sym, ◌∙◌}
use Rattle.std.proofs.lemmas.Result.{err_from_is_err_and}
use Rattle.dso_report.specs.Report.{entry_text}
use Rattle.dso_report.proofs.texts.Appends.{each_lacks, each_more_behind}
use Rattle.dso_report.proofs.map_lines.push_entries.Goals as goal

-- what an entry lacks, the entries lack
pub returns-in_err-push_entry-clause-missing : goal.returns-in_err-push_entry-clause-missing
returns-in_err-push_entry-clause-missing c is =
    let p = err_from_is_err_and c.from_residual.result c.from_residual.ensures.1 in
    each_lacks (entry_text c.args.order.now.keys) c.args.entries.now c.loop-entry.entry-index _ c.loop-entry-test.true (c.in_err-push_entry.ensures.missing (ap Err (sym p.2) ∙ sym p.1 ∙ is))

-- an entry more
pub loop-entry-preserved : goal.loop-entry-preserved
loop-entry-preserved c =
    each_more_behind (entry_text c.args.order.now.keys) c.args.entries.now (Some c.args.text.now.items) c.loop-entry.text.items c.push_entry.new.text.items c.loop-entry.entry-index _ c.loop-entry-test.true c.loop-entry.invariant c.in_ok-push_entry.ensures.written

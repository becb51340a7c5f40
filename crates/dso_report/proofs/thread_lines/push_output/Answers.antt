use Rattle.std.proofs.Common.{Some, ◌≡◌, ◌+◌, None, Err, get_or, take, reverse, ap, sym, ◌∙◌, subst, arith}
use Rattle.std.specs.Fmt.{◌++?◌}
use Rattle.std.proofs.lemmas.List.{length-reverse}
use Rattle.std.proofs.lemmas.Result.{err_from_is_err_and}
use Rattle.std.proofs.lemmas.Option.{slice_get-get_or, slice_get_within, get_or_from_slice_get}
use Rattle.dso_base.specs.declared.value.Value.TheVariants as value
use Rattle.dso_report.specs.Report.{output_line}
use Rattle.dso_report.specs.Texts.{each_of}
use Rattle.dso_plain.specs.HeapTables.{state_of}
use Rattle.dso_report.proofs.texts.Appends.{each_lacks, each_more_behind}
use Rattle.dso_report.proofs.thread_lines.push_output.Goals.{in-Some+in_ok-push_output_line, in_default}
use Rattle.dso_report.proofs.thread_lines.push_output.Goals as goal

-- what a value's line lacks, the lines lack
pub returns-in_err-push_output_line-clause-missing : goal.returns-in_err-push_output_line-clause-missing
returns-in_err-push_output_line-clause-missing c is =
    let values = reverse ((state_of c.args.plain.now).output c.args.thread) in
    let line = output_line c.args.texts.now in
    let there = sym c.in-Some.ensures in
    let p = err_from_is_err_and c.from_residual.result c.from_residual.ensures.1 in
    each_lacks line values c.loop-at.at c.in-Some.value (slice_get_within values c.loop-at.at c.in-Some.value there)
    (subst (λ v. line v ≡ None) (sym (get_or_from_slice_get values c.loop-at.at c.in-Some.value c.in-Some.value there)) (c.in_err-push_output_line.ensures.missing (ap Err (sym p.2) ∙ sym p.1 ∙ is)))

-- a value more, which is there
pub loop-at-preserved : goal.loop-at-preserved
loop-at-preserved c =
    let values = reverse ((state_of c.args.plain.now).output c.args.thread) in
    let before = c.args.text.now.items in
    let line = output_line c.args.texts.now in
    let i = c.loop-at.at in
    elim c.match-output.branch [
      | in-Some+in_ok-push_output_line w ↦
          let v = w.in-Some.value in
          let there = sym w.in-Some.ensures in
          let here = sym (get_or_from_slice_get values i v v there) in
          subst (λ (text : _). Some before ++? each_of line (take (i + 1) values) ≡ Some text.items) (sym w.text-is) (each_more_behind line values (Some before) c.loop-at.text.items w.push_output_line.new.text.items i v (slice_get_within values i v there) c.loop-at.invariant
          (subst (λ x. Some c.loop-at.text.items ++? line x ≡ Some w.push_output_line.new.text.items) here w.in_ok-push_output_line.ensures.written))
      | in_default w ↦ absurd (w.in_default.not-Some (get_or values i value.Null) (c.output.ensures ∙ slice_get-get_or values i value.Null (omega (arith, c.loop-at-test.true, c.printed-at-end.ensures, length-reverse ((state_of c.args.plain.now).output c.args.thread)))))
    ]

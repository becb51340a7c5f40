use Rattle.std.proofs.Common.{sym, ap, ◌∙◌}
use Rattle.std.proofs.lemmas.Result.{on_ok_weaker}
use Rattle.dso_machine.specs.declared.tree.Expr.TheVariants as x
use Rattle.dso_lint.proofs.calling.MarkSteps.{marks_call}
use Rattle.dso_lint.proofs.marks.Marks.add_call.Goals as goal

pub returns-in-Call : goal.returns-in-Call
returns-in-Call c =
    on_ok_weaker c.add_counted.result (λ marked. marks_call c.args.row c.args.e.now c.get.result.now c.as_slice.result.now c.in-Call.field-2 c.args.self.now c.add_counted.new.self
    (c.in-Call.is ∙ ap (λ a. x.Call a c.in-Call.callees c.in-Call.field-2) (sym c.get.ensures) ∙ ap (λ cs. x.Call c.get.result.now cs c.in-Call.field-2) (sym (c.as_slice.ensures ∙ c.get-in-Call.ensures))) marked) c.add_counted.ensures

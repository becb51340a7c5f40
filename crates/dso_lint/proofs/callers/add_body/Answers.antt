use Rattle.std.proofs.Common.{◌≡◌, arith, length, subst}
use Rattle.std.proofs.lemmas.Grind.{common_steps}
use Rattle.std.proofs.lemmas.Result.{on_ok_weaker}
use Rattle.dso_lint.specs.Marked.{IsFresh}
use Rattle.dso_lint.proofs.calling.CallerSteps.{adds_body}
use Rattle.dso_lint.proofs.callers.add_body.Goals as goal

pub returns : goal.returns
returns c block lists =
    let old = c.args.callers.now.items in
    let many : c.len.result ≡ length old = grind (arith, common_steps) in
    let fresh : IsFresh (length old) c.in_ok-marks.marks = subst (λ n. IsFresh n c.in_ok-marks.marks) many c.in_ok-marks.ensures in
    on_ok_weaker c.add_callers.result
    (λ adds. adds_body c.args.number block old c.add_callers.new.callers.items c.in_ok-marks.marks c.add_calls.new.self fresh (c.in_ok-add_calls.ensures block lists) adds) c.add_callers.ensures

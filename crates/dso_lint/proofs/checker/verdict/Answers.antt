use Rattle.std.proofs.lemmas.Result.{IfOk-weaker}
use Rattle.dso_lint.specs.Judged.{choice_by}
use Rattle.dso_lint.proofs.checker.verdict.Goals as goal

pub returns : goal.returns
returns c = IfOk-weaker c.first_failure.result _ _ (λ answer tells. record { choice = choice_by c.args.code.now c.in_ok-bodies.bodies; clean = c.in_ok-bodies.ensures.clean.clean; tells = tells }) c.first_failure.ensures

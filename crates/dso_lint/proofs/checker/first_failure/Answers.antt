use Rattle.std.proofs.Common.{◌≡◌, ◌+◌, arith, length, sym, subst, ap, ◌∙◌}
use Rattle.dso_lint.specs.CleanRows.{place_at}
use Rattle.dso_lint.specs.Judged.{IsJudged, choice_by}
use Rattle.dso_lint.specs.Listed.{AreListed, routines}
use Rattle.dso_lint.proofs.judging.FewBodies.{few_bodies}
use Rattle.dso_lint.proofs.judging.FoundBodies.{as_many}
use Rattle.dso_lint.proofs.judging.Verdicts.{pass_more, tells_no, tells_yes}
use Rattle.dso_lint.proofs.checker.first_failure.Goals as goal

pub failed_rule-requires-clause-there : goal.failed_rule-requires-clause-there
failed_rule-requires-clause-there c = omega (arith, c.loop-number-test.true, ap length c.as_slice-all.ensures.value)

pub place_of-requires : goal.place_of-requires
place_of-requires c =
    let code = c.args.code.now in
    omega (arith, c.loop-number-test.true, ap length c.as_slice-all.ensures.value, as_many code c.args.bodies.now c.requires.bodies, few_bodies code c.requires.code, c.requires.code.few_methods)

pub tables_of-requires : goal.tables_of-requires
tables_of-requires c = omega (arith, ap length c.as_slice-all.ensures.value, c.requires.bodies.methods, as_many c.args.code.now c.args.bodies.now c.requires.bodies)

pub failed_rule-requires-clause-tables : goal.failed_rule-requires-clause-tables
failed_rule-requires-clause-tables c = c.loop-number.invariant.1

pub loop-number-init : goal.loop-number-init
loop-number-init c =
    let code = c.args.code.now in
    let listed : AreListed (routines code) c.as_slice-all.result.now = subst (AreListed (routines code)) (sym c.as_slice-all.ensures.value) c.requires.bodies.listed in
    (λ q low. absurd (omega (arith, low)), c.in_ok-tables.ensures code listed c.requires.bodies.methods)

pub loop-number-preserved : goal.loop-number-preserved
loop-number-preserved c =
    let code = c.args.code.now in
    let choice = choice_by code c.args.bodies.now in
    let p = c.loop-number.number in
    (pass_more code choice p c.loop-number.invariant.0 (subst (IsJudged code choice (place_at (length code.methods) p)) c.in-None.is c.in_ok-failed.ensures.judged) (p + 1) (omega (arith)), c.in_ok-failed.ensures.right)

pub returns-in-Some : goal.returns-in-Some
returns-in-Some c =
    let code = c.args.code.now in
    let choice = choice_by code c.args.bodies.now in
    let p = c.loop-number.number in
    let at : c.place_of.result ≡ place_at (length code.methods) p = c.place_of.ensures ∙ ap (λ n. place_at n p) c.requires.bodies.methods in
    tells_no code choice p c.place_of.result c.in-Some.why at c.loop-number.invariant.0 (subst (IsJudged code choice (place_at (length code.methods) p)) c.in-Some.is c.in_ok-failed.ensures.judged)

pub returns : goal.returns
returns c =
    let code = c.args.code.now in
    tells_yes code (choice_by code c.args.bodies.now) (λ q low. c.loop-number.invariant.0 q (omega (arith, low, c.loop-number-test.false, ap length c.as_slice-all.ensures.value, c.requires.bodies.listed.number)))

use Rattle.std.proofs.Common.{rules, arith, ◌≡◌, ◌+◌, ◌<◌, Err, map, take, drop, refl, sym, ap, ◌∙◌}
use Rattle.std.proofs.lemmas.List.{take_all}
use Rattle.dso_class.specs.FaultsAmong.{behind}
use Rattle.dso_class.proofs.walks.Bodies.{param, param_more, params_part, judged_counted}
use Rattle.dso_class.proofs.walks.BodyParts.{within_fails, both_made, one_made}
use Rattle.dso_class.proofs.body.judged.Goals as goal

pub returns-in_err-parameter-clause-walked : goal.returns-in_err-parameter-clause-walked
returns-in_err-parameter-clause-walked c texts source before place fresh has =
    let params = c.args.params.now in
    let i = c.loop-count.count in
    let name = c.index-params-count.result in
    let told : c.from_residual.result ≡ Err c.in_err-parameter.field-0.0 = search (rules, c.from_residual.ensures) in
    let first = c.loop-count.invariant.0 texts source before place fresh has in
    let near = behind before (map param (take i params)) in
    let failing = c.in_err-parameter.ensures.walked texts source near place first.answer.met (judged_counted params i before fresh c.loop-count-test.true) in
    within_fails (map param (drop (i + 1) params)) c.in_err-parameter.field-0.0 (params_part params (i + 1)) (param_more params i name c.loop-count-test.true c.index-params-count.is) told first failing

pub loop-count-preserved : goal.loop-count-preserved
loop-count-preserved c =
    let params = c.args.params.now in
    let i = c.loop-count.count in
    let name = c.index-params-count.result in
    let few : i < 8 = c.in_ok-parameter.ensures.few in (
      λ texts source before place fresh has.
          let first = c.loop-count.invariant.0 texts source before place fresh has in
          let near = behind before (map param (take i params)) in
          let second = c.in_ok-parameter.ensures.walked texts source near place first.answer.met (judged_counted params i before fresh c.loop-count-test.true) in
          both_made (tt {0}) (param_more params i name c.loop-count-test.true c.index-params-count.is) refl (λ n one two. tt) first second,
      c.in_ok-parameter.ensures.known ∙ c.loop-count.invariant.1,
      omega (arith, few),
    )

pub returns-clause-walked : goal.returns-clause-walked
returns-clause-walked c texts source before place fresh has =
    let whole = take_all c.loop-count.count c.args.params.now c.loop-count-test.false in
    one_made (tt {0}) (ap (map param) (sym whole)) refl (λ n one. tt) (c.loop-count.invariant.0 texts source before place fresh has)

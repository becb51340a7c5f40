use Rattle.std.proofs.Common.{◌≡◌, ◌+◌, ◌-◌, suc, arith, sym, ap, ◌∙◌}
use Rattle.dso_lint.specs.declared.answer.Place.TheVariants as place
use Rattle.dso_lint.proofs.judging.Verdicts.{place_below, place_past}
use Rattle.dso_lint.proofs.checker.place_of.Goals as goal

pub returns-then-number-methods : goal.returns-then-number-methods
returns-then-number-methods c =
    let p = c.args.number in
    let same : p + 1 ≡ suc p = omega (arith) in
    ap place.Method same ∙ sym (place_below c.args.methods p c.if-number-methods.true)

pub returns : goal.returns
returns c =
    let p = c.args.number in
    let methods = c.args.methods in
    let same : p - methods + 1 ≡ suc (p - methods) = omega (arith) in
    ap place.Thread same ∙ sym (place_past methods p c.if-number-methods.false)

use Rattle.std.proofs.Common.{inl, refl, sym, subst, ◌∙◌}
use Rattle.dso_lint.specs.Lists.{Lists}
use Rattle.dso_lint.specs.Trees.{Uses}
use Rattle.dso_lint.specs.Upgrades.{HasWriteSite}
use Rattle.dso_lint.proofs.upgrading.Writers.{may_monitors, monitors_may}
use Rattle.dso_lint.proofs.upgrades.may_write.Goals as goal

pub returns-then-block : goal.returns-then-block
returns-then-block c code routine are is = (λ q. inl (is.writes.0 c.if-block.true), λ may. refl)

pub returns : goal.returns
returns c code routine are is =
    let block = routine.statements in
    let marked = c.args.monitors.now in
    let lists : Lists (Uses block) c.as_slice.result.now = subst (Lists (Uses block)) (sym c.as_slice.ensures.value) is.expressions in
    let never : HasWriteSite block → ⊥ = λ site. cc (sym (is.writes.1 site) ∙ c.if-block.false) in
    let calls = c.calls_marked.ensures block lists in
    (λ q. monitors_may code block marked are (calls.0 q), λ may. calls.1 (may_monitors code block marked are never may))

use Rattle.std.proofs.Common.{◌≡◌, inl, inr, refl, true, sym, subst, ◌∙◌}
use Rattle.dso_lint.specs.Lists.{Lists}
use Rattle.dso_lint.specs.Trees.{StandsIn}
use Rattle.dso_lint.specs.Upgrading.{UpgradesSite}
use Rattle.dso_lint.proofs.upgrades.upgrades_site.Goals as goal

pub returns-then-at_site : goal.returns-then-at_site
returns-then-at_site c code routine are is =
    let lists : Lists (λ a. StandsIn a routine.statements) c.as_slice.result.now = subst (Lists (λ a. StandsIn a routine.statements)) (sym c.as_slice.ensures.value) is.statements in
    (λ q. inl ((c.in_ok-at_site.ensures code routine.statements are lists).0 c.if-at_site.true), λ up. refl)

pub returns : goal.returns
returns c code routine are is = (λ q. inr ((c.upgrades_whole.ensures code routine are is).0 q), by)
  where
    lists : Lists (λ a. StandsIn a routine.statements) c.as_slice.result.now
    lists = subst (Lists (λ a. StandsIn a routine.statements)) (sym c.as_slice.ensures.value) is.statements

    by : UpgradesSite code routine → c.upgrades_whole.result ≡ true
    by (inl up) = absurd (cc (sym ((c.in_ok-at_site.ensures code routine.statements are lists).1 up) ∙ c.if-at_site.false))
    by (inr up) = (c.upgrades_whole.ensures code routine are is).1 up

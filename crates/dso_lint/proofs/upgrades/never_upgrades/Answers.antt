use Rattle.std.proofs.Common.{◌≡◌, refl, Bool, true, false, not, sym, subst, ◌∙◌}
use Rattle.dso_lint.specs.Tables.{AreMonitors}
use Rattle.dso_lint.specs.Upgrading.{UpgradesSite}
use Rattle.dso_lint.proofs.upgrading.Sites.{never_of, never_site, never_name}
use Rattle.dso_lint.proofs.upgrades.never_upgrades.Goals as goal

-- what isn't true is false, and the other way round
is_not : (b : Bool) → (b ≡ true → ⊥) → not b ≡ true
is_not true wrong = absurd (wrong refl)
is_not false wrong = refl

never_is : (b : Bool) → not b ≡ true → b ≡ true → ⊥
never_is true is so = cc is
never_is false is so = cc so

pub returns-then-site-clause-is : goal.returns-then-site-clause-is
returns-then-site-clause-is c code routine listed same are is =
    let monitors : AreMonitors code c.as_slice.result.now = subst (AreMonitors code) (sym c.as_slice.ensures.value) are.monitors in
    let up = (c.in_ok-site.ensures code routine monitors is).0 c.if-site.true in
    (λ q. absurd (cc q), λ rule. absurd (never_site code routine rule up))

pub returns-clause-is : goal.returns-clause-is
returns-clause-is c code routine listed same are is =
    let monitors : AreMonitors code c.as_slice.result.now = subst (AreMonitors code) (sym c.as_slice.ensures.value) are.monitors in
    let site : UpgradesSite code routine → ⊥ = λ up. cc (sym ((c.in_ok-site.ensures code routine monitors is).1 up) ∙ c.if-site.false) in
    let name = c.in_ok-name.ensures.is code routine listed same are is in (
      λ q. never_of code routine site (λ up. never_is c.in_ok-name.name q (name.1 up)),
      λ rule. is_not c.in_ok-name.name (λ so. never_name code routine rule (name.0 so)),
    )

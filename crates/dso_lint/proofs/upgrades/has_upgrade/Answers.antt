use Rattle.std.proofs.Common.{◌≡◌, ◌⊎◌, inl, inr, refl, arith, get_or, sym, subst, ap, ◌∙◌}
use Rattle.std.specs.Borrow.{Bor}
use Rattle.std.proofs.lemmas.Bool.{cases_eq}
use Rattle.std.proofs.lemmas.List.{get_or_default}
use Rattle.dso_machine.specs.declared.tree.Stmt.{Stmt}
use Rattle.dso_lint.specs.Trees.{StandsIn}
use Rattle.dso_lint.specs.Upgrading.{UpgradesAt}
use Rattle.dso_lint.proofs.upgrades.has_upgrade.Goals as goal

pub returns-then-upgrades : goal.returns-then-upgrades
returns-then-upgrades c code block are lists =
    let a = c.a-item.result in
    let up = (c.in_ok-upgrades.ensures code are).0 c.if-upgrades.true in
    let stands : StandsIn a.now block = subst (λ (b : Bor Stmt). StandsIn b.now block) (sym c.a-item.is) (lists.only c.loop-a.a-index a c.loop-a-test.true) in
    (λ q. (a.now, stands, up), λ has. refl)

pub loop-a-preserved : goal.loop-a-preserved
loop-a-preserved c code are k d low up = by (cases_eq k c.loop-a.a-index)
  where
    by : (k ≡ c.loop-a.a-index) ⊎ (k ≡ c.loop-a.a-index → ⊥) → ⊥
    by (inl here) =
        let statements = c.args.statements.now in
        let at : get_or statements k d ≡ c.a-item.result = ap (λ n. get_or statements n d) here ∙ get_or_default statements c.loop-a.a-index d c.a-item.result c.loop-a-test.true ∙ sym c.a-item.is in
        let mine : UpgradesAt code c.a-item.result.now = subst (λ (b : Bor Stmt). UpgradesAt code b.now) at up in
        cc (sym ((c.in_ok-upgrades.ensures code are).1 mine) ∙ c.if-upgrades.false)
    by (inr other) = c.loop-a.invariant code are k d (omega (arith, low, other)) up

pub returns : goal.returns
returns c code block are lists = (
  λ q. absurd (cc q),
  λ has.
      let at = lists.all has.0 has.1 in
      let mine : UpgradesAt code (get_or c.args.statements.now at.1.0 at.0).now = subst (UpgradesAt code) (sym (ap (λ (b : Bor Stmt). b.now) at.1.2 ∙ at.2)) has.2 in
      absurd (c.loop-a.invariant code are at.1.0 at.0 (omega (arith, at.1.1, c.loop-a-test.false)) mine),
)

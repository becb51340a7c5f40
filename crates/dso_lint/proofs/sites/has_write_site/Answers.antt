use Rattle.std.proofs.Common.{refl, arith, sym, subst, ap, ◌∙◌}
use Rattle.std.specs.Borrow.{Bor}
use Rattle.dso_machine.specs.declared.tree.Stmt.{Stmt}
use Rattle.dso_machine.specs.declared.tree.Stmt.TheVariants as s
use Rattle.dso_lint.specs.Trees.{StandsIn}
use Rattle.dso_lint.specs.Upgrading.{IsWriteSite}
use Rattle.dso_lint.proofs.sites.has_write_site.Goals as goal

pub returns-then-is_write_site : goal.returns-then-is_write_site
returns-then-is_write_site c block lists =
    let a = c.a-item.result in
    let site : IsWriteSite a.now = c.is_write_site.ensures.0 c.if-is_write_site.true in
    let stands : StandsIn a.now block = subst (λ (b : Bor Stmt). StandsIn b.now block) (sym c.a-item.is) (lists.only c.loop-a.a-index a c.loop-a-test.true) in (
      λ q. record { lock = site.lock; grade = site.grade; all = site.all; stands = subst (λ (b : Stmt). StandsIn b block) site.is stands; allows = site.allows },
      λ has. refl,
    )

pub returns : goal.returns
returns c block lists = (
  λ q. absurd (cc q),
  λ has.
      let at = lists.all (s.Sync has.lock has.grade has.all) has.stands in
      absurd (c.loop-a.invariant at.1.0 at.0 (omega (arith, at.1.1, c.loop-a-test.false)) (record {
        lock = has.lock;
        grade = has.grade;
        all = has.all;
        is = ap (λ (b : Bor Stmt). b.now) at.1.2 ∙ at.2;
        allows = has.allows;
      })),
)

use Rattle.std.proofs.Common.{List, sym, subst, ◌∙◌}
use Rattle.dso_machine.specs.declared.tree.Stmt.{Stmt}
use Rattle.dso_lint.specs.Listed.{IsListed, routine_of_block}
use Rattle.dso_lint.proofs.upgrading.Sites.{site_upgrades, upgrades_site}
use Rattle.dso_lint.proofs.upgrades.upgrades_at.Goals as goal

pub returns-then-writes : goal.returns-then-writes
returns-then-writes c code are = (
  λ q. absurd (cc q),
  λ up. absurd (cc (sym (upgrades_site code c.args.a.now c.in-Sync.field-0 c.in-Sync.grade c.in-Sync.all c.in-Sync.is up).0 ∙ sym c.writes.ensures ∙ c.if-writes.true)),
)

pub returns-in_ok-block-in-Sync : goal.returns-in_ok-block-in-Sync
returns-in_ok-block-in-Sync c code are =
    let a = c.args.a.now in
    let all = c.in-Sync.all in
    let block = c.in_ok-block-in-Sync.block in
    let is : IsListed block (routine_of_block all) = subst (λ (statements : List Stmt). IsListed block (routine_of_block statements)) (c.as_slice.ensures ∙ c.get.ensures) c.in_ok-block-in-Sync.ensures in
    let so = c.may_write.ensures code (routine_of_block all) are is in (
      λ q. site_upgrades code a c.in-Sync.field-0 c.in-Sync.grade all c.in-Sync.is (sym c.writes.ensures ∙ c.if-writes.false) (so.0 q),
      λ up. so.1 (upgrades_site code a c.in-Sync.field-0 c.in-Sync.grade all c.in-Sync.is up).1,
    )

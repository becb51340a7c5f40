use Rattle.std.proofs.Common.{subst}
use Rattle.std.specs.Borrow.{Bor}
use Rattle.dso_machine.specs.declared.tree.Stmt.{Stmt}
use Rattle.dso_lint.specs.Narrowing.{NarrowsAt}
use Rattle.dso_lint.proofs.cleanness.RowSteps.{narrows_whole, passed_took, passed_left}
use Rattle.dso_lint.proofs.narrow.narrow.Goals as goal
use Rattle.dso_lint.proofs.narrow.narrow.Goals.{then-narrow_at, else-narrow_at}

pub loop-a-preserved : goal.loop-a-preserved
loop-a-preserved c =
    let statements = c.args.statements.now in
    let at = subst (λ (b : Bor Stmt). NarrowsAt b.now c.loop-a.row c.narrow_at.new.row c.narrow_at.result) c.a-item.is c.narrow_at.ensures.right in
    elim c.if-narrow_at.branch [
      | then-narrow_at w ↦ passed_took statements c.loop-a.a-index c.a-item.result c.loop-a-test.true c.args.row.now c.loop-a.row c.narrow_at.new.row c.loop-a.changed c.narrow_at.result c.if-narrow_at.changed
          w.if-narrow_at.true w.changed-is c.loop-a.invariant c.narrow_at.ensures.shrinks at
      | else-narrow_at w ↦ passed_left statements c.loop-a.a-index c.a-item.result c.loop-a-test.true c.args.row.now c.loop-a.row c.narrow_at.new.row c.loop-a.changed c.narrow_at.result c.if-narrow_at.changed
          w.if-narrow_at.false w.changed-is c.loop-a.invariant c.narrow_at.ensures.shrinks at
    ]

pub returns-clause-right : goal.returns-clause-right
returns-clause-right c block lists covers =
    narrows_whole block c.args.statements.now c.args.row.now c.loop-a.row c.loop-a.changed c.loop-a.a-index c.loop-a-test.false lists covers (c.loop-a.invariant.1 block lists)

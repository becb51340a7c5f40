use Rattle.std.proofs.Common.{refl, subst}
use Rattle.std.specs.Borrow.{Bor}
use Rattle.dso_machine.specs.declared.tree.Stmt.{Stmt}
use Rattle.dso_lint.specs.CleanRows.{HasRoomFor}
use Rattle.dso_lint.proofs.cleanness.FirstRows.{first_more, first_whole}
use Rattle.dso_lint.proofs.rows.first_row.Goals as goal

pub loop-a-preserved : goal.loop-a-preserved
loop-a-preserved c =
    let has = subst (λ (b : Bor Stmt). HasRoomFor b.now c.loop-a.variables.items c.cover_assigned.new.variables.items) c.a-item.is c.in_ok-cover_assigned.ensures in
    first_more c.as_slice-statements.result.now c.args.body.now.params c.loop-a.a-index c.a-item.result c.loop-a-test.true c.loop-a.variables.items c.loop-a.invariant c.cover_assigned.new.variables.items has.longer has.same has.room

pub returns : goal.returns
returns c routine is =
    first_whole c.args.body.now routine c.as_slice-statements.result.now c.loop-a.a-index _ c.args.this is c.as_slice-statements.ensures.value c.loop-a-test.false refl c.loop-a.invariant

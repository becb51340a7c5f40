use Rattle.std.proofs.Common.{sym, subst}
use Rattle.dso_machine.specs.declared.tree.Expr.{Expr}
use Rattle.dso_lint.specs.Rows.{chosen_by}
use Rattle.dso_lint.specs.Scenes.{IsLockedIn}
use Rattle.dso_lint.proofs.guarding.Holding.{held_locked, locked_held}
use Rattle.dso_lint.proofs.access.is_locked.Goals as goal

pub returns-in-Some : goal.returns-in-Some
returns-in-Some c sites scene =
    let shape = c.args.scene.now.shape.now in
    let chosen = chosen_by c.args.scene.now.row.now in
    let holds = c.args.scene.now.holds.now in
    let v = c.in-Some.variable in
    let write = c.args.write in (
      λ t. subst (λ (e : Expr). IsLockedIn c.args.scene.now sites e write) (sym c.in-Some.ensures) (held_locked shape chosen holds sites v write scene (c.is_held.ensures.0 t)),
      λ locked. c.is_held.ensures.1 (locked_held shape chosen holds sites v write scene (subst (λ (e : Expr). IsLockedIn c.args.scene.now sites e write) c.in-Some.ensures locked)),
    )

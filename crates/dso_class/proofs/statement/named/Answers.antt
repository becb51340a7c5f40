use Rattle.std.proofs.Common.{refl, subst}
use Rattle.dso_machine.specs.declared.tree.Stmt.TheVariants as t
use Rattle.dso_class.specs.StatementWalk.{to_root, to_field}
use Rattle.dso_class.specs.BodyWalk.{HeadMeans}
use Rattle.dso_class.proofs.walks.BodyParts.{none_made, only_tail}
use Rattle.dso_class.proofs.statement.named.Goals as goal

pub returns-in-Root : goal.returns-in-Root
returns-in-Root c texts scope source before place has =
    none_made (t.PutRoot c.in-Root.number c.args.value) refl refl (λ n owner given. to_root (subst (λ head. HeadMeans owner c.args.name.now n head) c.in-Root.is given)) has

pub returns-in_ok-object-in-Variable : goal.returns-in_ok-object-in-Variable
returns-in_ok-object-in-Variable c texts scope source before place has =
    only_tail c.field.result refl (λ n given puts owner head. to_field (subst (λ head. HeadMeans owner c.args.name.now n head) c.in-Variable.is head) puts)
    ((rw c.in_ok-object-in-Variable.ensures.ok at c.field.ensures) texts scope source before place has)

use Rattle.std.proofs.Common.{refl, ◌∷◌, sym, subst}
use Rattle.dso_syntax.specs.declared.tree.ExprForm.TheVariants as e
use Rattle.dso_syntax.specs.Grammar as grammar
use Rattle.dso_class.specs.Mentions.{on, dotted}
use Rattle.dso_class.specs.Numbers.{IsNumber, IsFieldRef, MeansExpr, root, field, variable}
use Rattle.dso_class.specs.BodyWalk.{known_in, HeadMeans}
use Rattle.dso_class.proofs.walks.BodyParts.{one_made, second_tail}
use Rattle.dso_class.proofs.expression.of_name.Goals as goal

pub returns-in-Root : goal.returns-in-Root
returns-in-Root c texts source before is has =
    let owner = c.args.owner.now in
    one_made _ refl refl
    (λ n given at word same. root c.args.line
    (subst (λ name. IsNumber n.roots (record { class = owner; field = name }) c.in-Root.number) (sym same) (subst (λ head. HeadMeans owner c.args.name.now n head) c.in-Root.is given)))
    (c.in_ok-number.ensures texts source before is has)

pub returns-in-Variable : goal.returns-in-Variable
returns-in-Variable c texts source before is has =
    let owner = c.args.owner.now in
    let first = c.in_ok-number.ensures texts source before is has in
    second_tail c.field.result refl
    (λ n given head of_object at word same.
    subst (λ whole. MeansExpr n (grammar.expression at (e.Field (grammar.expression c.args.line (e.Name owner)) word)) whole) (sym of_object.is)
    (field (variable (subst (λ head. HeadMeans owner c.args.name.now n head) c.in-Variable.is head)) (subst (λ name. IsFieldRef n.fields name of_object.field) (sym same) of_object.place)))
    first (c.field.ensures texts c.args.environment.scope.now source (on c.args.line (dotted (known_in c.args.environment.scope.now) owner c.args.name.now) ∷ before) is first.answer.met)

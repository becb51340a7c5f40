use Rattle.std.proofs.Common.{◌≡◌, ◌++◌, None, sym, subst, ap, ◌∙◌, append_assoc}
use Rattle.dso_syntax.specs.declared.tree.ExprTree.{out-ExprTree}
use Rattle.dso_syntax.specs.declared.tree.ExprForm.TheVariants as e
use Rattle.dso_syntax.specs.declared.tree.StmtForm.TheVariants as s
use Rattle.dso_syntax.specs.ProgramGrammar as program
use Rattle.dso_class.specs.declared.uses.Role.TheVariants as role
use Rattle.dso_class.specs.Mentions as mention
use Rattle.dso_class.specs.Numbers.{MeansStmt}
use Rattle.dso_class.specs.BodyWalk.{owner_in, known_in}
use Rattle.dso_class.proofs.mentions.OfExpressions.{tree_is, at_elem, object_field}
use Rattle.dso_class.proofs.walks.BodyParts.{only_tail}
use Rattle.dso_class.proofs.statement.assigned.Goals as goal

pub returns-in-None : goal.returns-in-None
returns-in-None c source before place has =
    let owner = owner_in c.args.environment.place.now in
    let known = known_in c.args.environment.scope.now in
    let target = c.args.target.now in
    let value = (mention.expression owner c.args.value.now).mentions known in
    let a = c.get-in-None.result.now in
    let form : (out-ExprTree target).form ≡ e.Field a c.in-Field.name = c.in-Field.is ∙ ap (λ on. e.Field on c.in-Field.name) (sym c.get-in-None.ensures) in
    let other : (mention.expression owner a).bare ≡ None = subst (λ on. (mention.expression owner on).bare ≡ None) (c.get.ensures ∙ sym c.get-in-None.ensures) (c.in-None.ensures.other owner) in
    only_tail c.to_field.result (ap (λ front. front ++ value) (object_field role.Value owner target a c.in-Field.name known form other))
    (λ n given means at. subst (λ same. MeansStmt n (program.statement at (s.Assign same c.args.value.now)) given) (sym (tree_is target (e.Field a c.in-Field.name) form)) (means at (out-ExprTree target).line))
    (c.to_field.ensures source before place has)

pub returns-in-Elem : goal.returns-in-Elem
returns-in-Elem c source before place has =
    let owner = owner_in c.args.environment.place.now in
    let known = known_in c.args.environment.scope.now in
    let target = c.args.target.now in
    let value = (mention.expression owner c.args.value.now).mentions known in
    let a = c.get-in-Elem.result.now in
    let b = c.get-in-Elem-2.result.now in
    let form : (out-ExprTree target).form ≡ e.Elem a b = c.in-Elem.is ∙ ap (λ one. e.Elem one c.in-Elem.at) (sym c.get-in-Elem.ensures) ∙ ap (e.Elem a) (sym c.get-in-Elem-2.ensures) in
    let is = ap (λ part. part.mentions known ++ value) (at_elem owner target a b form) ∙ append_assoc ((mention.expression owner a).mentions known) ((mention.expression owner b).mentions known) value in
    only_tail c.to_element.result is
    (λ n given means at. subst (λ same. MeansStmt n (program.statement at (s.Assign same c.args.value.now)) given) (sym (tree_is target (e.Elem a b) form)) (means at (out-ExprTree target).line))
    (c.to_element.ensures source before place has)

use Rattle.std.proofs.Common.{None, Some, refl, sym, subst, ap}
use Rattle.dso_machine.specs.declared.tree.Stmt.TheVariants as t
use Rattle.dso_syntax.specs.declared.tree.StmtForm.TheVariants as s
use Rattle.dso_syntax.specs.ProgramGrammar as program
use Rattle.dso_class.specs.Mentions as mention
use Rattle.dso_class.specs.Numbers.{MeansStmt, leave, answer}
use Rattle.dso_class.specs.BodyWalk.{owner_in, known_in}
use Rattle.dso_class.proofs.walks.BodyParts.{none_made, one_made}
use Rattle.dso_class.proofs.statement.returned.Goals as goal

pub returns-in-None : goal.returns-in-None
returns-in-None c source before place has =
    let owner = owner_in c.args.environment.place.now in
    let known = known_in c.args.environment.scope.now in
    none_made (t.Return None) (ap (λ value. mention.answer owner value known) c.in-None.is) refl
    (λ n line. subst (λ value. MeansStmt n (program.statement line (s.Return value)) (t.Return None)) (sym c.in-None.is) leave) has

pub returns-in_ok-value-in-Some : goal.returns-in_ok-value-in-Some
returns-in_ok-value-in-Some c source before place has =
    let owner = owner_in c.args.environment.place.now in
    let known = known_in c.args.environment.scope.now in
    let value = t.Return (Some c.in_ok-value-in-Some.value) in
    one_made value (ap (λ value. mention.answer owner value known) c.in-Some.is) refl
    (λ n one line. subst (λ given. MeansStmt n (program.statement line (s.Return given)) value) (sym c.in-Some.is) (answer one)) (c.in_ok-value-in-Some.ensures source before place has)

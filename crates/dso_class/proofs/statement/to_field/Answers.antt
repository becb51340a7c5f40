use Rattle.std.proofs.Common.{rules, ◌≡◌, Err, refl, sym, subst}
use Rattle.dso_syntax.specs.declared.tree.ExprForm.TheVariants as e
use Rattle.dso_syntax.specs.declared.tree.StmtForm.TheVariants as s
use Rattle.dso_syntax.specs.Grammar as grammar
use Rattle.dso_syntax.specs.ProgramGrammar as program
use Rattle.dso_class.specs.FaultsAmong.{behind}
use Rattle.dso_class.specs.Mentions as mention
use Rattle.dso_class.specs.Numbers.{MeansStmt, put_field}
use Rattle.dso_class.specs.BodyWalk.{owner_in, known_in}
use Rattle.dso_class.proofs.walks.BodyParts.{second_fails, third_tail}
use Rattle.dso_class.proofs.statement.to_field.Goals as goal

pub returns-in_err-value : goal.returns-in_err-value
returns-in_err-value c source before place has =
    let owner = owner_in c.args.environment.place.now in
    let known = known_in c.args.environment.scope.now in
    let object = mention.expression owner c.args.object.now in
    let value = mention.expression owner c.args.value.now in
    let first = c.in_ok-object.ensures source before place has in
    let near = behind before (object.mentions known) in
    let told : c.from_residual-in_err-value.result ≡ Err c.in_err-value.field-0.0 = search (rules, c.from_residual-in_err-value.ensures) in
    second_fails c.in_err-value.field-0.0 refl told first (c.in_err-value.ensures source near place first.answer.met)

pub returns : goal.returns
returns c source before place has =
    let owner = owner_in c.args.environment.place.now in
    let known = known_in c.args.environment.scope.now in
    let object = mention.expression owner c.args.object.now in
    let value = mention.expression owner c.args.value.now in
    let first = c.in_ok-object.ensures source before place has in
    let near = behind before (object.mentions known) in
    let second = c.in_ok-value.ensures source near place first.answer.met in
    let third = c.field.ensures c.value_of-2.new.texts c.args.environment.scope.now source (behind near (value.mentions known)) place second.answer.met in
    third_tail c.field.result refl
    (λ n given one two puts at from.
    subst (λ same. MeansStmt n (program.statement at (s.Assign (grammar.expression from (e.Field c.args.object.now c.args.name.now)) c.args.value.now)) same) (sym puts.is) (put_field from one puts.place two))
    first second third

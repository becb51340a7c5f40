use Rattle.std.proofs.Common.{rules, ◌≡◌, Err, refl}
use Rattle.dso_machine.specs.declared.tree.Stmt.TheVariants as t
use Rattle.dso_class.specs.FaultsAmong.{behind}
use Rattle.dso_class.specs.Mentions as mention
use Rattle.dso_class.specs.Numbers.{put_element}
use Rattle.dso_class.specs.BodyWalk.{owner_in, known_in}
use Rattle.dso_class.proofs.walks.BodyParts.{second_of_three, third_of_three, three_made}
use Rattle.dso_class.proofs.statement.to_element.Goals as goal

pub returns-in_err-index : goal.returns-in_err-index
returns-in_err-index c source before place has =
    let owner = owner_in c.args.environment.place.now in
    let known = known_in c.args.environment.scope.now in
    let array = mention.expression owner c.args.array.now in
    let index = mention.expression owner c.args.index.now in
    let value = mention.expression owner c.args.value.now in
    let first = c.in_ok-array.ensures source before place has in
    let near = behind before (array.mentions known) in
    let told : c.from_residual-in_err-index.result ≡ Err c.in_err-index.field-0.0 = search (rules, c.from_residual-in_err-index.ensures) in
    second_of_three (value.mentions known) c.in_err-index.field-0.0 refl told first (c.in_err-index.ensures source near place first.answer.met)

pub returns-in_err-value : goal.returns-in_err-value
returns-in_err-value c source before place has =
    let owner = owner_in c.args.environment.place.now in
    let known = known_in c.args.environment.scope.now in
    let array = mention.expression owner c.args.array.now in
    let index = mention.expression owner c.args.index.now in
    let value = mention.expression owner c.args.value.now in
    let first = c.in_ok-array.ensures source before place has in
    let near = behind before (array.mentions known) in
    let told : c.from_residual-in_err-value.result ≡ Err c.in_err-value.field-0.0 = search (rules, c.from_residual-in_err-value.ensures) in
    let second = c.in_ok-index.ensures source near place first.answer.met in
    let late = behind near (index.mentions known) in
    third_of_three c.in_err-value.field-0.0 refl told first second (c.in_err-value.ensures source late place second.answer.met)

pub returns : goal.returns
returns c source before place has =
    let owner = owner_in c.args.environment.place.now in
    let known = known_in c.args.environment.scope.now in
    let array = mention.expression owner c.args.array.now in
    let index = mention.expression owner c.args.index.now in
    let value = mention.expression owner c.args.value.now in
    let first = c.in_ok-array.ensures source before place has in
    let near = behind before (array.mentions known) in
    let second = c.in_ok-index.ensures source near place first.answer.met in
    let late = behind near (index.mentions known) in
    three_made (t.PutElem c.in_ok-array.array c.in_ok-index.index c.in_ok-value.value) refl refl (λ n one two three at from. put_element from one two three) first second
    (c.in_ok-value.ensures source late place second.answer.met)

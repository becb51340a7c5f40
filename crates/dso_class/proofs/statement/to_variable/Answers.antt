use Rattle.std.proofs.Common.{rules, ◌≡◌, ◌∷◌, Err, refl}
use Rattle.dso_machine.specs.declared.tree.Stmt.TheVariants as t
use Rattle.dso_class.specs.Mentions as mention
use Rattle.dso_class.specs.Numbers.{assign}
use Rattle.dso_class.specs.BodyWalk.{owner_in, known_in}
use Rattle.dso_class.proofs.walks.BodyParts.{first_fails, second_fails, both_made}
use Rattle.dso_class.proofs.statement.to_variable.Goals as goal

pub returns-in_err-number : goal.returns-in_err-number
returns-in_err-number c source before place has =
    let owner = owner_in c.args.environment.place.now in
    let known = known_in c.args.environment.scope.now in
    let value = mention.expression owner c.args.value.now in
    let here = mention.on c.args.line (mention.alone known c.args.name.now) in
    let told : c.from_residual.result ≡ Err c.in_err-number.field-0.0 = search (rules, c.from_residual.ensures) in
    first_fails (value.mentions known) c.in_err-number.field-0.0 refl told (c.in_err-number.ensures c.args.environment.place.now c.args.texts.now source before place has)

pub returns-in_err-value : goal.returns-in_err-value
returns-in_err-value c source before place has =
    let owner = owner_in c.args.environment.place.now in
    let known = known_in c.args.environment.scope.now in
    let value = mention.expression owner c.args.value.now in
    let here = mention.on c.args.line (mention.alone known c.args.name.now) in
    let told : c.from_residual-in_err-value.result ≡ Err c.in_err-value.field-0.0 = search (rules, c.from_residual-in_err-value.ensures) in
    let first = c.in_ok-number.ensures c.args.environment.place.now c.args.texts.now source before place has in
    second_fails c.in_err-value.field-0.0 refl told first (c.in_err-value.ensures source (here ∷ before) place first.answer.met)

pub returns : goal.returns
returns c source before place has =
    let owner = owner_in c.args.environment.place.now in
    let known = known_in c.args.environment.scope.now in
    let value = mention.expression owner c.args.value.now in
    let here = mention.on c.args.line (mention.alone known c.args.name.now) in
    let first = c.in_ok-number.ensures c.args.environment.place.now c.args.texts.now source before place has in
    both_made (t.Assign c.in_ok-number.number c.in_ok-value.value) refl refl (λ n one two at. assign c.args.line one two) first (c.in_ok-value.ensures source (here ∷ before) place first.answer.met)

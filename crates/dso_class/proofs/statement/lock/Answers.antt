use Rattle.std.proofs.Common.{rules, ◌≡◌, ◌∷◌, Err, refl}
use Rattle.dso_class.specs.Mentions as mention
use Rattle.dso_class.specs.BodyWalk.{owner_in, known_in}
use Rattle.dso_class.proofs.walks.BodyParts.{first_fails, second_fails, both_made}
use Rattle.dso_class.proofs.statement.lock.Goals as goal

pub returns-in_err-grade : goal.returns-in_err-grade
returns-in_err-grade c source before place has =
    let owner = owner_in c.args.environment.place.now in
    let known = known_in c.args.environment.scope.now in
    let object = mention.expression owner c.args.on.now in
    let here = mention.on c.args.line (mention.synchronized owner.class owner.method) in
    let told : c.from_residual.result ≡ Err c.in_err-grade.field-0.0 = search (rules, c.from_residual.ensures) in
    first_fails (object.mentions known) c.in_err-grade.field-0.0 refl told (c.in_err-grade.ensures c.args.texts.now c.args.environment.scope.now source before place has)

pub returns-in_err-object : goal.returns-in_err-object
returns-in_err-object c source before place has =
    let owner = owner_in c.args.environment.place.now in
    let known = known_in c.args.environment.scope.now in
    let object = mention.expression owner c.args.on.now in
    let here = mention.on c.args.line (mention.synchronized owner.class owner.method) in
    let told : c.from_residual-in_err-object.result ≡ Err c.in_err-object.field-0.0 = search (rules, c.from_residual-in_err-object.ensures) in
    let first = c.in_ok-grade.ensures c.args.texts.now c.args.environment.scope.now source before place has in
    second_fails c.in_err-object.field-0.0 refl told first (c.in_err-object.ensures source (here ∷ before) place first.answer.met)

pub returns : goal.returns
returns c source before place has =
    let owner = owner_in c.args.environment.place.now in
    let known = known_in c.args.environment.scope.now in
    let object = mention.expression owner c.args.on.now in
    let here = mention.on c.args.line (mention.synchronized owner.class owner.method) in
    let first = c.in_ok-grade.ensures c.args.texts.now c.args.environment.scope.now source before place has in
    both_made (c.in_ok-grade.grade, c.in_ok-object.object) refl refl (λ n one two. (one, two)) first (c.in_ok-object.ensures source (here ∷ before) place first.answer.met)

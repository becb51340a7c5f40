use Rattle.std.proofs.Common.{rules, ◌≡◌, ◌∷◌, Err, refl}
use Rattle.dso_class.specs.FaultsAmong.{behind}
use Rattle.dso_class.specs.Mentions as mention
use Rattle.dso_class.specs.BodyWalk.{owner_in, known_in}
use Rattle.dso_class.proofs.mentions.OfStatements.{named_means}
use Rattle.dso_class.proofs.walks.BodyParts.{first_fails, second_fails, third_tail}
use Rattle.dso_class.proofs.statement.to_named.Goals as goal

pub returns-in_err-head : goal.returns-in_err-head
returns-in_err-head c source before place has =
    let owner = owner_in c.args.environment.place.now in
    let known = known_in c.args.environment.scope.now in
    let value = mention.expression owner c.args.value.now in
    let here = mention.on c.args.owner.line (mention.dotted known c.args.owner.word.now c.args.name.now.name) in
    let told : c.from_residual.result ≡ Err c.in_err-head.field-0.0 = search (rules, c.from_residual.ensures) in
    first_fails (value.mentions known) c.in_err-head.field-0.0 refl told (c.in_err-head.ensures c.args.texts.now source before place has)

pub returns-in_err-value : goal.returns-in_err-value
returns-in_err-value c source before place has =
    let owner = owner_in c.args.environment.place.now in
    let known = known_in c.args.environment.scope.now in
    let value = mention.expression owner c.args.value.now in
    let here = mention.on c.args.owner.line (mention.dotted known c.args.owner.word.now c.args.name.now.name) in
    let told : c.from_residual-in_err-value.result ≡ Err c.in_err-value.field-0.0 = search (rules, c.from_residual-in_err-value.ensures) in
    let first = c.in_ok-head.ensures c.args.texts.now source before place has in
    second_fails c.in_err-value.field-0.0 refl told first (c.in_err-value.ensures source (here ∷ before) place first.answer.met)

pub returns : goal.returns
returns c source before place has =
    let owner = owner_in c.args.environment.place.now in
    let known = known_in c.args.environment.scope.now in
    let value = mention.expression owner c.args.value.now in
    let here = mention.on c.args.owner.line (mention.dotted known c.args.owner.word.now c.args.name.now.name) in
    let first = c.in_ok-head.ensures c.args.texts.now source before place has in
    let second = c.in_ok-value.ensures source (here ∷ before) place first.answer.met in
    let third = c.named.ensures c.value_of.new.texts c.args.environment.scope.now source (behind (here ∷ before) (value.mentions known)) place second.answer.met in
    third_tail c.named.result refl
    (λ n given head means puts. named_means n c.args.owner.word.now c.args.name.now c.args.owner.line c.args.value.now c.in_ok-value.value given means (puts c.args.owner.word.now head)) first second third

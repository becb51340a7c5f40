use Rattle.std.proofs.Common.{rules, ◌≡◌, Err, refl, ap}
use Rattle.std.proofs.Common.{reverse, ◌∷◌}
use Rattle.dso_machine.specs.declared.tree.Stmt.TheVariants as t
use Rattle.dso_config_entries.specs.BorrowedWords.{words_of}
use Rattle.dso_class.specs.Mentions as mention
use Rattle.dso_class.specs.Numbers.{variable}
use Rattle.dso_class.specs.BodyWalk.{owner_in, known_in, met_in}
use Rattle.dso_class.proofs.walks.Knowing.{at_known, begins_contains, declared_there, learnt}
use Rattle.dso_class.proofs.walks.BodyParts.{first_fails, second_fails, both_made, no_memory}
use Rattle.dso_class.proofs.statement.declared.Goals as goal

pub returns-in_err-number-clause-walks : goal.returns-in_err-number-clause-walks
returns-in_err-number-clause-walks c source before place has =
    let owner = owner_in c.args.place.now in
    let known = known_in c.args.scope.now in
    let line = c.args.declaration.name.now.line in
    let word = c.args.declaration.name.now.name in
    let here = mention.on line (mention.variable word) in
    let value = mention.expression owner c.args.declaration.value.now in
    let told : c.from_residual.result ≡ Err c.in_err-number.field-0.0 = search (rules, c.from_residual.ensures) in
    first_fails (value.mentions known) c.in_err-number.field-0.0 refl told (c.in_err-number.ensures.walked c.args.texts.now source before place has)

pub returns-in_err-value-clause-walks : goal.returns-in_err-value-clause-walks
returns-in_err-value-clause-walks c source before place has =
    let owner = owner_in c.args.place.now in
    let known = known_in c.args.scope.now in
    let line = c.args.declaration.name.now.line in
    let word = c.args.declaration.name.now.name in
    let here = mention.on line (mention.variable word) in
    let value = mention.expression owner c.args.declaration.value.now in
    let told : c.from_residual-in_err-value.result ≡ Err c.in_err-value.field-0.0 = search (rules, c.from_residual-in_err-value.ensures) in
    let first = c.in_ok-number.ensures.walked c.args.texts.now source before place has in
    let same : known_in c.variable.new.scope ≡ known = ap (λ names. reverse (words_of names)) c.in_ok-number.ensures.known in
    second_fails c.in_err-value.field-0.0 refl told first (at_known value.mentions same (c.in_err-value.ensures source (here ∷ before) place first.answer.met))

pub returns-in_err-know-clause-walks : goal.returns-in_err-know-clause-walks
returns-in_err-know-clause-walks c source before place has =
    let told : c.from_residual-in_err-know.result ≡ Err c.in_err-know.field-0.0 = search (rules, c.from_residual-in_err-know.ensures) in
    no_memory (tt {0}) c.in_err-know.field-0.0 told c.in_err-know.ensures.made

pub returns-clause-walks : goal.returns-clause-walks
returns-clause-walks c source before place has =
    let owner = owner_in c.args.place.now in
    let known = known_in c.args.scope.now in
    let line = c.args.declaration.name.now.line in
    let word = c.args.declaration.name.now.name in
    let here = mention.on line (mention.variable word) in
    let value = mention.expression owner c.args.declaration.value.now in
    let first = c.in_ok-number.ensures.walked c.args.texts.now source before place has in
    let same : known_in c.variable.new.scope ≡ known = ap (λ names. reverse (words_of names)) c.in_ok-number.ensures.known in
    let second = at_known value.mentions same (c.in_ok-value.ensures source (here ∷ before) place first.answer.met) in
    let kept = met_in c.value_of.new.texts c.know.new.scope in
    let both = both_made (t.Assign c.in_ok-number.number c.in_ok-value.value) refl refl (λ n one two at. variable one two) first second in
    learnt word kept refl (ap words_of c.in_ok-know.ensures.variables) c.in_ok-know.ensures.known (begins_contains word second.answer.variables (declared_there line word first.answer.met)) both

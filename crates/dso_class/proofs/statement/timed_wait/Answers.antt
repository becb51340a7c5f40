use Rattle.std.proofs.Common.{rules, ◌≡◌, Err, refl}
use Rattle.dso_machine.specs.declared.tree.Stmt.TheVariants as t
use Rattle.dso_class.specs.FaultsAmong.{behind}
use Rattle.dso_class.specs.Mentions as mention
use Rattle.dso_class.specs.Numbers as means
use Rattle.dso_class.specs.BodyWalk.{owner_in, known_in}
use Rattle.dso_class.proofs.walks.BodyParts.{second_fails, both_made}
use Rattle.dso_class.proofs.statement.timed_wait.Goals as goal

pub returns-in_err-ticks : goal.returns-in_err-ticks
returns-in_err-ticks c source before place has =
    let owner = owner_in c.args.environment.place.now in
    let known = known_in c.args.environment.scope.now in
    let first = c.in_ok-object.ensures source before place has in
    let near = behind before ((mention.expression owner c.args.on.now).mentions known) in
    let told : c.from_residual-in_err-ticks.result ≡ Err c.in_err-ticks.field-0.0 = search (rules, c.from_residual-in_err-ticks.ensures) in
    second_fails c.in_err-ticks.field-0.0 refl told first (c.in_err-ticks.ensures source near place first.answer.met)

pub returns : goal.returns
returns c source before place has =
    let owner = owner_in c.args.environment.place.now in
    let known = known_in c.args.environment.scope.now in
    let first = c.in_ok-object.ensures source before place has in
    let near = behind before ((mention.expression owner c.args.on.now).mentions known) in
    both_made (t.TimedWait c.in_ok-object.object c.in_ok-ticks.ticks) refl refl (λ n one two line. means.timed_wait one two) first
    (c.in_ok-ticks.ensures source near place first.answer.met)

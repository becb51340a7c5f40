use Rattle.std.proofs.Common.{◌≡◌, ◌∷◌, rules}
use Rattle.dso_machine.proofs.steps.Goes.{first_goes}
use Rattle.dso_machine.proofs.machine.Core.begin_next.Goals as goal

pub returns-in_ok-push-in-Some-clause-keeps : goal.returns-in_ok-push-in-Some-clause-keeps
returns-in_ok-push-in-Some-clause-keeps c =
    let is : c.args.rest ≡ c.in-Some.statement ∷ c.pop.new.self = search rules in
    first_goes c.args.rest c.in-Some.statement c.pop.new.self c.args.self.now c.push.new.self c.begin_statement.result c.begin_statement.new.self is
    c.in_ok-push-in-Some.ensures.ok (rw c.get.ensures at c.begin_statement.ensures.keeps)

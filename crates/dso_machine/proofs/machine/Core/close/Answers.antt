use Rattle.std.proofs.Common.{◌≡◌, ◌∷◌, rules}
use Rattle.dso_machine.specs.declared.machine.Core.{Core}
use Rattle.dso_machine.specs.declared.continuation.Task.TheVariants as task
use Rattle.dso_machine.proofs.steps.Steps.{put_back}
use Rattle.dso_machine.proofs.machine.Core.close.Goals as goal

pub returns-in-Some-Then-clause-keeps : goal.returns-in-Some-Then-clause-keeps
returns-in-Some-Then-clause-keeps c =
    let s : Core = c.args.self.now in
    let is : s.tasks ≡ task.Then c.in-Some-Then.then ∷ c.pop.new.self = search rules in
    rw (put_back (task.Then c.in-Some-Then.then) s c.pop.new.self is) at c.hand_on.ensures.keeps

pub returns-in-Some-Back-clause-keeps : goal.returns-in-Some-Back-clause-keeps
returns-in-Some-Back-clause-keeps c =
    let s : Core = c.args.self.now in
    let is : s.tasks ≡ task.Back c.in-Some-Back.frame ∷ c.pop.new.self = search rules in
    rw (put_back (task.Back c.in-Some-Back.frame) s c.pop.new.self is) at c.back.ensures.keeps

use Rattle.std.proofs.Common.{sym, subst, arith}
use Rattle.dso_world.specs.StepUpdates.{Follows}
use Rattle.dso_world.proofs.asking.Listed.{listed_on}
use Rattle.dso_world.proofs.worlds.Followed.{followed}
use Rattle.dso_world.proofs.step_update.follow.Goals as goal

pub taken-requires-clause-place : goal.taken-requires-clause-place
taken-requires-clause-place c = omega (arith, c.mark.ensures.round.many, c.requires.place)

pub taken-requires-clause-fits : goal.taken-requires-clause-fits
taken-requires-clause-fits c = let same = c.mark.ensures.round.entries in omega (arith, same, c.requires.few)

pub returns : goal.returns
returns c =
    let program = c.args.program.now in
    let nodes = c.args.nodes.now in
    let entry = c.args.entry.now in
    let old = c.args.open_steps.now in
    subst (λ chooser. Follows program nodes entry c.args.place old (record { steps = old.steps; chooser = chooser; asking = c.turn.new.self; is_finished = c.is_finished-open_steps.result }))
    (sym c.taken.ensures)
    (followed program nodes entry c.args.place old c.mark.new.chooser c.turn.new.self c.is_finished-open_steps.result c.requires.place
    (c.mark.ensures.flags program) c.mark.ensures.round
    (listed_on program nodes entry c.next_of_actor-next.result old.asking c.turn.new.self (c.next_of_actor-next.ensures program) c.turn.ensures)
    c.is_finished-open_steps.ensures)

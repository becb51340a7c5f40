use Rattle.std.proofs.Common.{◌<◌, ◌^◌, length, sym, subst, OnOk}
use Rattle.dso_world.specs.WorldStands.{SweepsNothing}
use Rattle.dso_run.proofs.runs.Going.{is_short, turn_if_ok}
use Rattle.dso_run.proofs.sweeping.Rounds.{nothing_swept}
use Rattle.dso_run.proofs.running.take_step.Goals as goal

-- the journal is short
pub step-requires-clause-few : goal.step-requires-clause-few
step-requires-clause-few c = subst (λ world. length world.journal.entries < 2 ^ 28) (sym c.choose.ensures.same) (is_short c.args.world.now c.requires.light)

-- the chosen step is made
pub returns-in-Some-clause-turn : goal.returns-in-Some-clause-turn
returns-in-Some-clause-turn c =
    turn_if_ok c.args.program.now c.args.schedule.seed c.step.result c.in-Some.step c.args.world.now _ _ c.choose.ensures.same
    (c.in-Some.ensures.chosen c.args.program.now c.requires.stands c.requires.whole) c.step.ensures.stepped

pub returns-in-Some-clause-swept : goal.returns-in-Some-clause-swept
returns-in-Some-clause-swept c = subst (λ world. OnOk c.step.result (SweepsNothing c.args.program.now world c.step.new.self)) c.choose.ensures.same c.step.ensures.swept

-- nothing is done
pub returns-in-None-clause-swept : goal.returns-in-None-clause-swept
returns-in-None-clause-swept c = nothing_swept c.args.program.now c.args.world.now c.choose.new.self c.choose.ensures.same

use Rattle.dso_run.proofs.runs.Going.{begins}
use Rattle.dso_run.proofs.sweeping.Collecting.{sweeps_none}
use Rattle.dso_run.proofs.running.run_program.Goals as goal

-- the world before its first step
pub run_on-ended-requires-clause-runs : goal.run_on-ended-requires-clause-runs
run_on-ended-requires-clause-runs c =
    begins c.args.program.now c.args.schedule.seed c.args.schedule.steps c.in_ok-world.world c.in_ok-world.ensures.stands c.in_ok-world.ensures.whole
    c.in_ok-world.ensures.empty

pub run_on-ended-requires-clause-swept : goal.run_on-ended-requires-clause-swept
run_on-ended-requires-clause-swept c =
    sweeps_none c.args.program.now c.requires.sound c.args.schedule.collect c.in_ok-world.world c.requires.interval c.in_ok-world.ensures.stands c.in_ok-world.ensures.whole
    c.in_ok-world.ensures.empty

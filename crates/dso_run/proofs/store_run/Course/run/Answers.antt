use Rattle.dso_run.proofs.sweeping.Collecting.{sweeps_none}
use Rattle.dso_run.proofs.store_run.Course.run.Goals as goal

-- nothing was swept before the first step
pub run_on-ended-requires-clause-swept : goal.run_on-ended-requires-clause-swept
run_on-ended-requires-clause-swept g c =
    sweeps_none c.args.self.now.program.now c.requires.sound c.args.self.now.schedule.collect c.in_ok-world.world c.requires.interval c.in_ok-world.ensures.stands
    c.in_ok-world.ensures.whole c.in_ok-world.ensures.empty

use Rattle.std.proofs.Common.{◌-◌}
use Rattle.dso_legal.specs.Slots.{weight}
use Rattle.dso_run.specs.Collecting.{CountsSoFar}
use Rattle.dso_run.specs.Stepping.{RunsOn}
use Rattle.dso_world.specs.WorldStands.{entries_in}
use Rattle.dso_run.proofs.running.run_on.Given as goal

-- the run goes on by the schedule, and so much was swept so far
abbrev pub invariant-loop-world : goal.invariant-loop-world
invariant-loop-world l = record {
  runs : RunsOn l.program l.schedule.seed l.schedule.steps l.world;
  swept : CountsSoFar l.program l.schedule.collect l.swept l.world;
}

-- each entry weighs something
abbrev pub decreases-loop-world : goal.decreases-loop-world
decreases-loop-world l = l.schedule.steps - weight (entries_in l.world)

use Rattle.std.proofs.Common.{◌≡◌, ◌≤◌, ◌+◌, ◌*◌, ◌-◌, ◌^◌, Option}
use Rattle.dso_keep.specs.Crash.{CrashLeaves}
use Rattle.dso_keep.specs.Disk.{File}
use Rattle.dso_keep.specs.Keeping.{KeepStands, gate_of}
use Rattle.dso_legal.specs.Slots.{weight}
use Rattle.dso_kept.specs.Keeping.{ReopensFirst, applied}
use Rattle.dso_run.specs.Collecting.{CountsSoFar}
use Rattle.dso_run.specs.Stepping.{RunsOn}
use Rattle.dso_world.specs.WorldStands.{entries_in}
use Rattle.dso_run.proofs.store_run.Course.run_on.Given as goal

-- the run goes on by the schedule, and so much was swept so far; the store has what was applied, and a crash leaves some of
-- the first of it
abbrev pub invariant-loop-world : goal.invariant-loop-world
invariant-loop-world g l = record {
  runs : RunsOn l.self.program.now l.self.schedule.seed l.self.schedule.steps l.world;
  swept : CountsSoFar l.self.program.now l.self.schedule.collect l.swept l.world;
  keeps : KeepStands (applied (entries_in l.world)) l.current (g.D.Disk.file l.disk);
  room : gate_of l.current ≤ (2 ^ 32 + 4) * weight (entries_in l.world);
  sound : g.D.Disk.faults l.disk ≡ g.D.Disk.faults l.fn.disk;
  crash : (start : Option File) → CrashLeaves (ReopensFirst l.self.program.now.code.shape (applied (entries_in l.fn.world))) start (g.D.Disk.file l.fn.disk)
      → CrashLeaves (ReopensFirst l.self.program.now.code.shape (applied (entries_in l.world))) start (g.D.Disk.file l.disk);
}

-- each entry weighs something
abbrev pub decreases-loop-world : goal.decreases-loop-world
decreases-loop-world g l = l.self.schedule.steps - weight (entries_in l.world)

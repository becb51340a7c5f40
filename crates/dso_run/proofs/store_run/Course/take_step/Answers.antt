use Rattle.std.proofs.Common.{subst, OnOk}
use Rattle.dso_kept.specs.Keeping.{applied}
use Rattle.dso_world.specs.WorldStands.{SweepsNothing, entries_in}
use Rattle.dso_kept.proofs.keeping.Leaving.{unchanged_reopens}
use Rattle.dso_kept.proofs.keeping.Steps.{world_fits}
use Rattle.dso_run.proofs.runs.KeptSteps.{kept_turn_if_ok}
use Rattle.dso_run.proofs.sweeping.Rounds.{nothing_swept}
use Rattle.dso_run.proofs.store_run.Course.take_step.Goals as goal

-- the chosen step is made
pub returns-in-Some-clause-turn : goal.returns-in-Some-clause-turn
returns-in-Some-clause-turn g c =
    kept_turn_if_ok c.args.self.now.program.now c.args.self.now.schedule.seed c.kept_step.result c.in-Some.step c.args.world.now _ _ c.choose.ensures.same
    (c.in-Some.ensures.chosen c.args.self.now.program.now c.requires.stands c.requires.whole) c.kept_step.ensures.stepped

pub returns-in-Some-clause-swept : goal.returns-in-Some-clause-swept
returns-in-Some-clause-swept g c =
    subst (λ world. OnOk c.kept_step.result (SweepsNothing c.args.self.now.program.now world c.kept_step.new.world)) c.choose.ensures.same c.kept_step.ensures.swept

-- nothing is done
pub returns-in-None-clause-swept : goal.returns-in-None-clause-swept
returns-in-None-clause-swept g c = nothing_swept c.args.self.now.program.now c.args.world.now c.choose.new.self c.choose.ensures.same

pub returns-in-None-clause-crash : goal.returns-in-None-clause-crash
returns-in-None-clause-crash g c =
    unchanged_reopens c.args.self.now.program.now.code.shape (applied (entries_in c.args.world.now)) (applied (entries_in c.choose.new.self)) c.args.keep (g.D.Disk.file c.args.disk.now) c.requires.keeps
    (world_fits c.args.self.now.program.now c.args.world.now c.requires.stands)

use Rattle.std.proofs.Common.{◌≡◌, ◌≤◌, ◌∙◌, sym, subst, arith, true, false}
use Rattle.dso_legal.specs.Slots.{is_finished, weight}
use Rattle.dso_run.specs.declared.running.Outcome.TheVariants.{Stuck}
use Rattle.dso_run.specs.Headline.{IsRunOf}
use Rattle.dso_run.specs.RunEnds.{BySlots}
use Rattle.dso_run.specs.Stepping.{IsTurn}
use Rattle.dso_run.specs.Swept.{CountsSwept}
use Rattle.dso_world.specs.WorldStands.{entries_in}
use Rattle.dso_world.specs.WorldSteps.{settings_of}
use Rattle.dso_run.proofs.runs.Going.{ends_finished, ends_over, ends_stuck, heavy_by, light_by}
use Rattle.dso_run.proofs.sweeping.Collecting.{counts_swept}
use Rattle.dso_run.proofs.sweeping.Rounds.{round_fits, round_runs, round_sweeps}
use Rattle.dso_run.proofs.running.run_on.Goals.{then-loop-world-test+else-weight-schedule, else-loop-world-test}
use Rattle.dso_run.proofs.running.run_on.Goals as goal

-- no slot is open
pub returns-then-not-branch-clause-run : goal.returns-then-not-branch-clause-run
returns-then-not-branch-clause-run c =
    let runs = c.loop-world.invariant.runs in
    let unfinished : is_finished (settings_of c.args.program.now) (entries_in c.loop-world.world) ≡ false
    = sym (c.finished.ensures c.args.program.now runs.stands runs.whole) ∙ c.loop-world-test.true in
    let light = light_by c.weight.result (weight (entries_in c.loop-world.world)) c.args.schedule.steps (c.weight.ensures c.args.program.now runs.stands runs.whole)
    c.requires.steps c.if-weight-schedule.true in
    let none = subst (λ made. IsTurn c.args.program.now c.args.schedule.seed made c.loop-world.world c.take_step.new.world) c.if-not-branch.true c.in_ok-take_step.ensures.turn in
    subst (λ world. IsRunOf c.args.program.now (BySlots c.args.schedule.seed) c.args.schedule.steps Stuck world.journal.entries) (sym none.1)
    (ends_stuck c.args.program.now c.args.schedule.seed c.args.schedule.steps c.requires.sound c.loop-world.world runs unfinished light none.0)

pub returns-then-not-branch-clause-swept : goal.returns-then-not-branch-clause-swept
returns-then-not-branch-clause-swept c =
    let none = subst (λ made. IsTurn c.args.program.now c.args.schedule.seed made c.loop-world.world c.take_step.new.world) c.if-not-branch.true c.in_ok-take_step.ensures.turn in
    subst (λ world. CountsSwept c.args.program.now c.args.schedule.collect world.journal.entries c.loop-world.swept) (sym none.1)
    (counts_swept c.args.program.now c.requires.sound c.args.schedule.collect c.loop-world.swept c.loop-world.world c.loop-world.invariant.runs.stands c.loop-world.invariant.swept)

-- the entry is made at the chosen slot, and then the collection that is due
pub loop-world-preserved : goal.loop-world-preserved
loop-world-preserved c =
    let runs = c.loop-world.invariant.runs in
    let unfinished : is_finished (settings_of c.args.program.now) (entries_in c.loop-world.world) ≡ false
    = sym (c.finished.ensures c.args.program.now runs.stands runs.whole) ∙ c.loop-world-test.true in
    let light = light_by c.weight.result (weight (entries_in c.loop-world.world)) c.args.schedule.steps (c.weight.ensures c.args.program.now runs.stands runs.whole)
    c.requires.steps c.if-weight-schedule.true in
    let made = subst (λ made. IsTurn c.args.program.now c.args.schedule.seed made c.loop-world.world c.take_step.new.world) c.if-not-branch.false c.in_ok-take_step.ensures.turn in
    let stands = c.collect_if_due.ensures.stands c.args.program.now c.requires.sound c.in_ok-take_step.ensures.stands in
    record {
      runs = round_runs c.args.program.now c.args.schedule.seed c.args.schedule.steps c.args.schedule.collect c.loop-world.world c.take_step.new.world
          c.collect_if_due.new.world made c.in_ok-take_step.ensures.stands c.collect_if_due.ensures.journal stands runs unfinished light
          c.in_ok-take_step.ensures.whole c.in_ok-swept.ensures.whole;
      swept = round_sweeps c.args.program.now c.args.schedule.seed c.args.schedule.steps c.args.schedule.collect c.loop-world.world c.take_step.new.world
          c.collect_if_due.new.world made c.in_ok-take_step.ensures.stands c.collect_if_due.ensures.journal stands c.requires.sound c.requires.interval
          c.loop-world.swept c.in_ok-swept.field-0 c.loop-world.invariant.swept c.in_ok-take_step.ensures.swept
          (c.in_ok-swept.ensures.collected c.args.program.now c.requires.sound c.in_ok-take_step.ensures.stands);
    }

-- no more was swept than there are entries, and one
pub overflow_add-swept : goal.overflow_add-swept
overflow_add-swept c =
    let runs = c.loop-world.invariant.runs in
    let light = light_by c.weight.result (weight (entries_in c.loop-world.world)) c.args.schedule.steps (c.weight.ensures c.args.program.now runs.stands runs.whole)
    c.requires.steps c.if-weight-schedule.true in
    let made = subst (λ made. IsTurn c.args.program.now c.args.schedule.seed made c.loop-world.world c.take_step.new.world) c.if-not-branch.false c.in_ok-take_step.ensures.turn in
    let stands = c.collect_if_due.ensures.stands c.args.program.now c.requires.sound c.in_ok-take_step.ensures.stands in
    let few = c.requires.steps in
    let fits = round_fits c.args.program.now c.args.schedule.seed c.args.schedule.steps c.args.schedule.collect c.loop-world.world c.take_step.new.world
    c.collect_if_due.new.world made c.in_ok-take_step.ensures.stands c.collect_if_due.ensures.journal stands c.requires.sound c.requires.interval
    c.loop-world.swept c.in_ok-swept.field-0 c.loop-world.invariant.swept c.in_ok-take_step.ensures.swept
    (c.in_ok-swept.ensures.collected c.args.program.now c.requires.sound c.in_ok-take_step.ensures.stands) (omega (arith, light, few)) in
    omega (arith, fits)

-- the run is finished
pub returns-then-finished-clause-run : goal.returns-then-finished-clause-run
returns-then-finished-clause-run c =
    let runs = c.loop-world.invariant.runs in
    let finished : is_finished (settings_of c.args.program.now) (entries_in c.loop-world.world) ≡ true
    = sym (c.finished-2.ensures c.args.program.now runs.stands runs.whole) ∙ c.if-finished.true in
    rw c.finish_of.ensures (rw c.journal.ensures
    (ends_finished c.args.program.now c.args.schedule.seed c.args.schedule.steps c.requires.sound c.loop-world.world runs finished))

pub returns-then-finished-clause-swept : goal.returns-then-finished-clause-swept
returns-then-finished-clause-swept c =
    counts_swept c.args.program.now c.requires.sound c.args.schedule.collect c.loop-world.swept c.loop-world.world c.loop-world.invariant.runs.stands c.loop-world.invariant.swept

-- its budget is used up
pub returns-else-finished-clause-run : goal.returns-else-finished-clause-run
returns-else-finished-clause-run c =
    let runs = c.loop-world.invariant.runs in
    let unfinished : is_finished (settings_of c.args.program.now) (entries_in c.loop-world.world) ≡ false
    = sym (c.finished-2.ensures c.args.program.now runs.stands runs.whole) ∙ c.if-finished.false in
    let heavy : c.args.schedule.steps ≤ weight (entries_in c.loop-world.world) = elim c.loop-world-test.branch [
      | then-loop-world-test+else-weight-schedule w ↦
          heavy_by w.weight.result (weight (entries_in c.loop-world.world)) c.args.schedule.steps (w.weight.ensures c.args.program.now runs.stands runs.whole) w.if-weight-schedule.false
      | else-loop-world-test w ↦
          (let never : true ≡ false = sym (sym (c.finished.ensures c.args.program.now runs.stands runs.whole) ∙ w.loop-world-test.false) ∙ unfinished in absurd (cc never))
    ] in
    ends_over c.args.program.now c.args.schedule.seed c.args.schedule.steps c.requires.sound c.loop-world.world runs unfinished heavy

pub returns-else-finished-clause-swept : goal.returns-else-finished-clause-swept
returns-else-finished-clause-swept c =
    counts_swept c.args.program.now c.requires.sound c.args.schedule.collect c.loop-world.swept c.loop-world.world c.loop-world.invariant.runs.stands c.loop-world.invariant.swept

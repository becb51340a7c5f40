use Rattle.std.proofs.Common.{◌≡◌, ◌≤◌, ◌+◌, ◌*◌, ◌^◌, ◌∙◌, sym, subst, arith, true, false, rules}
use Rattle.dso_keep.specs.Crash.{CrashLeaves}
use Rattle.dso_keep.specs.Keeping.{KeepStands, gate_of}
use Rattle.dso_legal.specs.Slots.{is_finished, weight}
use Rattle.dso_run.specs.declared.running.Outcome.TheVariants.{Stuck}
use Rattle.dso_run.specs.Headline.{IsRunOf}
use Rattle.dso_kept.specs.Keeping.{ReopensFirst, applied}
use Rattle.dso_run.specs.RunEnds.{BySlots}
use Rattle.dso_run.specs.Stepping.{IsTurn}
use Rattle.dso_run.specs.Swept.{CountsSwept}
use Rattle.dso_world.specs.WorldStands.{entries_in}
use Rattle.dso_world.specs.WorldSteps.{settings_of}
use Rattle.dso_kept.proofs.keeping.Leaving.{leaves_first, store_of}
use Rattle.dso_kept.proofs.keeping.Steps.{world_fits}
use Rattle.dso_run.proofs.runs.Going.{ends_finished, ends_over, ends_stuck, goes_on, heavy_by, light_by}
use Rattle.dso_run.proofs.runs.KeptSteps.{records_go_on, room_more}
use Rattle.dso_run.proofs.sweeping.Collecting.{counts_swept}
use Rattle.dso_run.proofs.sweeping.Rounds.{round_fits, round_runs, round_sweeps, same_entries}
use Rattle.dso_run.proofs.store_run.Course.run_on.Goals.{then-loop-world-test+else-weight-self, else-loop-world-test}
use Rattle.dso_run.proofs.store_run.Course.run_on.Goals as goal

-- the disk fails once the chosen entry is made
pub returns-in_err-made-clause-so_far : goal.returns-in_err-made-clause-so_far
returns-in_err-made-clause-so_far g c = λ is_disk.
    let runs = c.loop-world.invariant.runs in
    let unfinished : is_finished (settings_of c.args.self.now.program.now) (entries_in c.loop-world.world) ≡ false
    = sym (c.finished.ensures c.args.self.now.program.now runs.stands runs.whole) ∙ c.loop-world-test.true in
    let light = light_by c.weight.result (weight (entries_in c.loop-world.world)) c.args.self.now.schedule.steps (c.weight.ensures c.args.self.now.program.now runs.stands runs.whole)
    c.requires.steps c.if-weight-self.true in
    let turn = c.in_err-made.ensures.disk_failed (search rules) in
    let on = goes_on c.args.self.now.program.now c.args.self.now.schedule.seed c.args.self.now.schedule.steps c.loop-world.world c.take_step.new.world runs unfinished light turn.0
    c.take_step.ensures.stands turn.1 in
    record { lawful = on.stands.lawful; made = on.turns }

pub returns-in_err-made-clause-crash : goal.returns-in_err-made-clause-crash
returns-in_err-made-clause-crash g c = λ start leaves.
    let before = applied (entries_in c.loop-world.world) in
    let after = applied (entries_in c.take_step.new.world) in
    leaves_first c.args.self.now.program.now.code.shape before after (records_go_on before after c.take_step.ensures.one) start (g.D.Disk.file c.loop-world.disk) (g.D.Disk.file c.take_step.new.disk)
    (c.loop-world.invariant.crash start leaves) c.take_step.ensures.crash

-- no slot is open
pub returns-then-not-made-clause-ended : goal.returns-then-not-made-clause-ended
returns-then-not-made-clause-ended g c =
    let runs = c.loop-world.invariant.runs in
    let unfinished : is_finished (settings_of c.args.self.now.program.now) (entries_in c.loop-world.world) ≡ false
    = sym (c.finished.ensures c.args.self.now.program.now runs.stands runs.whole) ∙ c.loop-world-test.true in
    let light = light_by c.weight.result (weight (entries_in c.loop-world.world)) c.args.self.now.schedule.steps (c.weight.ensures c.args.self.now.program.now runs.stands runs.whole)
    c.requires.steps c.if-weight-self.true in
    let none = subst (λ made. IsTurn c.args.self.now.program.now c.args.self.now.schedule.seed made c.loop-world.world c.take_step.new.world) c.if-not-made.true c.in_ok-made.ensures.turn in
    subst (λ world. IsRunOf c.args.self.now.program.now (BySlots c.args.self.now.schedule.seed) c.args.self.now.schedule.steps Stuck world.journal.entries) (sym none.1)
    (ends_stuck c.args.self.now.program.now c.args.self.now.schedule.seed c.args.self.now.schedule.steps c.requires.sound c.loop-world.world runs unfinished light none.0)

pub returns-then-not-made-clause-swept : goal.returns-then-not-made-clause-swept
returns-then-not-made-clause-swept g c =
    let none = subst (λ made. IsTurn c.args.self.now.program.now c.args.self.now.schedule.seed made c.loop-world.world c.take_step.new.world) c.if-not-made.true c.in_ok-made.ensures.turn in
    subst (λ world. CountsSwept c.args.self.now.program.now c.args.self.now.schedule.collect world.journal.entries c.loop-world.swept) (sym none.1)
    (counts_swept c.args.self.now.program.now c.requires.sound c.args.self.now.schedule.collect c.loop-world.swept c.loop-world.world
    c.loop-world.invariant.runs.stands c.loop-world.invariant.swept)

pub returns-then-not-made-clause-crash : goal.returns-then-not-made-clause-crash
returns-then-not-made-clause-crash g c = λ start leaves.
    let before = applied (entries_in c.loop-world.world) in
    let after = applied (entries_in c.take_step.new.world) in
    leaves_first c.args.self.now.program.now.code.shape before after (records_go_on before after c.take_step.ensures.one) start (g.D.Disk.file c.loop-world.disk) (g.D.Disk.file c.take_step.new.disk)
    (c.loop-world.invariant.crash start leaves) c.take_step.ensures.crash

-- the entry is made at the chosen slot, its record is kept, and then the collection that is due is made
pub loop-world-preserved : goal.loop-world-preserved
loop-world-preserved g c =
    let p = c.args.self.now.program.now in
    let schedule = c.args.self.now.schedule in
    let runs = c.loop-world.invariant.runs in
    let before = applied (entries_in c.loop-world.world) in
    let after = applied (entries_in c.take_step.new.world) in
    let unfinished : is_finished (settings_of p) (entries_in c.loop-world.world) ≡ false
    = sym (c.finished.ensures p runs.stands runs.whole) ∙ c.loop-world-test.true in
    let light = light_by c.weight.result (weight (entries_in c.loop-world.world)) schedule.steps (c.weight.ensures p runs.stands runs.whole)
    c.requires.steps c.if-weight-self.true in
    let made = subst (λ made. IsTurn p schedule.seed made c.loop-world.world c.take_step.new.world) c.if-not-made.false c.in_ok-made.ensures.turn in
    let same = same_entries c.take_step.new.world c.collect_if_due.new.world c.collect_if_due.ensures.journal in
    let stands = c.collect_if_due.ensures.stands p c.requires.sound c.in_ok-made.ensures.stands in
    record {
      runs = round_runs p schedule.seed schedule.steps schedule.collect c.loop-world.world c.take_step.new.world c.collect_if_due.new.world made
          c.in_ok-made.ensures.stands c.collect_if_due.ensures.journal stands runs unfinished light c.in_ok-made.ensures.whole c.in_ok-swept.ensures.whole;
      swept = round_sweeps p schedule.seed schedule.steps schedule.collect c.loop-world.world c.take_step.new.world c.collect_if_due.new.world made
          c.in_ok-made.ensures.stands c.collect_if_due.ensures.journal stands c.requires.sound c.requires.interval c.loop-world.swept c.in_ok-swept.field-0
          c.loop-world.invariant.swept c.in_ok-made.ensures.swept (c.in_ok-swept.ensures.collected p c.requires.sound c.in_ok-made.ensures.stands);
      keeps = subst (λ es. KeepStands (applied es) c.in_ok-made.next (g.D.Disk.file c.take_step.new.disk)) (sym same) c.in_ok-made.ensures.keeps;
      room = subst (λ es. gate_of c.in_ok-made.next ≤ (2 ^ 32 + 4) * weight es) (sym same)
          (room_more (gate_of c.loop-world.current) (gate_of c.in_ok-made.next) made.entry (entries_in c.loop-world.world) (entries_in c.take_step.new.world) made.added
          c.loop-world.invariant.room c.in_ok-made.ensures.gate);
      sound = c.in_ok-made.ensures.sound ∙ c.loop-world.invariant.sound;
      crash = λ start leaves. subst (λ es. CrashLeaves (ReopensFirst p.code.shape (applied es)) start (g.D.Disk.file c.take_step.new.disk)) (sym same)
          (leaves_first p.code.shape before after (records_go_on before after c.take_step.ensures.one) start
          (g.D.Disk.file c.loop-world.disk) (g.D.Disk.file c.take_step.new.disk) (c.loop-world.invariant.crash start leaves) c.take_step.ensures.crash);
    }

-- no more was swept than there are entries, and one
pub overflow_add-swept : goal.overflow_add-swept
overflow_add-swept g c =
    let p = c.args.self.now.program.now in
    let schedule = c.args.self.now.schedule in
    let runs = c.loop-world.invariant.runs in
    let light = light_by c.weight.result (weight (entries_in c.loop-world.world)) schedule.steps (c.weight.ensures p runs.stands runs.whole)
    c.requires.steps c.if-weight-self.true in
    let made = subst (λ made. IsTurn p schedule.seed made c.loop-world.world c.take_step.new.world) c.if-not-made.false c.in_ok-made.ensures.turn in
    let stands = c.collect_if_due.ensures.stands p c.requires.sound c.in_ok-made.ensures.stands in
    let few = c.requires.steps in
    let fits = round_fits p schedule.seed schedule.steps schedule.collect c.loop-world.world c.take_step.new.world c.collect_if_due.new.world made
    c.in_ok-made.ensures.stands c.collect_if_due.ensures.journal stands c.requires.sound c.requires.interval c.loop-world.swept c.in_ok-swept.field-0
    c.loop-world.invariant.swept c.in_ok-made.ensures.swept (c.in_ok-swept.ensures.collected p c.requires.sound c.in_ok-made.ensures.stands)
    (omega (arith, light, few)) in
    omega (arith, fits)

-- no memory is left for the collection
pub returns-in_err-swept-clause-crash : goal.returns-in_err-swept-clause-crash
returns-in_err-swept-clause-crash g c = λ start leaves.
    let before = applied (entries_in c.loop-world.world) in
    let after = applied (entries_in c.take_step.new.world) in
    subst (λ es. CrashLeaves (ReopensFirst c.args.self.now.program.now.code.shape (applied es)) start (g.D.Disk.file c.take_step.new.disk))
    (sym (same_entries c.take_step.new.world c.collect_if_due.new.world c.collect_if_due.ensures.journal))
    (leaves_first c.args.self.now.program.now.code.shape before after (records_go_on before after c.take_step.ensures.one) start
    (g.D.Disk.file c.loop-world.disk) (g.D.Disk.file c.take_step.new.disk) (c.loop-world.invariant.crash start leaves) c.take_step.ensures.crash)

-- the run is finished
pub returns-then-finished-clause-ended : goal.returns-then-finished-clause-ended
returns-then-finished-clause-ended g c =
    let runs = c.loop-world.invariant.runs in
    let finished : is_finished (settings_of c.args.self.now.program.now) (entries_in c.loop-world.world) ≡ true
    = sym (c.finished-2.ensures c.args.self.now.program.now runs.stands runs.whole) ∙ c.if-finished.true in
    rw c.finish_of.ensures (rw c.journal.ensures
    (ends_finished c.args.self.now.program.now c.args.self.now.schedule.seed c.args.self.now.schedule.steps c.requires.sound c.loop-world.world runs finished))

pub returns-then-finished-clause-whole : goal.returns-then-finished-clause-whole
returns-then-finished-clause-whole g c =
    store_of c.args.self.now.program.now.code.shape (applied (entries_in c.loop-world.world)) c.loop-world.current (g.D.Disk.file c.loop-world.disk) c.loop-world.invariant.keeps
    (world_fits c.args.self.now.program.now c.loop-world.world c.loop-world.invariant.runs.stands)

pub returns-then-finished-clause-swept : goal.returns-then-finished-clause-swept
returns-then-finished-clause-swept g c =
    counts_swept c.args.self.now.program.now c.requires.sound c.args.self.now.schedule.collect c.loop-world.swept c.loop-world.world
    c.loop-world.invariant.runs.stands c.loop-world.invariant.swept

-- its budget is used up
pub returns-else-finished-clause-swept : goal.returns-else-finished-clause-swept
returns-else-finished-clause-swept g c =
    counts_swept c.args.self.now.program.now c.requires.sound c.args.self.now.schedule.collect c.loop-world.swept c.loop-world.world
    c.loop-world.invariant.runs.stands c.loop-world.invariant.swept

pub returns-else-finished-clause-ended : goal.returns-else-finished-clause-ended
returns-else-finished-clause-ended g c =
    let runs = c.loop-world.invariant.runs in
    let unfinished : is_finished (settings_of c.args.self.now.program.now) (entries_in c.loop-world.world) ≡ false
    = sym (c.finished-2.ensures c.args.self.now.program.now runs.stands runs.whole) ∙ c.if-finished.false in
    let heavy : c.args.self.now.schedule.steps ≤ weight (entries_in c.loop-world.world) = elim c.loop-world-test.branch [
      | then-loop-world-test+else-weight-self w ↦
          heavy_by w.weight.result (weight (entries_in c.loop-world.world)) c.args.self.now.schedule.steps (w.weight.ensures c.args.self.now.program.now runs.stands runs.whole) w.if-weight-self.false
      | else-loop-world-test w ↦
          (let never : true ≡ false = sym (sym (c.finished.ensures c.args.self.now.program.now runs.stands runs.whole) ∙ w.loop-world-test.false) ∙ unfinished in absurd (cc never))
    ] in
    ends_over c.args.self.now.program.now c.args.self.now.schedule.seed c.args.self.now.schedule.steps c.requires.sound c.loop-world.world runs unfinished heavy

pub returns-else-finished-clause-whole : goal.returns-else-finished-clause-whole
returns-else-finished-clause-whole g c =
    store_of c.args.self.now.program.now.code.shape (applied (entries_in c.loop-world.world)) c.loop-world.current (g.D.Disk.file c.loop-world.disk) c.loop-world.invariant.keeps
    (world_fits c.args.self.now.program.now c.loop-world.world c.loop-world.invariant.runs.stands)

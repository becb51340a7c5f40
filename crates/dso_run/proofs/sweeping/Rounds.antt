-- A round of a run: a step at the chosen slot, and then the collection that may be due.
use Rattle.std.proofs.Common.{ℕ, suc, ◌≡◌, ◌≤◌, ◌<◌, ◌+◌, ◌^◌, ap, sym, subst, arith, false, Option, length, reverse}
use Rattle.std.proofs.lemmas.List.{length-reverse}
use Rattle.dso_base.specs.Weight.{entry_weight_of}
use Rattle.dso_class.specs.declared.program.Program.{Program}
use Rattle.dso_class.specs.Sound.{IsSoundProgram}
use Rattle.dso_command_line.specs.Words.{IsInterval}
use Rattle.dso_legal.specs.Slots.{is_finished, weight}
use Rattle.dso_world.specs.declared.world.World.{World}
use Rattle.dso_world.specs.WorldStands.{SweepsNothing, WorldStands, entries_in, is_spent, journal_of}
use Rattle.dso_world.specs.WorldSteps.{settings_of}
use Rattle.dso_run.specs.Collecting.{Collects, CountsSoFar}
use Rattle.dso_run.specs.Stepping.{RunsOn, TakesTurn}
use Rattle.dso_run.proofs.runs.Going.{goes_on, is_short, still_runs}
use Rattle.dso_run.proofs.sweeping.Collecting.{few_swept, sweeps_on}

-- with the same journal the entries are the same
pub same_entries : (old new : World) → journal_of new ≡ journal_of old → entries_in new ≡ entries_in old
same_entries old new same = ap (λ journal. reverse journal.entries) same

-- where nothing was done nothing was swept
pub nothing_swept : (program : Program) (old new : World) → new ≡ old → SweepsNothing program old new
nothing_swept program old new same = subst (λ world. SweepsNothing program old world) (sym same) (λ o. (λ swept. swept, λ swept. swept))

-- For a program; a seed, a budget and how many entries there are to be to a collection; and the world before a step that
-- is made, after it, and after the collection:
module _ (program : Program) (seed : Option ℕ) (budget : ℕ) (interval : Option ℕ) (old between new : World) (turn : TakesTurn program seed old between)
    (stands_between : WorldStands program between) (same : journal_of new ≡ journal_of between) (stands : WorldStands program new) where
  -- the run goes on
  pub round_runs : RunsOn program seed budget old → is_finished (settings_of program) (entries_in old) ≡ false → weight (entries_in old) < budget
      → is_spent between ≡ false → is_spent new ≡ false → RunsOn program seed budget new
  round_runs runs unfinished light whole_between whole =
      still_runs program seed budget between new (goes_on program seed budget old between runs unfinished light turn stands_between whole_between) same stands whole

  -- its journal weighs more
  pub round_heavier : weight (entries_in old) < weight (entries_in new)
  round_heavier =
      let total : weight (entries_in between) ≡ weight (entries_in old) + entry_weight_of turn.entry = ap weight turn.added in
      let some : 1 ≤ entry_weight_of turn.entry = omega arith in
      let equal : weight (entries_in new) ≡ weight (entries_in between) = ap weight (same_entries between new same) in
      omega (arith, total, some, equal)

  module _ (sound : IsSoundProgram program) (within : IsInterval interval) (count more : ℕ) (so_far : CountsSoFar program interval count old)
      (nothing : SweepsNothing program old between) (done : Collects program interval more between new) where
    -- so much was swept so far
    pub round_sweeps : CountsSoFar program interval (count + more) new
    round_sweeps = sweeps_on program sound interval count more old between new turn.entry within so_far turn.added nothing stands_between (same_entries between new same) done

    -- which is a number of 64 bits, since the journal is short
    pub round_fits : weight (entries_in old) < 4000000 → count + more < 2 ^ 64
    round_fits light =
        let few = few_swept program sound interval (count + more) new stands round_sweeps in
        let short = is_short old light in
        let turned : length (entries_in old) ≡ length old.journal.entries = length-reverse old.journal.entries in
        let longer : length (entries_in between) ≡ suc (length (entries_in old)) = ap length turn.added in
        let equal : length (entries_in new) ≡ length (entries_in between) = ap length (same_entries between new same) in
        omega (arith, few, short, turned, longer, equal)

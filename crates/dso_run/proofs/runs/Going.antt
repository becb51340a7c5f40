-- How a run goes on, and how it ends.
use Rattle.std.proofs.Common.{ℕ, ◌≡◌, ◌≤◌, ◌<◌, ◌-◌, ◌^◌, min, refl, sym, ◌∙◌, ap, subst, arith, Bool, true, false, Option, Some, List, [], ◌∷◌, length, reverse, Result, Ok, Err, IfOk}
use Rattle.std.specs.List.{list_any}
use Rattle.std.proofs.lemmas.List.{length-reverse, reverse-append}
use Rattle.dso_base.specs.declared.journal.Entry.{Entry}
use Rattle.dso_base.specs.declared.no_memory.NoMemory.{NoMemory}
use Rattle.dso_class.specs.declared.program.Program.{Program}
use Rattle.dso_class.specs.Sound.{IsSoundProgram}
use Rattle.dso_legal.specs.Central.{CommitsLegally}
use Rattle.dso_legal.specs.Slots.{is_any, is_finished, open_slots, weight}
use Rattle.dso_legal.proofs.central.CentralLaw.{central_law}
use Rattle.dso_legal.proofs.programs.SoundCode.{sound_program}
use Rattle.dso_machine.specs.Next.{next_request}
use Rattle.dso_world.specs.declared.step.Step.{Step}
use Rattle.dso_world.specs.declared.world.World.{World}
use Rattle.dso_world.specs.WorldStands.{IsChosenStep, IsStepped, WorldStands, entries_in, is_spent, journal_of}
use Rattle.dso_world.specs.WorldSteps.{settings_of, slot_of}
use Rattle.dso_run.specs.declared.running.Outcome.TheVariants.{Stuck, Budget}
use Rattle.dso_run.specs.Headline.{IsRunOf}
use Rattle.dso_run.specs.RunEnds.{BySlots, TakesTurns, is_faulty}
use Rattle.dso_run.specs.Stepping.{IsTurn, RunsOn, TakesTurn, finish_by}
use Rattle.dso_run.proofs.runs.ChosenOpen.{chosen_open}

-- a journal has no more entries than it weighs
long_weighs : (es : List Entry) → length es ≤ weight es
long_weighs [] = omega arith
long_weighs (e ∷ es) = let before : length es ≤ weight es = long_weighs es in omega arith

-- so one that is lighter than a budget is short
pub is_short : (world : World) → weight (entries_in world) < 4000000 → length world.journal.entries < 2 ^ 28
is_short world light =
    let long : length (entries_in world) ≤ weight (entries_in world) = long_weighs (entries_in world) in
    let same : length (entries_in world) ≡ length world.journal.entries = length-reverse world.journal.entries in
    omega (arith, light, long, same)

-- something is found in no empty list
some_found : {X : Type 0} (test : X → Bool) (xs : List X) → list_any test xs ≡ true → is_any xs ≡ true
some_found test [] is = cc is
some_found test (x ∷ xs) is = refl

module _ (program : Program) (seed : Option ℕ) where
  -- the chosen step makes an entry at the chosen slot
  pub turn_of : (made : Bool) (step : Step) (old new : World) → IsChosenStep program seed (Some step) old → IsStepped program step made old new → IsTurn program seed made old new
  turn_of true step old new chosen stepped = record {
    entry = stepped.1.entry;
    slot = slot_of step;
    added = ap reverse stepped.1.added ∙ reverse-append old.journal.entries (stepped.1.entry ∷ []);
    at = stepped.1.at;
    chosen = sym chosen.slot;
  }
  turn_of false step old new chosen stepped =
      let there = chosen_open (settings_of program) (next_request program.code) (entries_in old) seed (slot_of step) (sym chosen.slot) in
      let never : true ≡ false = sym there ∙ stepped.0 in absurd (cc never)

  -- so where memory sufficed, of a world that choosing left as it was
  pub turn_if_ok : (result : Result Bool NoMemory) (step : Step) (old same new : World) → same ≡ old → IsChosenStep program seed (Some step) old
      → IfOk result (λ made. IsStepped program step made same new) → IfOk result (λ made. IsTurn program seed made old new)
  turn_if_ok (Ok made) step old same new is chosen stepped =
      turn_of made step old new chosen (subst (λ world. IsStepped program step made world new) is stepped)
  turn_if_ok (Err e) step old same new is chosen stepped = stepped

  module _ (budget : ℕ) where
    -- before the first step
    pub begins : (world : World) → WorldStands program world → is_spent world ≡ false → world.journal.entries ≡ [] → RunsOn program seed budget world
    begins world stands whole empty = record {
      stands = stands;
      whole = whole;
      turns = subst (λ entries. TakesTurns (settings_of program) (next_request program.code) seed budget (reverse entries)) (sym empty) tt;
    }

    -- one step more
    pub goes_on : (old new : World) → RunsOn program seed budget old → is_finished (settings_of program) (entries_in old) ≡ false → weight (entries_in old) < budget
        → TakesTurn program seed old new → WorldStands program new → is_spent new ≡ false → RunsOn program seed budget new
    goes_on old new runs unfinished light turn stands whole =
        let there : is_any (open_slots (settings_of program) (next_request program.code) (entries_in old)) ≡ true
        = some_found _ _ (chosen_open (settings_of program) (next_request program.code) (entries_in old) seed turn.slot turn.chosen) in
        record {
          stands = stands;
          whole = whole;
          turns = subst (TakesTurns (settings_of program) (next_request program.code) seed budget) (sym turn.added)
              (runs.turns, record { unfinished = unfinished; light = light; unstuck = rw unfinished (rw there refl) }, turn.at ∙ sym turn.chosen);
        }

    -- so with the same journal
    pub still_runs : (old new : World) → RunsOn program seed budget old → journal_of new ≡ journal_of old → WorldStands program new → is_spent new ≡ false
        → RunsOn program seed budget new
    still_runs old new runs same stands whole = record {
      stands = stands;
      whole = whole;
      turns = subst (λ journal. TakesTurns (settings_of program) (next_request program.code) seed budget (reverse journal.entries)) (sym same) runs.turns;
    }

    module _ (sound : IsSoundProgram program) (world : World) (runs : RunsOn program seed budget world) where
      commits : CommitsLegally (settings_of program) (next_request program.code) (entries_in world)
      commits = central_law (settings_of program) (next_request program.code) (sound_program program.code sound.code) (entries_in world) runs.stands.lawful

      -- The run ends: it is finished,
      pub ends_finished : is_finished (settings_of program) (entries_in world) ≡ true
          → IsRunOf program (BySlots seed) budget (finish_by (is_faulty program.threads (entries_in world))) world.journal.entries
      ends_finished finished = by (is_faulty program.threads (entries_in world)) refl
        where
          by : (faulty : Bool) → is_faulty program.threads (entries_in world) ≡ faulty → IsRunOf program (BySlots seed) budget (finish_by faulty) world.journal.entries
          by true is = record { ended = record { run = record { lawful = runs.stands.lawful; made = runs.turns }; finished = finished; fault = is }; commits = commits }
          by false is = record { ended = record { run = record { lawful = runs.stands.lawful; made = runs.turns }; finished = finished; fault = is }; commits = commits }

      -- or stuck,
      pub ends_stuck : is_finished (settings_of program) (entries_in world) ≡ false → weight (entries_in world) < budget
          → open_slots (settings_of program) (next_request program.code) (entries_in world) ≡ [] → IsRunOf program (BySlots seed) budget Stuck world.journal.entries
      ends_stuck unfinished light none = record {
        ended = record { run = record { lawful = runs.stands.lawful; made = runs.turns }; light = light; stuck = rw unfinished (rw none refl) };
        commits = commits;
      }

      -- or out of its budget
      pub ends_over : is_finished (settings_of program) (entries_in world) ≡ false → budget ≤ weight (entries_in world) → IsRunOf program (BySlots seed) budget Budget world.journal.entries
      ends_over unfinished heavy = record {
        ended = record { run = record { lawful = runs.stands.lawful; made = runs.turns }; unfinished = unfinished; heavy = heavy };
        commits = commits;
      }

-- how the weight that is told, which is cut off, lies to a number of steps
pub light_by : (told total steps : ℕ) → told ≡ min total (2 ^ 64 - 1) → steps ≤ 4000000 → told < steps → total < steps
light_by told total steps is few light = omega (arith, is, few, light)

pub heavy_by : (told total steps : ℕ) → told ≡ min total (2 ^ 64 - 1) → steps ≤ told → steps ≤ total
heavy_by told total steps is heavy = omega (arith, is, heavy)

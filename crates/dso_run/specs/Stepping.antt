-- One more step of a run, by its schedule.
use Rattle.std.specs.Prelude.{ℕ, ◌≡◌, Bool, true, false, Option, Some, [], ◌∷◌}
use Rattle.dso_base.specs.declared.journal.Entry.{Entry}
use Rattle.dso_class.specs.declared.program.Program.{Program}
use Rattle.dso_legal.specs.Slots.{Slot, open_slots}
use Rattle.dso_machine.specs.Next.{next_request}
use Rattle.dso_world.specs.declared.world.World.{World}
use Rattle.dso_world.specs.ChosenSlot.{chosen_slot, slot_at}
use Rattle.dso_world.specs.WorldStands.{WorldStands, entries_in, is_spent}
use Rattle.dso_world.specs.WorldSteps.{settings_of}
use Rattle.dso_run.specs.declared.running.Outcome.{Outcome}
use Rattle.dso_run.specs.declared.running.Outcome.TheVariants.{Finished, FinishedFault}
use Rattle.dso_run.specs.RunEnds.{TakesTurns}

-- how a run that is finished ended, by whether a kept thread ended by a fault
abbrev pub finish_by : Bool → Outcome
finish_by false = Finished
finish_by true = FinishedFault

module _ (program : Program) (seed : Option ℕ) where
  -- an entry is made at the chosen slot
  pub record TakesTurn (old new : World) : Type 0 where
    pub entry : Entry
    pub slot : Slot
    pub added : entries_in new ≡ entry ∷ entries_in old
    pub at : slot_at entry.node entry.input ≡ Some slot
    pub chosen : chosen_slot (settings_of program) (next_request program.code) seed (entries_in old)
        ≡ Some slot

  -- what a step comes to: an entry at the chosen slot, or nothing, where no slot is open
  abbrev pub IsTurn : Bool → World → World → Type 0
  IsTurn true old new = TakesTurn old new
  IsTurn false old new =
      (open_slots (settings_of program) (next_request program.code) (entries_in old) ≡ []) × (new ≡ old)

  -- The world runs on: it is one of the program and isn't spent, and its journal was made by the schedule within the
  -- budget.
  pub record RunsOn (budget : ℕ) (world : World) : Type 0 where
    pub stands : WorldStands program world
    pub whole : is_spent world ≡ false
    pub turns : TakesTurns (settings_of program) (next_request program.code) seed budget (entries_in world)

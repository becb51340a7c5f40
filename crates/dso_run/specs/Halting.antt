-- How a run in threads halts. Entries stand with the newest first.
use Rattle.std.specs.Prelude.{ℕ, ◌≡◌, ◌≤◌, ◌<◌, Bool, true, false, List, reverse, Option}
use Rattle.dso_base.specs.declared.journal.Entry.{Entry}
use Rattle.dso_class.specs.declared.program.Program.{Program}
use Rattle.dso_host.specs.declared.cells.Cells.{Cells}
use Rattle.dso_host.specs.HostStates.{IsHostJournal, Stands}
use Rattle.dso_legal.specs.Slots.{is_any, is_finished, is_stuck, open_slots, weight}
use Rattle.dso_machine.specs.Next.{next_request}
use Rattle.dso_run.specs.Accepted.{settings_of}
use Rattle.dso_run.specs.declared.running.Outcome.{Outcome}
use Rattle.dso_run.specs.declared.running.Outcome.TheVariants as outcome
use Rattle.dso_run.specs.declared.threads.Halt.{Halt}
use Rattle.dso_run.specs.declared.threads.Halt.TheVariants.{Finished, Stuck, Budget}
use Rattle.dso_run.specs.Stepping.{finish_by}

-- how a run ended that halted, by whether a kept thread ended by a fault
abbrev pub outcome_by : Halt → Bool → Outcome
outcome_by Finished faulty = finish_by faulty
outcome_by Stuck faulty = outcome.Stuck
outcome_by Budget faulty = outcome.Budget

module _ (program : Program) where
  -- where a run in threads halts: it is finished; or stuck, within its budget; or out of its budget, and not finished
  abbrev pub IsHalted : ℕ → Halt → List Entry → Type 0
  IsHalted budget Finished es = is_finished (settings_of program) es ≡ true
  IsHalted budget Stuck es =
      (weight es < budget) × (is_stuck (settings_of program) (next_request program.code) es ≡ true)
  IsHalted budget Budget es = (is_finished (settings_of program) es ≡ false) × (budget ≤ weight es)

  -- A host between two epochs: it stands, and where the last one answered that no slot is open, none is.
  pub record GoesByEpochs (is_open : Bool) (host : Option Cells) : Type 0 where
    pub stands : Stands program host
    pub closed : is_open ≡ false → (entries : List Entry) → IsHostJournal program host entries
        → is_any (open_slots (settings_of program) (next_request program.code) (reverse entries)) ≡ false

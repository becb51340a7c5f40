-- What was written of a text, and what is answered then.
use Rattle.std.specs.Prelude.{◌≡◌, ◌⊎◌, ℕ, List, [], Option, Some}
use Rattle.dso_class.specs.declared.program.Program.{Program}
use Rattle.dso_run.specs.declared.running.Run.{Run}
use Rattle.dso_run.specs.declared.running.Outcome.{Outcome}
use Rattle.dso_run.specs.declared.running.Outcome.TheVariants as outcome
use Rattle.dso_run.specs.declared.status.Status.{Status}
use Rattle.dso_run.specs.declared.status.Status.TheVariants.{Finished, FinishedFault, WriteFault, Stuck, Budget}
use Rattle.dso_run.specs.declared.status.Status.TheVariants.{NoMemory}
use Rattle.dso_io.specs.Environment.{Told, Rose, taken_after, TookPrefix}
use Rattle.dso_run.specs.Files.{AreAsBefore}
use Rattle.dso_run.specs.Headline.{CallInput, CallOutput, IsAccepted, IsKept, IsRunOf, IsRunText, StatusMeans}
use Rattle.dso_run.specs.Headline.{making_of}
use Rattle.dso_run.specs.Swept.{CountsSwept}
use Rattle.dso_command_line.specs.Words.{Command, collect_of, journal_of, steps_of}

-- The sink took the whole text, its count of faults is as before and the answer is this status; or it took a prefix and
-- counted a fault, and the answer is WriteFault.
abbrev pub Wrote : Option (List ℕ) → Option (List ℕ) → ℕ → ℕ → List ℕ → Status → Status → Type 0
Wrote before now faults_before faults_now text status answer =
    ((answer ≡ status) × (now ≡ taken_after before text) × (faults_now ≡ faults_before))
    ⊎ ((answer ≡ WriteFault) × TookPrefix before text now × Rose faults_before faults_now)

-- The run is one of this program that was made as the command asks, and its collections swept so many objects.
pub record IsRunFor (command : Command) (p : Program) (run : Run) : Type 0 where
  pub made : IsRunOf p (making_of command) (steps_of command) run.outcome run.journal.entries
  pub swept : CountsSwept p (collect_of command) run.journal.entries run.swept

-- For a command, its program, what is told of the files before the run, and what the run leaves:
module _ (command : Command) (p : Program) (before : List ℕ → Told) (output : CallOutput) where
  -- a run was made, as the command asks, that ended so
  abbrev pub Ran : Outcome → Type 0
  Ran outcome = IsRunOf p (making_of command) (steps_of command) outcome output.journal

  -- the run ended so, its journal is kept, what is told of it was written whole, and nothing failed in writing
  abbrev pub ToldWhole : Outcome → Type 0
  ToldWhole outcome =
      Ran outcome × IsKept command output.journal before output.content
      × ((text : List ℕ) × IsRunText command p output.journal text
      × (output.sink_after ≡ taken_after output.sink_before text))
      × (output.failed_after ≡ output.failed_before) × (output.writes_after ≡ output.writes_before)

  -- the run ended in one of the four ways, its journal is kept, and a prefix of what is told of it was written
  abbrev pub ToldPrefix : Type 0
  ToldPrefix =
      ((outcome : Outcome) × Ran outcome) × IsKept command output.journal before output.content
      × ((text : List ℕ) × IsRunText command p output.journal text × TookPrefix output.sink_before text
      output.sink_after)
      × Rose output.failed_before output.failed_after

  -- the run ended in one of the four ways, and its journal couldn't be kept
  abbrev pub KeptNot : Type 0
  KeptNot =
      ((outcome : Outcome) × Ran outcome) × ((file : List ℕ) × (journal_of command ≡ Some file))
      × AreAsBefore before output.content × (output.sink_after ≡ output.sink_before)
      × Rose output.writes_before output.writes_after

  -- What is told of a run was written: whole, with the run's outcome for an answer, or a prefix; or its journal
  -- couldn't be kept; or memory ran out before.
  abbrev pub ToldRun : Status → Type 0
  ToldRun NoMemory =
      (output.sink_after ≡ output.sink_before) × AreAsBefore before output.content × (output.journal ≡ [])
  ToldRun WriteFault = ToldPrefix ⊎ KeptNot
  ToldRun Finished = ToldWhole outcome.Finished
  ToldRun FinishedFault = ToldWhole outcome.FinishedFault
  ToldRun Stuck = ToldWhole outcome.Stuck
  ToldRun Budget = ToldWhole outcome.Budget
  ToldRun answer = ⊥

  -- Where a call accepted the program for the command, over files that were as they are before what is left: the status
  -- means what it is to mean.
  abbrev pub MeansFor : Status → Type 0
  MeansFor status = (input : CallInput) → IsAccepted input command p → AreAsBefore input.content before
      → StatusMeans input output status

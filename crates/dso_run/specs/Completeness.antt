-- That no status stands without its cause: where nothing failed, the words and the bytes that were read decide.
use Rattle.std.specs.Prelude.{ℕ, List}
use Rattle.dso_class.specs.declared.program.Program.{Program}
use Rattle.dso_config.specs.declared.fault.ConfigFault.{ConfigFault}
use Rattle.dso_io.specs.Environment.{Rose}
use Rattle.dso_run.specs.declared.running.Outcome.{Outcome}
use Rattle.dso_run.specs.declared.running.Outcome.TheVariants as outcome
use Rattle.dso_run.specs.declared.status.ProgramFault.{ProgramFault}
use Rattle.dso_run.specs.declared.status.Status.{Status}
use Rattle.dso_run.specs.declared.status.Status.TheVariants.{Finished, FinishedFault, Usage, BadConfig, BadProgram}
use Rattle.dso_run.specs.declared.status.Status.TheVariants.{ReadFault, WriteFault, Stuck, Budget, NoMemory}
use Rattle.dso_run.specs.declared.status.Status.TheVariants.{StoreFault, StoreInUse, BadStore, Shown, LintYes, LintNo}
use Rattle.dso_lint.specs.declared.answer.Lint.TheVariants as lint
use Rattle.dso_run.specs.Accepted.{AreTaken, IsConfigRefusal, IsProgramRefusal}
use Rattle.dso_run.specs.Headline.{CallInput, CallOutput, HasRunOf, IsConfigRefused, IsProgramRefused, RoseOf}
use Rattle.dso_run.specs.Headline.{IsGraphDue, IsStoreBad, IsStoreInUse, IsVerdictDue, StatusMeans, WereRead}
use Rattle.dso_command_line.specs.Words.{AreLawful, AreUnlawful, Command}

module _ (input : CallInput) (output : CallOutput) where
  -- No count of faults rose in the call.
  pub record NothingFailed : Type 0 where
    pub all_read : (name : List ℕ) → RoseOf input.failed_before input.failed_after name → ⊥
    pub all_written : Rose output.failed_before output.failed_after → ⊥
    pub all_kept : Rose output.writes_before output.writes_after → ⊥
    pub all_stored : Rose output.disk.faults_before output.disk.faults_after → ⊥

  -- The bytes that were read are a program, and a run of it ended so.
  pub record RanTo (outcome : Outcome) : Type 0 where
    pub command : Command
    pub program : Program
    pub run : HasRunOf input output command program outcome

  -- why a call answers so where nothing failed: the words are unlawful; the bytes of the configuration that were read
  -- fail, or those of the program; a run ended so; the file of a store has more than one byte, or an open gate that no
  -- record follows; a store's graph was due, or the lock checker's answer; or memory ran out
  abbrev pub IsDecided : Status → Type 0
  IsDecided Usage = AreUnlawful input.words
  IsDecided (BadConfig fault) = IsConfigRefused input fault
  IsDecided (BadProgram fault) = IsProgramRefused input fault
  IsDecided Finished = RanTo outcome.Finished
  IsDecided FinishedFault = RanTo outcome.FinishedFault
  IsDecided Stuck = RanTo outcome.Stuck
  IsDecided Budget = RanTo outcome.Budget
  IsDecided StoreInUse = IsStoreInUse input output
  IsDecided (BadStore place) = IsStoreBad input output place
  IsDecided Shown = (text : List ℕ) × IsGraphDue input output text
  IsDecided LintYes = (text : List ℕ) × IsVerdictDue input output lint.Yes text
  IsDecided (LintNo place why) = (text : List ℕ) × IsVerdictDue input output (lint.No place why) text
  IsDecided NoMemory = Unit {0}
  IsDecided ReadFault = ⊥
  IsDecided WriteFault = ⊥
  IsDecided StoreFault = ⊥

-- Completeness: where nothing failed, each status but NoMemory is decided by the words and by the bytes that were read.
abbrev pub Completeness : Type 0
Completeness = (input : CallInput) (output : CallOutput) (status : Status) → NothingFailed input output
    → StatusMeans input output status → IsDecided input output status

-- And those bytes decide for one thing: texts that are taken as a program are not refused.
abbrev pub TakenIsNotRefused : Type 0
TakenIsNotRefused = (config program : List ℕ) (p : Program) → AreTaken config program p
    → ((fault : ConfigFault) → IsConfigRefusal config program fault → ⊥)
    × ((fault : ProgramFault) → IsProgramRefusal config program fault → ⊥)

-- The words ask for a run, for a store's graph, or for the lock checker's answer; what is given for the two texts is
-- only what is taken; no store is in use that a run is to have, and none is bad that is to be shown; and no count of
-- faults rises.
pub record MayRun (input : CallInput) (output : CallOutput) : Type 0 where
  pub command : Command
  pub words : AreLawful input.words command
  pub taken : (config program : List ℕ) → WereRead input command config program
      → (p : Program) × AreTaken config program p
  pub unused : IsStoreInUse input output → ⊥
  pub good : (place : ℕ) → IsStoreBad input output place → ⊥
  pub sound : NothingFailed input output

-- the status is that of a run that ended, of a store that was shown, or of an answer of the lock checker, or memory ran
-- out
abbrev pub IsOfRun : Status → Type 0
IsOfRun Finished = Unit {0}
IsOfRun FinishedFault = Unit {0}
IsOfRun Stuck = Unit {0}
IsOfRun Budget = Unit {0}
IsOfRun Shown = Unit {0}
IsOfRun LintYes = Unit {0}
IsOfRun (LintNo place why) = Unit {0}
IsOfRun NoMemory = Unit {0}
IsOfRun status = ⊥

-- So a call that may run has no other status than those of runs, of what was shown, of the lock checker, and NoMemory.
abbrev pub MayRunRuns : Type 0
MayRunRuns = (input : CallInput) (output : CallOutput) (status : Status) → MayRun input output
    → StatusMeans input output status → IsOfRun status

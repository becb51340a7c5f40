-- What a crash leaves of a store, in one place: of any call whose words name one for a run.
use Rattle.std.specs.Prelude.{ℕ, ◌≡◌, ◌≢◌, ◌⊎◌, ◌≤◌, List, [], length, Some, reverse}
use Rattle.std.specs.Option.{IfSome}
use Rattle.dso_class.specs.declared.program.Program.{Program}
use Rattle.dso_command_line.specs.Words.{AreLawful, Command, store_of}
use Rattle.dso_io.specs.Environment.{Rose}
use Rattle.dso_keep.specs.Crash.{CrashLeaves}
use Rattle.dso_kept.specs.Keeping.{IsStoreOf, ReopensFirst, applied}
use Rattle.dso_run.specs.declared.status.Status.{Status}
use Rattle.dso_run.specs.declared.status.Status.TheVariants.{Finished, FinishedFault, Stuck, Budget, NoMemory}
use Rattle.dso_run.specs.declared.status.Status.TheVariants.{WriteFault}
use Rattle.dso_run.specs.Headline.{CallInput, CallOutput, IsAccepted, StatusMeans}
use Rattle.dso_run.specs.Stores.{CallDisk, file_taken}

-- the status is that of a run that ended, or of a call whose disk didn't fail and whose text couldn't be written
abbrev pub HasAll : Status → CallDisk → Type 0
HasAll Finished disk = Unit {0}
HasAll FinishedFault disk = Unit {0}
HasAll Stuck disk = Unit {0}
HasAll Budget disk = Unit {0}
HasAll WriteFault disk = Rose disk.faults_before disk.faults_after → ⊥
HasAll status disk = ⊥

module _ (input : CallInput) (output : CallOutput) (status : Status) where
  -- nothing was done to the disk, and no run was made but one of which nothing is due
  pub record LeftAlone : Type 0 where
    pub file : output.disk.after ≡ output.disk.before
    pub none : HasAll status output.disk → output.journal ≡ []

  -- A program was accepted; since the store's file was taken a crash at any moment leaves some of the first records
  -- that the journal's server applied, and after a run that ended all of them.
  pub record HasKept (command : Command) (name : List ℕ) : Type 0 where
    pub program : Program
    pub accepted : IsAccepted input command program
    pub crash : CrashLeaves (ReopensFirst program.code.shape (applied (reverse output.journal)))
        (file_taken name output.disk) output.disk.after
    pub whole : HasAll status output.disk
        → IsStoreOf program.code.shape (applied (reverse output.journal)) output.disk.after

-- What a store is left as, where it was to be made in a file of at most one byte and memory didn't run out.
abbrev pub RecordsAreKept : Type 0
RecordsAreKept = (input : CallInput) (output : CallOutput) (status : Status) → StatusMeans input output status
    → status ≢ NoMemory → (command : Command) (name : List ℕ) → AreLawful input.words command
    → store_of command ≡ Some name → length (output.disk.found name) ≤ 1
    → LeftAlone input output status ⊎ HasKept input output status command name

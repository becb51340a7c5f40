-- What a call makes of its disk: the store of a run, and a store that is shown. Entries stand with the newest first,
-- records with the first of them first.
use Rattle.std.specs.Prelude.{◌≡◌, ◌⊎◌, ℕ, ◌≤◌, List, length, Option, Some, None}
use Rattle.std.specs.Option.{IfSome}
use Rattle.dso_base.specs.declared.record.Txn.{Txn}
use Rattle.dso_base.specs.declared.shape.Shape.{Shape}
use Rattle.dso_command_line.specs.Words.{Command, Sim, Show}
use Rattle.dso_keep.specs.Crash.{CrashLeaves}
use Rattle.dso_keep.specs.Disk.{File, Attached, changed}
use Rattle.dso_kept.specs.Keeping.{IsStoreOf, ReopensFirst}

-- A disk in a call: how many of its calls had failed before, and how many have after; the bytes of the file of each
-- name, as they were before; and the file that it has, where it is told, before and after.
pub record CallDisk : Type 0 where
  pub faults_before : ℕ
  pub faults_after : ℕ
  pub found : List ℕ → List ℕ
  pub before : Option File
  pub after : Option File

-- a disk in a call, by its own words, as it was before the call and is after it
abbrev pub disk_by : {D : Type 0} → (D → ℕ) → (D → List ℕ → List ℕ) → (D → Option File) → D → D → CallDisk
disk_by faults found file before after = record {
  faults_before = faults before;
  faults_after = faults after;
  found = found before;
  before = file before;
  after = file after;
}

-- Nothing was done to its file, and no call of it failed.
pub record IsUntouched (disk : CallDisk) : Type 0 where
  pub file : disk.after ≡ disk.before
  pub sound : disk.faults_after ≡ disk.faults_before

-- the file of a name, taken, with nothing done to it since
abbrev pub file_taken : List ℕ → CallDisk → Option File
file_taken name disk = changed (Attached (disk.found name)) disk.before

-- the file of a name was taken, and nothing was written to it
abbrev pub WasTaken : List ℕ → CallDisk → Type 0
WasTaken name disk = disk.after ≡ file_taken name disk

-- nothing was written: the file of a name was taken at most
abbrev pub IsUnwritten : List ℕ → CallDisk → Type 0
IsUnwritten name disk = (disk.after ≡ disk.before) ⊎ WasTaken name disk

-- nothing was done, or the file of a name was taken, and a crash at any moment since leaves only what has P
abbrev pub SinceTaken : (List ℕ → Type 0) → List ℕ → CallDisk → Type 0
SinceTaken P name disk = (disk.after ≡ disk.before) ⊎ CrashLeaves P (file_taken name disk) disk.after

-- The store of a run that ended: its file had at most one byte when it was taken; a crash at any moment since leaves
-- some of the first of the records, and now all of them; and no call of the disk failed.
pub record IsStored (name : List ℕ) (shape : Shape) (records : List (ℕ × Txn)) (disk : CallDisk) : Type 0 where
  pub short : IfSome disk.before (λ file. length (disk.found name) ≤ 1)
  pub crash : CrashLeaves (ReopensFirst shape records) (file_taken name disk) disk.after
  pub whole : IsStoreOf shape records disk.after
  pub sound : disk.faults_after ≡ disk.faults_before

-- what a run that ended makes of its disk: the store that is named has its records, and where none is named nothing was
-- done
abbrev pub KeepsRecords : Option (List ℕ) → Shape → List (ℕ × Txn) → CallDisk → Type 0
KeepsRecords None shape records disk = IsUntouched disk
KeepsRecords (Some name) shape records disk = IsStored name shape records disk

-- the file of a store that a command names: `sim` may, for its run, and `show` does
abbrev pub file_named : Command → Option (List ℕ)
file_named (Sim call) = call.store
file_named (Show call) = Some call.store
file_named command = None

-- What becomes of a store's file that is taken for a run, or to be shown.
use Rattle.std.specs.Prelude.{ℕ, ◌≡◌, ◌<◌, ◌≤◌, List, [], length}
use Rattle.std.specs.Option.{IfSome}
use Rattle.dso_base.specs.declared.shape.Shape.{Shape}
use Rattle.dso_io.specs.Environment.{Rose}
use Rattle.dso_keep.specs.Crash.{CrashLeaves}
use Rattle.dso_keep.specs.Records.{HoldsRecords, IsBadAt}
use Rattle.dso_run.specs.declared.status.Refusal.{Refusal}
use Rattle.dso_run.specs.declared.status.Refusal.TheVariants.{Store, InUse, BadStore}
use Rattle.dso_run.specs.Stores.{CallDisk, IsUnwritten, SinceTaken, WasTaken, file_taken}

-- The store was made: its file had at most one byte, a crash at any moment since it was taken leaves no record, and no
-- call of the disk failed.
pub record IsOpened (name : List ℕ) (disk : CallDisk) : Type 0 where
  pub short : IfSome disk.before (λ file. length (disk.found name) ≤ 1)
  pub crash : CrashLeaves (λ left. HoldsRecords left []) (file_taken name disk) disk.after
  pub sound : disk.faults_after ≡ disk.faults_before

-- The disk failed before there was a store: a crash leaves no record where the file had at most one byte.
pub record IsOpenFault (name : List ℕ) (disk : CallDisk) : Type 0 where
  pub failed : Rose disk.faults_before disk.faults_after
  pub crash : length (disk.found name) ≤ 1 → SinceTaken (λ left. HoldsRecords left []) name disk

-- The file has more than one byte, and was not written to.
pub record IsTooLong (name : List ℕ) (disk : CallDisk) : Type 0 where
  pub long : IfSome disk.before (λ file. 1 < length (disk.found name))
  pub taken : WasTaken name disk

-- why no store was made
abbrev pub IsOpenRefused : List ℕ → CallDisk → Refusal → Type 0
IsOpenRefused name disk Store = IsOpenFault name disk
IsOpenRefused name disk InUse = IsTooLong name disk
IsOpenRefused name disk refusal = ⊥

-- The disk failed while the file was read.
pub record IsReadFault (name : List ℕ) (disk : CallDisk) : Type 0 where
  pub failed : Rose disk.faults_before disk.faults_after
  pub unwritten : IsUnwritten name disk

-- An open gate at this place of the file is followed by no whole record that fits, and it was not written to.
pub record IsBad (name : List ℕ) (shape : Shape) (place : ℕ) (disk : CallDisk) : Type 0 where
  pub bad : IfSome disk.before (λ file. IsBadAt shape (disk.found name) place)
  pub taken : WasTaken name disk

-- why no store was read
abbrev pub IsShowRefused : List ℕ → Shape → CallDisk → Refusal → Type 0
IsShowRefused name shape disk Store = IsReadFault name disk
IsShowRefused name shape disk (BadStore place) = IsBad name shape place disk
IsShowRefused name shape disk refusal = ⊥

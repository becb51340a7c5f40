-- Of which records a keep is, and over which file; and what the calls of a store refuse by.
use Rattle.std.specs.Prelude.{◌≡◌, ◌⊎◌, ℕ, ◌<◌, List, [], ◌∷◌, ◌++◌, length, Option}
use Rattle.std.specs.Option.{IfSome}
use Rattle.std.specs.List.{AllByRecursion}
use Rattle.dso_base.specs.declared.record.Txn.{Txn}
use Rattle.dso_base.specs.declared.shape.Shape.{Shape}
use Rattle.dso_keep.specs.Disk.{File, bytes_in}
use Rattle.dso_keep.specs.Packets.{IsKept, file_of, gated}
use Rattle.dso_keep.specs.Records.{HasPacket, HoldsRecords, Reopens, packets_of}
use Rattle.dso_keep.specs.declared.keep.Keep.{Keep}
use Rattle.dso_keep.specs.declared.fault.KeepFault.{KeepFault}
use Rattle.dso_keep.specs.declared.fault.KeepFault.TheVariants as fault

-- the place of the next gate
abbrev pub gate_of : Keep → ℕ
gate_of keep = keep.gate

-- A keep of these records: its next gate is the last byte of the file, which is that of the records, with no write
-- pending.
pub record KeepStands (records : List (ℕ × Txn)) (keep : Keep) (file : Option File) : Type 0 where
  pub grammar : AllByRecursion HasPacket records
  pub gate : gate_of keep ≡ length (gated (packets_of records))
  pub kept : IsKept (file_of (packets_of records)) file

-- the file has the records, or these and the one more
abbrev pub HoldsOldOrNew : List (ℕ × Txn) → ℕ × Txn → List ℕ → Type 0
HoldsOldOrNew records new left = HoldsRecords left records ⊎ HoldsRecords left (records ++ new ∷ [])

-- reopening the file gives the records, or these and the one more
abbrev pub ReopensOldOrNew : Shape → List (ℕ × Txn) → ℕ × Txn → List ℕ → Type 0
ReopensOldOrNew shape records new left = Reopens shape left records ⊎ Reopens shape left (records ++ new ∷ [])

-- the file has so many bytes, more than one, and nothing was done to it
abbrev pub IsInUse : ℕ → Option File → Option File → Type 0
IsInUse count old new = (1 < count) × IfSome old (λ f. count ≡ length (bytes_in f)) × (new ≡ old)

-- what `create` refuses by
abbrev pub RefusesCreate : KeepFault → Type 0
RefusesCreate (fault.NotEmpty count) = Unit {0}
RefusesCreate fault.Disk = Unit {0}
RefusesCreate other = ⊥

-- the disk failed, or memory ran out: what `append` refuses by
abbrev pub IsFromOutside : KeepFault → Type 0
IsFromOutside fault.Disk = Unit {0}
IsFromOutside (fault.NoMemory refused) = Unit {0}
IsFromOutside other = ⊥

-- what `reopen` refuses by
abbrev pub RefusesReopen : KeepFault → Type 0
RefusesReopen (fault.BadRecord place) = Unit {0}
RefusesReopen fault.Disk = Unit {0}
RefusesReopen (fault.NoMemory refused) = Unit {0}
RefusesReopen other = ⊥

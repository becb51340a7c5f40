-- A disk in memory, as contracts see it.
use Rattle.std.specs.Prelude.{◌≡◌, ℕ, suc, ◌+◌, ◌-◌, ◌||◌, Bool, true, false, nat_le, nat_lt, List, ◌∷◌, ◌++◌, drop}
use Rattle.std.specs.Prelude.{Option, Some, None, Result, Ok, Err, if◌then◌else◌}
use Rattle.dso_io.specs.Environment.{counted}
use Rattle.dso_io.specs.declared.environment.FileFault.{FileFault}
use Rattle.dso_io.specs.declared.environment.FileFault.TheVariants.{Failed, NoMemory}
use Rattle.dso_keep.specs.Disk.{Change, File, Wrote, bytes_after}

-- The disk: its file, how many bytes were written, the number of the first call that is to fail, how many calls and how
-- many bytes written there may be, how many calls there were, and how many failed.
pub record MemoryDisk : Type 0 where
  pub file : File
  pub written : ℕ
  pub stop : Option ℕ
  pub most_calls : ℕ
  pub most_bytes : ℕ
  pub calls : ℕ
  pub failed : ℕ

-- whether a call of this number is the one that is to fail, or later
abbrev pub is_stopped : Option ℕ → ℕ → Bool
is_stopped None number = false
is_stopped (Some stop) number = nat_le stop number

-- whether the call counted last, which is to write so many bytes, fails: it was to, or there is no room for it or for
-- its bytes
abbrev pub fails_call : MemoryDisk → ℕ → Bool
fails_call disk count = is_stopped disk.stop disk.calls
    || (nat_lt disk.most_calls disk.calls || nat_lt disk.most_bytes (disk.written + count))

-- whether the next call does
abbrev pub fails_next : MemoryDisk → ℕ → Bool
fails_next disk count = fails_call (record disk { calls = counted disk.calls }) count

-- the disk once a call was counted that failed
abbrev pub failed_call : MemoryDisk → MemoryDisk
failed_call disk = record disk { calls = counted disk.calls; failed = counted disk.failed }

-- the disk once a call was counted that wrote so many bytes and did this
abbrev pub done_call : MemoryDisk → ℕ → List Change → MemoryDisk
done_call disk count did = record disk {
  calls = counted disk.calls;
  written = disk.written + count;
  file = record disk.file { changes = did ++ disk.file.changes };
}

-- the disk after a call that is to write so many bytes and to do this: one that fails does nothing
abbrev pub after_call : MemoryDisk → ℕ → List Change → MemoryDisk
after_call disk count did = if fails_next disk count then failed_call disk else done_call disk count did

-- a call fails exactly where this says so
abbrev pub IsFailing : {A F : Type 0} → Bool → Result A F → Type 0
IsFailing fails (Ok answer) = fails ≡ false
IsFailing fails (Err fault) = fails ≡ true

-- so does a read, which may also lack memory
abbrev pub IsReadFailing : {A : Type 0} → Bool → Result A FileFault → Type 0
IsReadFailing fails (Ok answer) = fails ≡ false
IsReadFailing fails (Err Failed) = fails ≡ true
IsReadFailing fails (Err (NoMemory refused)) = fails ≡ false

-- how many writes are pending: those since the file was last taken or synced
abbrev pub count_pending : List Change → ℕ
count_pending (Wrote at bytes ∷ changes) = suc (count_pending changes)
count_pending changes = 0

-- the file with the first so many of the pending writes alone
abbrev pub image_of : ℕ → File → List ℕ
image_of kept file = bytes_after file.first (drop (count_pending file.changes - kept) file.changes)

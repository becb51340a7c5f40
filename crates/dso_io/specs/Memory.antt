-- Files and a sink in memory, as contracts see them.
use Rattle.std.specs.Prelude.{◌≡◌, ℕ, ◌-◌, min, Bool, true, false, ◌&&◌, ◌||◌, nat_eq, nat_lt}
use Rattle.std.specs.Prelude.{List, [], ◌∷◌, ◌++◌, length, take}
use Rattle.std.specs.Prelude.{Option, Some, None, Result, Ok, Err, if◌then◌else◌}
use Rattle.std.specs.List.{list_any}
use Rattle.std.specs.Str.{bytes_eq}
use Rattle.dso_io.specs.declared.environment.Failed.{Failed}
use Rattle.dso_io.specs.declared.environment.FileFault.{FileFault}
use Rattle.dso_io.specs.Environment.{Told, Untold, Missing, Holds, counted, faults_after, noted_after}

-- The sink: what it took, how much it takes at once and in all, the numbers of the calls that are to fail, how many
-- calls there were, and how many failed.
pub record MemorySink : Type 0 where
  pub bytes : List ℕ
  pub piece : ℕ
  pub most : ℕ
  pub fails : List ℕ
  pub calls : ℕ
  pub failed : ℕ

-- how many of so many bytes it takes: what the piece and the room left allow
abbrev pub room_for : MemorySink → ℕ → ℕ
room_for sink count = min count (min sink.piece (sink.most - length sink.bytes))

-- whether the next call, after so many, is one of those that are to fail
abbrev pub is_next_listed : List ℕ → ℕ → Bool
is_next_listed fails calls = list_any (λ number. nat_eq number (counted calls)) fails

-- whether a put of these bytes fails: its call is listed, or there are bytes and room for none
abbrev pub fails_put : MemorySink → List ℕ → Bool
fails_put sink bytes =
    is_next_listed sink.fails sink.calls || (nat_eq (room_for sink (length bytes)) 0 && nat_lt 0 (length bytes))

-- the sink after a put of these bytes: the call is counted; a fault is counted too, or what there is room for is taken
abbrev pub after_put : MemorySink → List ℕ → MemorySink
after_put sink bytes =
    if fails_put sink bytes
    then record sink { calls = counted sink.calls; failed = counted sink.failed }
    else record sink { calls = counted sink.calls; bytes = sink.bytes ++ take (room_for sink (length bytes)) bytes }

-- a put of these bytes is answered so: it fails, or takes what there is room for
abbrev pub AnswersWrite : MemorySink → List ℕ → Result ℕ Failed → Type 0
AnswersWrite sink bytes (Ok count) = (fails_put sink bytes ≡ false) × (count ≡ room_for sink (length bytes))
AnswersWrite sink bytes (Err fault) = fails_put sink bytes ≡ true

-- what is told of a put: all of it
abbrev pub IsPut : MemorySink → List ℕ → Result ℕ Failed → MemorySink → Type 0
IsPut sink bytes answer next = AnswersWrite sink bytes answer × (next ≡ after_put sink bytes)

-- The files: names with bytes, the one written last first; the numbers of the calls that are to fail, and how many
-- calls there were; the names of the files whose reads failed, the latest first, and how many writes failed.
pub record MemoryFiles : Type 0 where
  pub kept : List (List ℕ × List ℕ)
  pub fails : List ℕ
  pub calls : ℕ
  pub failed_reads : List (List ℕ)
  pub failed_writes : ℕ

-- the file of a name: the first that is kept under it
abbrev pub file_of : List (List ℕ × List ℕ) → List ℕ → Told
file_of [] name = Missing
file_of (file ∷ files) name = if bytes_eq file.0 name then Holds file.1 else file_of files name

-- the file of a name, as the files in memory tell it
abbrev pub told_by : MemoryFiles → List ℕ → Told
told_by files name = file_of files.kept name

-- the first bytes of a file, at most so many, None where no bytes are told
abbrev pub first_bytes : Told → ℕ → Option (List ℕ)
first_bytes Untold most = None
first_bytes Missing most = None
first_bytes (Holds bytes) most = Some (take most bytes)

-- what a read gives, None where it fails: its call is listed, or there is no file of that name
abbrev pub bytes_read : MemoryFiles → List ℕ → ℕ → Option (List ℕ)
bytes_read files name most =
    if is_next_listed files.fails files.calls then None else first_bytes (told_by files name) most

-- the files once a call was counted
abbrev pub called : MemoryFiles → MemoryFiles
called files = record files { calls = counted files.calls }

-- the files after a read of this name that answered so: the call is counted, and a fault is noted where it is answered
abbrev pub after_read : {A : Type 0} → MemoryFiles → List ℕ → Result A FileFault → MemoryFiles
after_read files name answer = record (called files) { failed_reads = noted_after files.failed_reads name answer }

-- the files kept once these bytes were written under this name, with this answer
abbrev pub kept_after : {A : Type 0} → List (List ℕ × List ℕ) → List ℕ → List ℕ → Result A FileFault
    → List (List ℕ × List ℕ)
kept_after kept name bytes (Ok answer) = (name, bytes) ∷ kept
kept_after kept name bytes (Err fault) = kept

-- the files after a write that answered so: the call is counted, and the bytes are kept, or a fault is counted where it
-- is answered
abbrev pub after_write : {A : Type 0} → MemoryFiles → List ℕ → List ℕ → Result A FileFault → MemoryFiles
after_write files name bytes answer = record (called files) {
  kept = kept_after files.kept name bytes answer;
  failed_writes = faults_after files.failed_writes answer;
}

-- Files and a sink as the program sees them: what is told of their bytes, and their counts of faults.
use Rattle.std.specs.Prelude.{◌≡◌, ℕ, ◌++◌, ◌+◌, ◌-◌, ◌<◌, ◌≤◌, ◌^◌, ◌⊎◌, min, count_by}
use Rattle.std.specs.Prelude.{List, ◌∷◌, length, take, Option, None, Result, Ok, Err}
use Rattle.std.specs.Option.{option_map}
use Rattle.std.specs.Str.{bytes_eq}
use Rattle.dso_io.specs.declared.environment.FileFault.{FileFault}
use Rattle.dso_io.specs.declared.environment.FileFault.TheVariants.{Failed, NoMemory}

-- What is told of a file: nothing, that there is none of that name, or its bytes.
pub data Told : Type 0 where
  Untold : Told
  Missing : Told
  Holds : List ℕ → Told

-- what a read of at most so many bytes may give
abbrev pub MayGive : Told → ℕ → List ℕ → Type 0
MayGive Untold most bytes = length bytes ≤ most
MayGive Missing most bytes = ⊥
MayGive (Holds content) most bytes = bytes ≡ take most content

-- what is told of a file once these bytes have replaced it
abbrev pub replaced : Told → List ℕ → Told
replaced Untold bytes = Untold
replaced Missing bytes = Holds bytes
replaced (Holds content) bytes = Holds bytes

-- A count of faults rose: it is greater than before, or stands at its last value.
abbrev pub Rose : ℕ → ℕ → Type 0
Rose before now = (before < now) ⊎ (2 ^ 64 - 1 ≤ now)

-- a count with one more, which stops at its last value
abbrev pub counted : ℕ → ℕ
counted count = min (count + 1) (2 ^ 64 - 1)

-- a count of faults after a call that answered so: a fault is counted where it is told, and nowhere else
abbrev pub faults_after : {A : Type 0} → ℕ → Result A FileFault → ℕ
faults_after faults (Ok answer) = faults
faults_after faults (Err Failed) = counted faults
faults_after faults (Err (NoMemory refusal)) = faults

-- the names of the files whose reads failed, after a read of this name that answered so: the latest comes first
abbrev pub noted_after : {A : Type 0} → List (List ℕ) → List ℕ → Result A FileFault → List (List ℕ)
noted_after names name (Ok answer) = names
noted_after names name (Err Failed) = name ∷ names
noted_after names name (Err (NoMemory refusal)) = names

-- how many of these failed reads were of the file of this name
abbrev pub faults_of : List (List ℕ) → List ℕ → ℕ
faults_of names name = count_by (λ failed. bytes_eq failed name) names

-- what is told of a sink that doesn't tell what it took
abbrev pub nothing_told : Option (List ℕ)
nothing_told = None

-- the bytes that a sink has taken once it has taken these too, where they are told
abbrev pub taken_after : Option (List ℕ) → List ℕ → Option (List ℕ)
taken_after taken bytes = option_map (λ before. before ++ bytes) taken

-- the sink took a prefix of the text, maybe nothing and maybe all of it
abbrev pub TookPrefix : Option (List ℕ) → List ℕ → Option (List ℕ) → Type 0
TookPrefix before text now = (n : ℕ) × (now ≡ taken_after before (take n text))

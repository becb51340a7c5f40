-- What decoding answers: by reading, and by the grammar alone.
use Rattle.std.specs.Prelude.{◌≡◌, ◌≢◌, ◌⊎◌, ◌-◌, ℕ, suc, List, [], ◌∷◌, ◌++◌, length, Result, Ok, Err}
use Rattle.dso_base.specs.declared.no_memory.NoMemory.{NoMemory}
use Rattle.dso_wire.specs.declared.fault.WireFault.{WireFault}
use Rattle.dso_wire.specs.declared.fault.WireFault.TheVariants as fault
use Rattle.dso_wire.specs.declared.fault.ReadFault.{ReadFault}
use Rattle.dso_wire.specs.declared.fault.ReadFault.TheVariants as read
use Rattle.dso_wire.specs.declared.fault.Wrong.{Wrong}
use Rattle.dso_wire.specs.declared.fault.Wrong.TheVariants as wrong
use Rattle.dso_wire.specs.Cells.{Cell, Mark, Tag, Ranged, Marked, bytes_of}
use Rattle.dso_wire.specs.Reading.{Reader}

-- ---- by reading

-- a fault by its place, counted from the first byte
abbrev pub fault_told : ℕ → ReadFault → WireFault
fault_told len (read.NoMemory refused) = fault.NoMemory refused
fault_told len (read.Wrong wrong.Short) = fault.Short
fault_told len (read.Wrong (wrong.Tag left)) = fault.Tag (len - left)
fault_told len (read.Wrong (wrong.Range left)) = fault.Range (len - left)

abbrev pub told : {A : Type 0} → List ℕ → Result (A × List ℕ) Wrong → Result A WireFault
told bytes (Ok (x, [])) = Ok x
told bytes (Ok (x, b ∷ rest)) = Err (fault.Rest (length bytes - suc (length rest)))
told bytes (Err w) = Err (fault_told (length bytes) (read.Wrong w))

-- all of the bytes are one thing
abbrev pub whole : {A : Type 0} → Reader A → List ℕ → Result A WireFault
whole reader bytes = told bytes (reader bytes)

-- the answer is this one, unless memory ran out
abbrev pub IsAnswer : {A : Type 0} → Result A WireFault → Result A WireFault → Type 0
IsAnswer answer due = ((refused : NoMemory) × (answer ≡ Err (fault.NoMemory refused))) ⊎ (answer ≡ due)

-- ---- by the grammar

-- something whole begins with the bytes, and goes on
abbrev pub BreaksOff : {A : Type 0} → (A → List Cell) → (A → Type 0) → List ℕ → Type 0
BreaksOff {A} cells Is bytes = (x : A) × (b : ℕ) × (more : List ℕ) × Is x
    × (bytes_of (cells x) ≡ bytes ++ b ∷ more)

-- Something whole begins with the bytes before the place, and has a byte of this mark there; nothing whole begins with
-- the bytes up to and with the one at the place.
pub record GoesWrong {A : Type 0} (cells : A → List Cell) (Is : A → Type 0) (mark : Mark) (place : ℕ)
    (bytes : List ℕ) : Type 0 where
  pub front : List Cell
  pub byte : ℕ
  pub rest : List ℕ
  pub stands : bytes ≡ bytes_of front ++ byte ∷ rest
  pub at : place ≡ length front
  pub thing : A
  pub is : Is thing
  pub due : ℕ
  pub behind : List Cell
  pub begins : cells thing ≡ front ++ Marked mark due ∷ behind
  pub none : (other : A) (more : List ℕ) → Is other → bytes_of (cells other) ≢ bytes_of front ++ byte ∷ more

-- something whole, and more behind it
abbrev pub HasRest : {A : Type 0} → (A → List Cell) → (A → Type 0) → ℕ → List ℕ → Type 0
HasRest {A} cells Is place bytes = (x : A) × (b : ℕ) × (more : List ℕ) × Is x × (place ≡ length (cells x))
    × (bytes ≡ bytes_of (cells x) ++ b ∷ more)

-- what an answer says of the bytes
abbrev pub Means : {A : Type 0} → (A → List Cell) → (A → Type 0) → List ℕ → Result A WireFault → Type 0
Means cells Is bytes (Ok x) = Is x × (bytes ≡ bytes_of (cells x))
Means cells Is bytes (Err fault.Short) = BreaksOff cells Is bytes
Means cells Is bytes (Err (fault.Tag place)) = GoesWrong cells Is Tag place bytes
Means cells Is bytes (Err (fault.Range place)) = GoesWrong cells Is Ranged place bytes
Means cells Is bytes (Err (fault.Rest place)) = HasRest cells Is place bytes
Means cells Is bytes (Err (fault.NoMemory refused)) = Unit {0}

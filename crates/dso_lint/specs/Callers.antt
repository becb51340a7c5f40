-- Which methods call each method, as bodies are looked at one after the other.
use Rattle.std.specs.Prelude.{◌≡◌, ◌<◌, ◌⊎◌, ℕ, suc, Bool, true, false, List, [], Contains, length, slice_index_or}
use Rattle.dso_machine.specs.declared.code.Code.{Code}
use Rattle.dso_machine.specs.declared.tree.Stmt.{Stmt}
use Rattle.dso_lint.specs.declared.answer.Place.TheVariants as place
use Rattle.dso_lint.specs.declared.callers.Called.{Called}
use Rattle.dso_lint.specs.Routines.{Routine, IsAt}
use Rattle.dso_lint.specs.Upgrades.{Calls}

-- the method of this number is one of its callers
abbrev pub IsCaller : ℕ → Called → Type 0
IsCaller number called = Contains called.by.items number

-- there are so many, and none is called
pub record AreUncalled (size : ℕ) (callers : List Called) : Type 0 where
  pub number : length callers ≡ size
  pub none : (m : ℕ) (d : Called) → m < size → (slice_index_or callers m d).by.items ≡ []

-- the method of this number is one more caller if the flag says so, and there is no other
pub record AddsCaller (number : ℕ) (calls : Bool) (old new : Called) : Type 0 where
  pub kept : (k : ℕ) → IsCaller k old → IsCaller k new
  pub added : calls ≡ true → IsCaller number new
  pub only : (k : ℕ) → IsCaller k new → IsCaller k old ⊎ ((k ≡ number) × (calls ≡ true))

-- so for each method, by whether it is marked
pub record AddsCallers (number : ℕ) (marked : List Bool) (old new : List Called) : Type 0 where
  pub size : length new ≡ length old
  pub each : (m : ℕ) (d : Called) → m < length old →
      AddsCaller number (slice_index_or marked m false) (slice_index_or old m d) (slice_index_or new m d)

-- the method of this number is one more caller of those that the block calls
pub record AddsBody (number : ℕ) (block : List Stmt) (old new : List Called) : Type 0 where
  pub size : length new ≡ length old
  pub kept : (m k : ℕ) (d : Called) → m < length old → IsCaller k (slice_index_or old m d)
      → IsCaller k (slice_index_or new m d)
  pub added : (m : ℕ) (d : Called) → m < length old → Calls block m → IsCaller number (slice_index_or new m d)
  pub only : (m k : ℕ) (d : Called) → m < length old → IsCaller k (slice_index_or new m d) →
      IsCaller k (slice_index_or old m d) ⊎ ((k ≡ number) × Calls block m)

-- the method of the one number calls that of the other
pub record CallsMethod (code : Code) (k m : ℕ) : Type 0 where
  pub body : Routine
  pub at : IsAt code (place.Method (suc k)) body
  pub calls : Calls body.statements m

-- of so many methods the callers are those of the first so many that call them
pub record AreCallers (code : Code) (size count : ℕ) (callers : List Called) : Type 0 where
  pub number : length callers ≡ size
  pub only : (m k : ℕ) (d : Called) → m < size → IsCaller k (slice_index_or callers m d) → CallsMethod code k m
  pub all : (m k : ℕ) (d : Called) → m < size → k < count → CallsMethod code k m
      → IsCaller k (slice_index_or callers m d)

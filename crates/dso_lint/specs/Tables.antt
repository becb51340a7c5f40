-- The methods from which a monitor may be taken at Write, and those from which a named lock may.
use Rattle.std.specs.Prelude.{◌≡◌, ◌<◌, ◌+◌, ℕ, Bool, All, List, length, slice_index_or, Option, None, Some}
use Rattle.dso_machine.specs.declared.code.Code.{Code}
use Rattle.dso_lint.specs.declared.marks.Marks.{Marks}
use Rattle.dso_lint.specs.declared.tables.Named.{Named}
use Rattle.dso_lint.specs.declared.tables.Tables.{Tables}
use Rattle.dso_lint.specs.Callers.{AreCallers}
use Rattle.dso_lint.specs.Leads.{AreLeading}
use Rattle.dso_lint.specs.Marked.{IsMarked, AreTidy}
use Rattle.dso_lint.specs.Upgrades.{IsWriter}
use Rattle.dso_lint.specs.Upgrading.{TakesName}

-- of so many numbers those of the first so many are marked of which P holds
pub record BeginsBelow (P : ℕ → Type 0) (size count : ℕ) (marks : Marks) : Type 0 where
  pub tidy : AreTidy marks
  pub number : length marks.marked.items ≡ size
  pub only : (m : ℕ) → IsMarked marks m → P m
  pub all : (m : ℕ) → m < count → m < size → P m → IsMarked marks m

-- those from which a monitor may be taken at Write
abbrev pub AreMonitors : Code → List Bool → Type 0
AreMonitors code = AreLeading code (IsWriter code) (length code.methods + 5)

-- those from which the named lock may be taken at Write
abbrev pub AreTakers : Code → ℕ → List Bool → Type 0
AreTakers code lock = AreLeading code (TakesName code lock) (length code.methods + 5)

-- so for the table's lock
abbrev pub IsOfName : Code → Named → Type 0
IsOfName code named = AreTakers code named.lock named.leading.items

-- The tables are right: who calls each method, from which a monitor may be taken at Write, and the same for some locks.
pub record AreTables (code : Code) (tables : Tables) : Type 0 where
  pub callers : AreCallers code (length code.methods + 5) (length code.methods) tables.callers.items
  pub monitors : AreMonitors code tables.monitors.items
  pub names : All (IsOfName code) tables.names.items

-- the table at this place is that of the lock
pub record IsTableOf (lock place : ℕ) (names : List Named) : Type 0 where
  pub there : place < length names
  pub lock_is : (d : Named) → (slice_index_or names place d).lock ≡ lock

-- it is, if there is one
abbrev pub TableAt : ℕ → List Named → Option ℕ → Type 0
TableAt lock names None = Unit {0}
TableAt lock names (Some place) = IsTableOf lock place names

-- The upgrade rule: nothing that is locked at Read leads to a lock of its kind at Write.
use Rattle.std.specs.Prelude.{◌≡◌, ◌⊎◌, ℕ, suc, ◌+◌, true, false, List, length, Contains, Option, None, Some}
use Rattle.dso_base.specs.declared.lock.Grade.{Grade}
use Rattle.dso_machine.specs.declared.code.Code.{Code}
use Rattle.dso_machine.specs.declared.tree.Expr.{Expr}
use Rattle.dso_machine.specs.declared.tree.Expr.TheVariants as x
use Rattle.dso_machine.specs.declared.tree.Stmt.{Stmt}
use Rattle.dso_machine.specs.declared.tree.Stmt.TheVariants as s
use Rattle.dso_lint.specs.declared.answer.Place.TheVariants as place
use Rattle.dso_lint.specs.Routines.{Routine, IsAt}
use Rattle.dso_lint.specs.Trees.{StandsIn, Uses}
use Rattle.dso_lint.specs.Access.{writes}

-- the block has a call that may reach the method of this number
pub record Calls (block : List Stmt) (m : ℕ) : Type 0 where
  pub receiver : Expr
  pub callees : List (ℕ × ℕ)
  pub args : List Expr
  pub class : ℕ
  pub uses : Uses block (x.Call receiver callees args)
  pub may : Contains callees (class, m)

-- calls lead from the block to the method of this number
pub data LeadsTo (code : Code) (m : ℕ) : List Stmt → Type 0 where
  calls : {block : List Stmt} → Calls block m → LeadsTo code m block
  onward : {block : List Stmt} {body : Routine} (k : ℕ) → Calls block k → IsAt code (place.Method (suc k)) body →
      LeadsTo code m body.statements → LeadsTo code m block

-- the block has a `synchronized` statement at a grade that allows writes
pub record HasWriteSite (block : List Stmt) : Type 0 where
  pub lock : Expr
  pub grade : Grade
  pub all : List Stmt
  pub stands : StandsIn (s.Sync lock grade all) block
  pub allows : writes grade ≡ true

-- the method takes its object's monitor at a grade that allows writes
abbrev pub LocksForWrite : Option Grade → Type 0
LocksForWrite None = ⊥
LocksForWrite (Some grade) = writes grade ≡ true

-- the named lock is taken at a grade that allows writes
abbrev pub TakesForWrite : ℕ → Option (ℕ × Grade) → Type 0
TakesForWrite lock None = ⊥
TakesForWrite lock (Some taken) = (taken.0 ≡ lock) × (writes taken.1 ≡ true)

module _ (code : Code) where
  -- The method takes a monitor at a grade that allows writes: it is the `put` or the `remove` of a map, whose methods
  -- have the numbers behind those of the code, or it has such a site, its own among them.
  abbrev pub IsWriter : ℕ → Type 0
  IsWriter m = (m ≡ length code.methods + 3) ⊎ (m ≡ length code.methods + 4)
      ⊎ ((body : Routine) × IsAt code (place.Method (suc m)) body
      × (HasWriteSite body.statements ⊎ LocksForWrite body.synced))

  -- from the block a monitor may be taken at Write: at a site in it, or by a method that calls lead to
  abbrev pub MayWriteMonitor : List Stmt → Type 0
  MayWriteMonitor block = HasWriteSite block ⊎ ((m : ℕ) × LeadsTo code m block × IsWriter m)

  -- from the block the named lock may be taken at Write
  abbrev pub MayWriteName : ℕ → List Stmt → Type 0
  MayWriteName lock block = (m : ℕ) × (body : Routine) × LeadsTo code m block × IsAt code (place.Method (suc m)) body
      × TakesForWrite lock body.named

  -- The upgrade rule holds in the body: from no `synchronized` site at Read in it a monitor may be taken at Write, and
  -- where its named lock is taken at Read, from it that lock isn't taken at Write.
  pub record NeverUpgrades (body : Routine) : Type 0 where
    pub statements : (lock : Expr) (grade : Grade) (all : List Stmt) →
        StandsIn (s.Sync lock grade all) body.statements → writes grade ≡ false → MayWriteMonitor all → ⊥
    pub whole : (grade : Grade) → body.synced ≡ Some grade → writes grade ≡ false →
        MayWriteMonitor body.statements → ⊥
    pub name : (lock : ℕ) (grade : Grade) → body.named ≡ Some (lock, grade) → writes grade ≡ false →
        MayWriteName lock body.statements → ⊥

-- What of the upgrade rule is looked at, one after the other.
use Rattle.std.specs.Prelude.{◌≡◌, ◌⊎◌, ℕ, suc, true, false, List, Some}
use Rattle.dso_base.specs.declared.lock.Grade.{Grade}
use Rattle.dso_machine.specs.declared.code.Code.{Code}
use Rattle.dso_machine.specs.declared.tree.Expr.{Expr}
use Rattle.dso_machine.specs.declared.tree.Stmt.{Stmt}
use Rattle.dso_machine.specs.declared.tree.Stmt.TheVariants as s
use Rattle.dso_lint.specs.declared.answer.Place.TheVariants as place
use Rattle.dso_lint.specs.Routines.{Routine, IsAt}
use Rattle.dso_lint.specs.Access.{writes}
use Rattle.dso_lint.specs.Trees.{StandsIn}
use Rattle.dso_lint.specs.Upgrades.{HasWriteSite, LocksForWrite}
use Rattle.dso_lint.specs.Upgrades.{MayWriteMonitor, MayWriteName, TakesForWrite}

-- the statement itself is a site at a grade that allows writes
pub record IsWriteSite (a : Stmt) : Type 0 where
  pub lock : Expr
  pub grade : Grade
  pub all : List Stmt
  pub is : a ≡ s.Sync lock grade all
  pub allows : writes grade ≡ true

-- the method takes a monitor at a grade that allows writes, at a site in it or around all of it
abbrev pub TakesMonitor : Routine → Type 0
TakesMonitor body = HasWriteSite body.statements ⊎ LocksForWrite body.synced

module _ (code : Code) where
  -- the method takes the named lock at Write
  abbrev pub TakesName : ℕ → ℕ → Type 0
  TakesName lock m = (body : Routine) × IsAt code (place.Method (suc m)) body × TakesForWrite lock body.named

  -- the statement itself is a site at Read from which a monitor may be taken at Write
  pub record UpgradesAt (a : Stmt) : Type 0 where
    pub lock : Expr
    pub grade : Grade
    pub all : List Stmt
    pub is : a ≡ s.Sync lock grade all
    pub reads : writes grade ≡ false
    pub may : MayWriteMonitor code all

  -- so the method's own site
  pub record UpgradesWhole (body : Routine) : Type 0 where
    pub grade : Grade
    pub is : body.synced ≡ Some grade
    pub reads : writes grade ≡ false
    pub may : MayWriteMonitor code body.statements

  -- a site in the body does, or the method's own
  abbrev pub UpgradesSite : Routine → Type 0
  UpgradesSite body = ((a : Stmt) × StandsIn a body.statements × UpgradesAt a) ⊎ UpgradesWhole body

  -- and its named lock
  pub record UpgradesName (body : Routine) : Type 0 where
    pub lock : ℕ
    pub grade : Grade
    pub is : body.named ≡ Some (lock, grade)
    pub reads : writes grade ≡ false
    pub may : MayWriteName code lock body.statements

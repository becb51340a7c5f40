-- Good holds, as they are kept on the way down a body.
use Rattle.std.specs.Prelude.{◌≡◌, ℕ, Bool, true, List, [], ◌∷◌, Contains, Option, None, Some}
use Rattle.dso_base.specs.declared.lock.Grade.{Grade}
use Rattle.dso_base.specs.declared.shape.Shape.{Shape}
use Rattle.dso_machine.specs.declared.tree.Expr.{Expr}
use Rattle.dso_machine.specs.declared.tree.Expr.TheVariants as x
use Rattle.dso_machine.specs.declared.tree.Stmt.{Stmt}
use Rattle.dso_machine.specs.declared.tree.Stmt.TheVariants as s
use Rattle.dso_lint.specs.declared.holds.Hold.{Hold}
use Rattle.dso_lint.specs.declared.holds.Variable.{Variable}
use Rattle.dso_lint.specs.declared.holds.Variable.TheVariants.{This, Numbered}
use Rattle.dso_lint.specs.Access.{writes, IsVariable, HoldsWell}
use Rattle.dso_lint.specs.Clean.{Chosen}
use Rattle.dso_lint.specs.Sites.{Site}
use Rattle.dso_lint.specs.Trees.{StandsIn}

-- the expression that a variable is
abbrev pub expr_of : Variable → Expr
expr_of This = x.This
expr_of (Numbered i) = x.Var i

-- the expression is this variable, or none
abbrev pub IsVariableOf : Expr → Option Variable → Type 0
IsVariableOf a None = IsVariable a → ⊥
IsVariableOf a (Some v) = a ≡ expr_of v

-- the hold is on the variable, and for a write allows it
pub record MayBy (hold : Hold) (v : Variable) (write : Bool) : Type 0 where
  pub is : hold.variable ≡ v
  pub allows : write ≡ true → hold.writes ≡ true

-- one of the holds is
abbrev pub IsHeld : List Hold → Variable → Bool → Type 0
IsHeld holds v write = (hold : Hold) × Contains holds hold × MayBy hold v write

-- the statement itself assigns the variable
pub record Assigns (v : Variable) (a : Stmt) : Type 0 where
  pub number : ℕ
  pub value : Expr
  pub is : a ≡ s.Assign number value
  pub same : v ≡ Numbered number

-- a statement of the block does
abbrev pub IsAssigned : List Stmt → Variable → Type 0
IsAssigned block v = (a : Stmt) × StandsIn a block × Assigns v a

-- the hold on the variable, if there is one, of a site at this grade
abbrev pub hold_at : Option Variable → Grade → List Hold
hold_at None grade = []
hold_at (Some v) grade = record { variable = v; writes = writes grade } ∷ []

module _ (shape : Shape) (chosen : Chosen) where
  -- the site has a good hold on this variable, or on none
  abbrev pub IsGoodHold : Site → Option Variable → Type 0
  IsGoodHold site None = (v : Expr) → HoldsWell shape chosen v site → ⊥
  IsGoodHold site (Some v) = HoldsWell shape chosen (expr_of v) site

  -- a good hold of one of the sites
  pub record IsHoldOf (sites : List Site) (hold : Hold) : Type 0 where
    pub site : Site
    pub there : Contains sites site
    pub holds : HoldsWell shape chosen (expr_of hold.variable) site
    pub grade : hold.writes ≡ writes site.grade

  -- The holds are the good ones of these sites.
  pub record AreHolds (holds : List Hold) (sites : List Site) : Type 0 where
    pub only : (hold : Hold) → Contains holds hold → IsHoldOf sites hold
    pub all : (hold : Hold) → IsHoldOf sites hold → Contains holds hold

-- From which methods calls lead to one of which P holds, as they are found backwards from those.
use Rattle.std.specs.Prelude.{◌≡◌, ◌<◌, ◌⊎◌, ℕ, suc, Bool, true, false, List, Contains, length, slice_index_or}
use Rattle.dso_machine.specs.declared.code.Code.{Code}
use Rattle.dso_machine.specs.declared.tree.Expr.{Expr}
use Rattle.dso_machine.specs.declared.tree.Expr.TheVariants as x
use Rattle.dso_machine.specs.declared.tree.Stmt.{Stmt}
use Rattle.dso_lint.specs.declared.answer.Place.TheVariants as place
use Rattle.dso_lint.specs.declared.marks.Marks.{Marks}
use Rattle.dso_lint.specs.Callers.{CallsMethod}
use Rattle.dso_lint.specs.Marked.{IsMarked, AreTidy}
use Rattle.dso_lint.specs.Routines.{Routine, IsAt}
use Rattle.dso_lint.specs.Upgrades.{Calls, LeadsTo}

-- the number is one of those that are marked
abbrev pub Within : List Bool → ℕ → Type 0
Within marked m = slice_index_or marked m false ≡ true

-- calls lead from the method of this number to one of which P holds
pub record LeadsOn (code : Code) (P : ℕ → Type 0) (m : ℕ) : Type 0 where
  pub to : ℕ
  pub body : Routine
  pub is : P to
  pub at : IsAt code (place.Method (suc m)) body
  pub leads : LeadsTo code to body.statements

-- P holds of the method of this number, or of one to which calls lead from it
abbrev pub Leading : Code → (ℕ → Type 0) → ℕ → Type 0
Leading code P m = P m ⊎ LeadsOn code P m

-- So many of what was found were looked at: from the marked calls lead to where P holds, and what calls them is marked.
pub record LeadsSoFar (code : Code) (P : ℕ → Type 0) (size count : ℕ) (marks : Marks) : Type 0 where
  pub tidy : AreTidy marks
  pub number : length marks.marked.items ≡ size
  pub sound : (m : ℕ) → IsMarked marks m → Leading code P m
  pub start : (m : ℕ) → P m → IsMarked marks m
  pub closed : (p : ℕ) → p < count → p < length marks.found.items →
      (k : ℕ) → k < size → CallsMethod code k (slice_index_or marks.found.items p 0) → IsMarked marks k

-- Of so many numbers those are marked from which calls lead to where P holds.
pub record AreLeading (code : Code) (P : ℕ → Type 0) (size : ℕ) (marked : List Bool) : Type 0 where
  pub number : length marked ≡ size
  pub sound : (m : ℕ) → Within marked m → Leading code P m
  pub whole : (m : ℕ) → m < size → Leading code P m → Within marked m

-- one of these methods is marked
pub record HasMarked (marked : List Bool) (callees : List (ℕ × ℕ)) : Type 0 where
  pub class : ℕ
  pub method : ℕ
  pub may : Contains callees (class, method)
  pub is : Within marked method

-- the expression is a call that may reach a method that is marked
pub record IsMarkedCall (marked : List Bool) (e : Expr) : Type 0 where
  pub receiver : Expr
  pub callees : List (ℕ × ℕ)
  pub args : List Expr
  pub is : e ≡ x.Call receiver callees args
  pub has : HasMarked marked callees

-- the block has a call that may reach a method that is marked
pub record CallsMarked (marked : List Bool) (block : List Stmt) : Type 0 where
  pub method : ℕ
  pub calls : Calls block method
  pub is : Within marked method

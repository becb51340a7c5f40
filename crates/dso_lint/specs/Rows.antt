-- The clean variables of one body, as they are found.
use Rattle.std.specs.Prelude.{◌≡◌, ◌<◌, ℕ, true, List, length, slice_index_or}
use Rattle.dso_machine.specs.declared.tree.Expr.{Expr}
use Rattle.dso_machine.specs.declared.tree.Stmt.{Stmt}
use Rattle.dso_machine.specs.declared.tree.Stmt.TheVariants as s
use Rattle.dso_lint.specs.declared.row.Row.{Row}
use Rattle.dso_lint.specs.Trees.{StandsIn}
use Rattle.dso_lint.specs.Clean.{Chosen, IsClean}

-- what a row chooses
abbrev pub chosen_by : Row → Chosen
chosen_by row = record { variable = λ i. slice_index_or row.variables.items i true; this = row.this }

-- each variable that the block assigns is in the row
abbrev pub Covers : List Stmt → Row → Type 0
Covers block row = (i : ℕ) (a : Expr) → StandsIn (s.Assign i a) block → i < length row.variables.items

-- a chosen variable is assigned only clean expressions
abbrev pub KeepsAssigned : List Stmt → Chosen → Type 0
KeepsAssigned block chosen = (i : ℕ) (a : Expr) → StandsIn (s.Assign i a) block → chosen.variable i ≡ true →
    IsClean chosen a

-- what the one chooses the other chooses
pub record IsBelow (chosen other : Chosen) : Type 0 where
  pub variable : (i : ℕ) → chosen.variable i ≡ true → other.variable i ≡ true
  pub this : chosen.this ≡ true → other.this ≡ true

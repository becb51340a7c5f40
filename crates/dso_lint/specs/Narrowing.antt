-- What a row has lost after a pass over a body.
use Rattle.std.specs.Prelude.{◌≡◌, ◌<◌, ℕ, Bool, true, false, List, length, count_by, slice_index_or, slice_set}
use Rattle.std.specs.Borrow.{Bor}
use Rattle.dso_machine.specs.declared.tree.Expr.{Expr}
use Rattle.dso_machine.specs.declared.tree.Stmt.{Stmt}
use Rattle.dso_machine.specs.declared.tree.Stmt.TheVariants as s
use Rattle.dso_lint.specs.declared.row.Row.{Row}
use Rattle.dso_lint.specs.Trees.{StandsIn}
use Rattle.dso_lint.specs.Clean.{Chosen, IsClean}
use Rattle.dso_lint.specs.Rows.{IsBelow, KeepsAssigned, chosen_by}

-- a variable was taken out of the row, if it was a clean one of the row, and whether it was
pub record Spoils (old : Row) (i : ℕ) (new : Row) (did : Bool) : Type 0 where
  pub this : new.this ≡ old.this
  pub low : did ≡ true → i < length old.variables.items
  pub was : did ≡ true → slice_index_or old.variables.items i true ≡ true
  pub set : did ≡ true → new.variables.items ≡ slice_set old.variables.items i false
  pub same : did ≡ false → new ≡ old
  pub unclean : did ≡ false → i < length old.variables.items → slice_index_or old.variables.items i true ≡ false

-- how many variables of the row are clean
abbrev pub clean_count : Row → ℕ
clean_count row = count_by (λ clean. clean) row.variables.items

-- the row lost variables, and whether it lost any
pub record Shrinks (old new : Row) (any : Bool) : Type 0 where
  pub this : new.this ≡ old.this
  pub number : length new.variables.items ≡ length old.variables.items
  pub below : IsBelow (chosen_by new) (chosen_by old)
  pub same : any ≡ false → new ≡ old
  pub fewer : any ≡ true → clean_count new < clean_count old

-- it lost nothing but what no choice within it may choose, if the choice keeps the rule on assignments
abbrev pub IsForced : List Stmt → Row → Row → Type 0
IsForced block old new = (other : Chosen) → KeepsAssigned block other → IsBelow other (chosen_by old) →
    IsBelow other (chosen_by new)

-- what one statement took out
pub record NarrowsAt (a : Stmt) (old new : Row) (did : Bool) : Type 0 where
  pub forced : (block : List Stmt) → StandsIn a block → IsForced block old new
  pub keeps : did ≡ false → (i : ℕ) (value : Expr) → a ≡ s.Assign i value → i < length old.variables.items →
      (chosen_by old).variable i ≡ true → IsClean (chosen_by old) value

-- The pass took away variables that no choice within the row may choose; where it took away none, the row keeps the
-- rule on assignments.
pub record Narrows (block : List Stmt) (old new : Row) (changed : Bool) : Type 0 where
  pub forced : IsForced block old new
  pub keeps : changed ≡ false → KeepsAssigned block (chosen_by old)

-- so far, where so many of the block's statements were looked at
pub record NarrowsSoFar (block : List Stmt) (statements : List (Bor Stmt)) (count : ℕ) (old new : Row)
    (changed : Bool) : Type 0 where
  pub forced : IsForced block old new
  pub passed : changed ≡ false → (k : ℕ) (a : Bor Stmt) (i : ℕ) (value : Expr) → k < count →
      (slice_index_or statements k a).now ≡ s.Assign i value → i < length old.variables.items →
      (chosen_by old).variable i ≡ true → IsClean (chosen_by old) value

-- The row lost what no choice within it may choose, and keeps the rule on assignments now.
pub record Settles (block : List Stmt) (old new : Row) : Type 0 where
  pub forced : IsForced block old new
  pub keeps : KeepsAssigned block (chosen_by new)

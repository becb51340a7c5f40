-- Which methods are marked, as calls are looked at.
use Rattle.std.specs.Prelude.{◌≡◌, ◌<◌, ◌⊎◌, ◌++◌, ℕ, true, false, List, Contains, length, count_by}
use Rattle.std.specs.Prelude.{slice_index_or, Option, None, Some}
use Rattle.std.specs.Borrow.{Bor}
use Rattle.dso_machine.specs.declared.tree.Expr.{Expr}
use Rattle.dso_machine.specs.declared.tree.Expr.TheVariants as x
use Rattle.dso_machine.specs.declared.tree.Stmt.{Stmt}
use Rattle.dso_lint.specs.declared.marks.Marks.{Marks}
use Rattle.dso_lint.specs.declared.row.Row.{Row}
use Rattle.dso_lint.specs.Trees.{Uses}
use Rattle.dso_lint.specs.Clean.{is_clean}
use Rattle.dso_lint.specs.Rows.{chosen_by}

-- a call on this receiver counts: each where there is no row, else those whose receiver isn't clean by the row
abbrev pub Counts : Option (Bor Row) → Expr → Type 0
Counts None receiver = Unit {0}
Counts (Some row) receiver = is_clean (chosen_by row.now) receiver ≡ false

-- the number is that of one of these methods, and a call on this receiver counts
pub record IsCounted (row : Option (Bor Row)) (receiver : Expr) (callees : List (ℕ × ℕ)) (m : ℕ) : Type 0 where
  pub class : ℕ
  pub may : Contains callees (class, m)
  pub counts : Counts row receiver

-- the expression is a call that counts and may reach the method
pub record IsCallTo (row : Option (Bor Row)) (e : Expr) (m : ℕ) : Type 0 where
  pub receiver : Expr
  pub callees : List (ℕ × ℕ)
  pub args : List Expr
  pub class : ℕ
  pub is : e ≡ x.Call receiver callees args
  pub may : Contains callees (class, m)
  pub counts : Counts row receiver

-- a call in the block does
abbrev pub HasCallTo : Option (Bor Row) → List Stmt → ℕ → Type 0
HasCallTo row block m = (e : Expr) × Uses block e × IsCallTo row e m

-- the number is marked
abbrev pub IsMarked : Marks → ℕ → Type 0
IsMarked marks m = slice_index_or marks.marked.items m false ≡ true

-- what was found is what is marked, once each
pub record AreTidy (marks : Marks) : Type 0 where
  pub found : (m : ℕ) → IsMarked marks m → Contains marks.found.items m
  pub marked : (m : ℕ) → Contains marks.found.items m → IsMarked marks m
  pub counted : count_by (λ mark. mark) marks.marked.items ≡ length marks.found.items

-- the numbers that P says are marked too, and no other
pub record MarksMore (P : ℕ → Type 0) (old new : Marks) : Type 0 where
  pub size : length new.marked.items ≡ length old.marked.items
  pub kept : (m : ℕ) → IsMarked old m → IsMarked new m
  pub added : (m : ℕ) → m < length old.marked.items → P m → IsMarked new m
  pub only : (m : ℕ) → IsMarked new m → IsMarked old m ⊎ P m
  pub more : List ℕ
  pub behind : new.found.items ≡ old.found.items ++ more
  pub tidy : AreTidy old → AreTidy new

-- of so many numbers none is marked
pub record IsFresh (size : ℕ) (marks : Marks) : Type 0 where
  pub number : length marks.marked.items ≡ size
  pub unmarked : (m : ℕ) → IsMarked marks m → ⊥
  pub tidy : AreTidy marks

-- The rows of all bodies, and the choice that they stand for.
use Rattle.std.specs.Prelude.{◌≡◌, ◌<◌, ◌≤◌, ◌⊎◌, ◌+◌, ℕ, zero, suc, ◌-◌, Bool, true, false, cond, nat_lt, count_by}
use Rattle.std.specs.Prelude.{List, Contains, length, slice_get, slice_index_or, slice_set, Option, None, Some}
use Rattle.dso_machine.specs.declared.code.Code.{Code}
use Rattle.dso_machine.specs.declared.tree.Expr.{Expr}
use Rattle.dso_machine.specs.declared.tree.Expr.TheVariants as x
use Rattle.dso_machine.specs.declared.tree.Stmt.{Stmt}
use Rattle.dso_machine.specs.declared.tree.Stmt.TheVariants as s
use Rattle.dso_lint.specs.declared.answer.Place.{Place}
use Rattle.dso_lint.specs.declared.answer.Place.TheVariants as place
use Rattle.dso_lint.specs.declared.marks.Marks.{Marks}
use Rattle.dso_lint.specs.declared.row.Row.{Row}
use Rattle.dso_lint.specs.Clean.{Chosen, Choice, is_clean, IsCleanChoice}
use Rattle.dso_lint.specs.Marked.{IsMarked}
use Rattle.dso_lint.specs.Narrowing.{Settles}
use Rattle.dso_lint.specs.Routines.{Routine}
use Rattle.dso_lint.specs.Rows.{Covers, IsBelow, chosen_by}
use Rattle.dso_lint.specs.Trees.{Uses}

-- a row's choice; where there is no row, nothing speaks against a variable
abbrev pub chosen_in : Bool → Option Row → Chosen
chosen_in this None = record { variable = λ i. true; this = this }
chosen_in this (Some row) = chosen_by row

-- the choice of all rows, the first so many of which are those of methods
abbrev pub choice_of : ℕ → List Row → Choice
choice_of methods rows (place.Method zero) = chosen_in true None
choice_of methods rows (place.Method (suc k)) = chosen_in true (cond (nat_lt k methods) (slice_get rows k) None)
choice_of methods rows (place.Thread zero) = chosen_in false None
choice_of methods rows (place.Thread (suc k)) = chosen_in false (slice_get rows (methods + k))

-- the place of a body by its number, where the first so many are those of methods
abbrev pub place_at : ℕ → ℕ → Place
place_at methods p = cond (nat_lt p methods) (place.Method (suc p)) (place.Thread (suc (p - methods)))

-- the list is as before, but for variables behind it that are clean, and it has this one
pub record HasRoom (old : List Bool) (number : ℕ) (new : List Bool) : Type 0 where
  pub longer : length old ≤ length new
  pub same : (i : ℕ) → slice_index_or new i true ≡ slice_index_or old i true
  pub room : number < length new

-- so with the variable that the statement itself assigns, if it assigns one
pub record HasRoomFor (a : Stmt) (old new : List Bool) : Type 0 where
  pub longer : length old ≤ length new
  pub same : (i : ℕ) → slice_index_or new i true ≡ slice_index_or old i true
  pub room : (i : ℕ) (value : Expr) → a ≡ s.Assign i value → i < length new

-- a row in which all is clean but the parameters, and with room for each variable that the body assigns
pub record IsFirst (body : Routine) (own : Bool) (row : Row) : Type 0 where
  pub params : (i : ℕ) → i < body.params → (chosen_by row).variable i ≡ false
  pub rest : (i : ℕ) → body.params ≤ i → (chosen_by row).variable i ≡ true
  pub covers : Covers body.statements row
  pub this : row.this ≡ own

-- such a row for each body; the first so many are those of methods
pub record AreFirst (bodies : List Routine) (methods : ℕ) (rows : List Row) : Type 0 where
  pub number : length rows ≡ length bodies
  pub each : (p : ℕ) (body : Routine) (row : Row) → p < length bodies →
      IsFirst (slice_index_or bodies p body) (nat_lt p methods) (slice_index_or rows p row)

-- how many rows have a clean `this`
abbrev pub this_count : List Row → ℕ
this_count = count_by (λ row. row.this)

-- a row that was settled over the body, if it covers what the body assigns
pub record IsSettledRow (body : Routine) (old new : Row) : Type 0 where
  pub this : new.this ≡ old.this
  pub number : length new.variables.items ≡ length old.variables.items
  pub below : IsBelow (chosen_by new) (chosen_by old)
  pub right : Covers body.statements old → Settles body.statements old new

-- a call in the body may reach the method, and its receiver isn't clean by the row
pub record IsExposed (body : Routine) (row : Row) (m : ℕ) : Type 0 where
  pub receiver : Expr
  pub callees : List (ℕ × ℕ)
  pub args : List Expr
  pub class : ℕ
  pub uses : Uses body.statements (x.Call receiver callees args)
  pub may : Contains callees (class, m)
  pub unclean : is_clean (chosen_by row) receiver ≡ false

-- of so many numbers those of exposed methods are marked
pub record MarksExposed (body : Routine) (row : Row) (size : ℕ) (marks : Marks) : Type 0 where
  pub number : length marks.marked.items ≡ size
  pub only : (m : ℕ) → IsMarked marks m → IsExposed body row m
  pub all : (m : ℕ) → m < size → IsExposed body row m → IsMarked marks m

-- a marked row's `this` isn't clean any more, and nothing else has changed
pub record LosesThis (marked : Bool) (old new : Row) : Type 0 where
  pub variables : new.variables ≡ old.variables
  pub this : new.this ≡ cond marked false old.this

-- and whether it was clean before
pub record TakesThis (marked : Bool) (old new : Row) (did : Bool) : Type 0 where
  pub loses : LosesThis marked old new
  pub was : did ≡ true → old.this ≡ true
  pub gone : did ≡ true → new.this ≡ false
  pub same : did ≡ false → new ≡ old

-- the numbers are those below this one
pub record AreBelow (size : ℕ) (numbers : List ℕ) : Type 0 where
  pub only : (p : ℕ) → Contains numbers p → p < size
  pub all : (p : ℕ) → p < size → Contains numbers p

-- For each `this` that the rows have lost one number more waits, and each that has come is that of a row.
pub record StillWait (old new : List Row) (before after : List ℕ) : Type 0 where
  pub number : length new ≡ length old
  pub only : (p : ℕ) → Contains after p → Contains before p ⊎ (p < length old)
  pub sum : this_count new + length after ≡ this_count old + length before

-- Each row whose number is marked has lost its `this`; what waited still waits, and so does each row that has changed.
pub record Strips (marked : List Bool) (old new : List Row) (before after : List ℕ) : Type 0 where
  pub wait : StillWait old new before after
  pub kept : (p : ℕ) → Contains before p → Contains after p
  pub each : (p : ℕ) (row : Row) → p < length old →
      LosesThis (slice_index_or marked p false) (slice_index_or old p row) (slice_index_or new p row)
  pub waits : (p : ℕ) → p < length old →
      Contains after p ⊎ ((row : Row) → slice_index_or new p row ≡ slice_index_or old p row)

-- The row of this number was settled over its body, and then each method that is exposed there has lost its `this`.
pub record LooksAt (body : Routine) (methods number : ℕ) (old new : List Row) (before after : List ℕ) : Type 0 where
  pub row : Row
  pub settled : (d : Row) → IsSettledRow body (slice_index_or old number d) row
  pub marks : Marks
  pub exposed : MarksExposed body row methods marks
  pub strips : Strips marks.marked.items (slice_set old number row) new before after

-- the rows are those of the clean variables, each what is chosen at its body's place
pub record AreClean (code : Code) (rows : List Row) : Type 0 where
  pub number : length rows ≡ length code.methods + length code.bodies
  pub clean : IsCleanChoice code (choice_of (length code.methods) rows)
  pub chosen_at : (p : ℕ) (row : Row) → p < length rows →
      choice_of (length code.methods) rows (place_at (length code.methods) p) ≡ chosen_by (slice_index_or rows p row)

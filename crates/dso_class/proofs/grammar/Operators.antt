-- Whether the operators of a tree stand where they may, and how many statements stand one inside another.
use Rattle.std.proofs.Common.{◌≡◌, ℕ, zero, suc, Bool, true, false, not, ◌&&◌, refl, List, [], ◌∷◌, map, Some, None}
use Rattle.std.specs.List.{list_all}
use Rattle.std.proofs.lemmas.Bool.{false≢true}
use Rattle.dso_syntax.specs.declared.tree.ExprTree.{ExprTree, fold-ExprTree}
use Rattle.dso_syntax.specs.declared.tree.ExprForm.TheOpen.{ExprForm-F}
use Rattle.dso_syntax.specs.declared.tree.StmtTree.{StmtTree, fold-StmtTree}
use Rattle.dso_syntax.specs.declared.tree.StmtForm.TheOpen.{StmtForm-F}
use Rattle.dso_machine.specs.Sound.{is_unary}

-- whether the operators are right, by the form of an expression
abbrev pub operators_of : ExprForm-F Bool Bool → Bool
operators_of (ExprForm-F.Paren a) = a
operators_of (ExprForm-F.NewArray kind a) = a
operators_of (ExprForm-F.Field a name) = a
operators_of (ExprForm-F.Call a name args) = a && list_all (λ one. one) args
operators_of (ExprForm-F.Elem a b) = a && b
operators_of (ExprForm-F.Unary o a) = is_unary o && a
operators_of (ExprForm-F.Binary o a b) = not (is_unary o) && (a && b)
operators_of other = true

-- whether the operators of an expression are right
abbrev pub operators : ExprTree → Bool
operators = fold-ExprTree Bool Bool operators_of (λ tree. tree.form)

-- whether all statements fit
abbrev pub all_fit : List (ℕ → Bool) → ℕ → Bool
all_fit [] room = true
all_fit (one ∷ rest) room = one room && all_fit rest room

-- whether a statement fits, by its form: one takes a place, and those in it have one less
abbrev pub fits_of : StmtForm-F (ℕ → Bool) (ℕ → Bool) → ℕ → Bool
fits_of form zero = false
fits_of (StmtForm-F.Var name a) (suc room) = operators a
fits_of (StmtForm-F.Assign a b) (suc room) = operators a && operators b
fits_of (StmtForm-F.Eval a) (suc room) = operators a
fits_of (StmtForm-F.If a all others) (suc room) = operators a && (all_fit all room && all_fit others room)
fits_of (StmtForm-F.While a all) (suc room) = operators a && all_fit all room
fits_of (StmtForm-F.Sync a all) (suc room) = operators a && all_fit all room
fits_of (StmtForm-F.Wait a) (suc room) = operators a
fits_of (StmtForm-F.TimedWait a b) (suc room) = operators a && operators b
fits_of (StmtForm-F.Notify a) (suc room) = operators a
fits_of (StmtForm-F.NotifyAll a) (suc room) = operators a
fits_of (StmtForm-F.Print a) (suc room) = operators a
fits_of (StmtForm-F.Return None) (suc room) = true
fits_of (StmtForm-F.Return (Some a)) (suc room) = operators a

-- whether a statement has right operators, and no more than so many stand one inside another, itself among them
abbrev pub fits : StmtTree → ℕ → Bool
fits = fold-StmtTree (ℕ → Bool) (ℕ → Bool) fits_of (λ tree. tree.form)

-- each statement of a block fits
abbrev pub block_fits : List StmtTree → ℕ → Bool
block_fits trees room = all_fit (map fits trees) room

-- both are true where their conjunction is, and the other way round
pub both : (a b : Bool) → a && b ≡ true → (a ≡ true) × (b ≡ true)
both true b is = (refl, is)
both false b is = absurd (false≢true is)

-- a conjunction is true where both are
pub join : (a b : Bool) → a ≡ true → b ≡ true → a && b ≡ true
join true b first second = second
join false b first second = absurd (false≢true first)

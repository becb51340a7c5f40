-- Which variables are clean: they hold nothing but what came from a root.
use Rattle.std.specs.Prelude.{◌≡◌, ℕ, suc, ◌<◌, Bool, true, false, List, Contains}
use Rattle.dso_machine.specs.declared.code.Code.{Code}
use Rattle.dso_machine.specs.declared.tree.Expr.{Expr, Expr-F, fold-Expr}
use Rattle.dso_machine.specs.declared.tree.Expr.TheOpen as e
use Rattle.dso_machine.specs.declared.tree.Expr.TheVariants as x
use Rattle.dso_machine.specs.declared.tree.Stmt.TheVariants as s
use Rattle.dso_lint.specs.declared.answer.Place.{Place}
use Rattle.dso_lint.specs.declared.answer.Place.TheVariants as place
use Rattle.dso_lint.specs.Routines.{Routine, IsAt}
use Rattle.dso_lint.specs.Trees.{StandsIn, Uses}

-- a choice of one body's variables, and whether its `this` is chosen
pub record Chosen : Type 0 where
  pub variable : ℕ → Bool
  pub this : Bool

-- a choice for each body
abbrev pub Choice : Type 0
Choice = Place → Chosen

-- whether an expression is clean by a choice, by whether its operands are: calls and new objects never are
abbrev pub clean_step : Chosen → Expr-F Bool → Bool
clean_step chosen (e.Const v) = true
clean_step chosen (e.Var i) = chosen.variable i
clean_step chosen e.This = chosen.this
clean_step chosen (e.Root r) = true
clean_step chosen (e.Field a f) = a
clean_step chosen (e.Elem a b) = a
clean_step chosen (e.Call a callees args) = false
clean_step chosen (e.NewObject class) = false
clean_step chosen (e.NewArray kind a) = false
clean_step chosen (e.Unary o a) = true
clean_step chosen (e.Binary o a b) = true

abbrev pub is_clean : Chosen → Expr → Bool
is_clean chosen = fold-Expr Bool (clean_step chosen)

-- the expression is clean
abbrev pub IsClean : Chosen → Expr → Type 0
IsClean chosen a = is_clean chosen a ≡ true

-- The choice keeps the rules: no parameter is chosen; a chosen variable is assigned only clean expressions in its
-- body; and a method's `this` is chosen only where each call that may reach the method has a clean receiver.
pub record KeepsRules (code : Code) (choice : Choice) : Type 0 where
  pub params : (at : Place) (body : Routine) (i : ℕ) → IsAt code at body → i < body.params →
      (choice at).variable i ≡ false
  pub assigned : (at : Place) (body : Routine) (i : ℕ) (a : Expr) → IsAt code at body →
      StandsIn (s.Assign i a) body.statements → (choice at).variable i ≡ true → IsClean (choice at) a
  pub receivers : (at : Place) (body callee : Routine) (a : Expr) (callees : List (ℕ × ℕ)) (args : List Expr)
      (class m : ℕ) → IsAt code at body → Uses body.statements (x.Call a callees args) →
      Contains callees (class, m) → IsAt code (place.Method (suc m)) callee →
      (choice (place.Method (suc m))).this ≡ true → IsClean (choice at) a
  pub no_thread : (k : ℕ) → (choice (place.Thread k)).this ≡ false

-- what the one chooses the other chooses
pub record IsWithin (choice other : Choice) : Type 0 where
  pub variable : (at : Place) (i : ℕ) → (choice at).variable i ≡ true → (other at).variable i ≡ true
  pub this : (at : Place) → (choice at).this ≡ true → (other at).this ≡ true

-- The clean variables: the largest choice that keeps the rules.
pub record IsCleanChoice (code : Code) (choice : Choice) : Type 0 where
  pub keeps : KeepsRules code choice
  pub largest : (other : Choice) → KeepsRules code other → IsWithin other choice

-- What each form means, one equation for each.
use Rattle.dso_machine.specs.Calls.{MethodMeanings}
use Rattle.std.proofs.Common.{◌≡◌, ℕ, List, map, Option, sym, ap, ◌∙◌}
use Rattle.dso_base.specs.declared.lock.Grade.{Grade}
use Rattle.dso_base.specs.declared.op.Op.{Op}
use Rattle.dso_base.specs.declared.value.Kind.{Kind}
use Rattle.dso_base.specs.declared.value.Value.{Value}
use Rattle.dso_machine.specs.declared.code.Code.{Code}
use Rattle.dso_machine.specs.declared.tree.Expr.{Expr, fold-roll-Expr}
use Rattle.dso_machine.specs.declared.tree.Expr.TheOpen as ef
use Rattle.dso_machine.specs.declared.tree.Expr.TheVariants as e
use Rattle.dso_machine.specs.declared.tree.FieldRef.{FieldRef}
use Rattle.dso_machine.specs.declared.tree.Stmt.{Stmt, fold-roll-Stmt}
use Rattle.dso_machine.specs.declared.tree.Stmt.TheOpen as sf
use Rattle.dso_machine.specs.declared.tree.Stmt.TheVariants as s
use Rattle.dso_machine.specs.Expressions.{expr, expr_step}
use Rattle.dso_machine.specs.Outcome.{Meaning}
use Rattle.dso_machine.specs.Statements.{stmt, stmt_step}

module _ (c : Code) (w : MethodMeanings) where
  pub expr_Const : (v : Value) → expr c w (e.Const v) ≡ expr_step c w (ef.Const v)
  expr_Const v = ap (expr c w) (sym (e.rolls-Const v)) ∙ fold-roll-Expr Meaning (expr_step c w) (ef.Const v)

  pub expr_Var : (i : ℕ) → expr c w (e.Var i) ≡ expr_step c w (ef.Var i)
  expr_Var i = ap (expr c w) (sym (e.rolls-Var i)) ∙ fold-roll-Expr Meaning (expr_step c w) (ef.Var i)

  pub expr_This : expr c w e.This ≡ expr_step c w ef.This
  expr_This = ap (expr c w) (sym e.rolls-This) ∙ fold-roll-Expr Meaning (expr_step c w) ef.This

  pub expr_Root : (r : ℕ) → expr c w (e.Root r) ≡ expr_step c w (ef.Root r)
  expr_Root r = ap (expr c w) (sym (e.rolls-Root r)) ∙ fold-roll-Expr Meaning (expr_step c w) (ef.Root r)

  pub expr_Field : (a : Expr) (f : FieldRef) → expr c w (e.Field a f) ≡ expr_step c w (ef.Field (expr c w a) f)
  expr_Field a f = ap (expr c w) (sym (e.rolls-Field a f)) ∙ fold-roll-Expr Meaning (expr_step c w) (ef.Field a f)

  pub expr_Elem : (a b : Expr) → expr c w (e.Elem a b) ≡ expr_step c w (ef.Elem (expr c w a) (expr c w b))
  expr_Elem a b = ap (expr c w) (sym (e.rolls-Elem a b)) ∙ fold-roll-Expr Meaning (expr_step c w) (ef.Elem a b)

  pub expr_Call : (a : Expr) (callees : List (ℕ × ℕ)) (args : List Expr) → expr c w (e.Call a callees args) ≡ expr_step c w (ef.Call (expr c w a) callees (map (expr c w) args))
  expr_Call a callees args = ap (expr c w) (sym (e.rolls-Call a callees args)) ∙ fold-roll-Expr Meaning (expr_step c w) (ef.Call a callees args)

  pub expr_NewObject : (class : ℕ) → expr c w (e.NewObject class) ≡ expr_step c w (ef.NewObject class)
  expr_NewObject class = ap (expr c w) (sym (e.rolls-NewObject class)) ∙ fold-roll-Expr Meaning (expr_step c w) (ef.NewObject class)

  pub expr_NewArray : (k : Kind) (a : Expr) → expr c w (e.NewArray k a) ≡ expr_step c w (ef.NewArray k (expr c w a))
  expr_NewArray k a = ap (expr c w) (sym (e.rolls-NewArray k a)) ∙ fold-roll-Expr Meaning (expr_step c w) (ef.NewArray k a)

  pub expr_Unary : (o : Op) (a : Expr) → expr c w (e.Unary o a) ≡ expr_step c w (ef.Unary o (expr c w a))
  expr_Unary o a = ap (expr c w) (sym (e.rolls-Unary o a)) ∙ fold-roll-Expr Meaning (expr_step c w) (ef.Unary o a)

  pub expr_Binary : (o : Op) (a b : Expr) → expr c w (e.Binary o a b) ≡ expr_step c w (ef.Binary o (expr c w a) (expr c w b))
  expr_Binary o a b = ap (expr c w) (sym (e.rolls-Binary o a b)) ∙ fold-roll-Expr Meaning (expr_step c w) (ef.Binary o a b)

module _ (c : Code) (w : MethodMeanings) (n : ℕ) where
  pub stmt_Assign : (i : ℕ) (a : Expr) → stmt c w n (s.Assign i a) ≡ stmt_step c w n (sf.Assign i a)
  stmt_Assign i a = ap (stmt c w n) (sym (s.rolls-Assign i a)) ∙ fold-roll-Stmt Meaning (stmt_step c w n) (sf.Assign i a)

  pub stmt_PutField : (a : Expr) (f : FieldRef) (b : Expr) → stmt c w n (s.PutField a f b) ≡ stmt_step c w n (sf.PutField a f b)
  stmt_PutField a f b = ap (stmt c w n) (sym (s.rolls-PutField a f b)) ∙ fold-roll-Stmt Meaning (stmt_step c w n) (sf.PutField a f b)

  pub stmt_PutElem : (a b d : Expr) → stmt c w n (s.PutElem a b d) ≡ stmt_step c w n (sf.PutElem a b d)
  stmt_PutElem a b d = ap (stmt c w n) (sym (s.rolls-PutElem a b d)) ∙ fold-roll-Stmt Meaning (stmt_step c w n) (sf.PutElem a b d)

  pub stmt_PutRoot : (r : ℕ) (a : Expr) → stmt c w n (s.PutRoot r a) ≡ stmt_step c w n (sf.PutRoot r a)
  stmt_PutRoot r a = ap (stmt c w n) (sym (s.rolls-PutRoot r a)) ∙ fold-roll-Stmt Meaning (stmt_step c w n) (sf.PutRoot r a)

  pub stmt_Eval : (a : Expr) → stmt c w n (s.Eval a) ≡ stmt_step c w n (sf.Eval a)
  stmt_Eval a = ap (stmt c w n) (sym (s.rolls-Eval a)) ∙ fold-roll-Stmt Meaning (stmt_step c w n) (sf.Eval a)

  pub stmt_If : (a : Expr) (x y : List Stmt) → stmt c w n (s.If a x y) ≡ stmt_step c w n (sf.If a (map (stmt c w n) x) (map (stmt c w n) y))
  stmt_If a x y = ap (stmt c w n) (sym (s.rolls-If a x y)) ∙ fold-roll-Stmt Meaning (stmt_step c w n) (sf.If a x y)

  pub stmt_While : (a : Expr) (x : List Stmt) → stmt c w n (s.While a x) ≡ stmt_step c w n (sf.While a (map (stmt c w n) x))
  stmt_While a x = ap (stmt c w n) (sym (s.rolls-While a x)) ∙ fold-roll-Stmt Meaning (stmt_step c w n) (sf.While a x)

  pub stmt_Sync : (a : Expr) (g : Grade) (x : List Stmt) → stmt c w n (s.Sync a g x) ≡ stmt_step c w n (sf.Sync a g (map (stmt c w n) x))
  stmt_Sync a g x = ap (stmt c w n) (sym (s.rolls-Sync a g x)) ∙ fold-roll-Stmt Meaning (stmt_step c w n) (sf.Sync a g x)

  pub stmt_Wait : (a : Expr) → stmt c w n (s.Wait a) ≡ stmt_step c w n (sf.Wait a)
  stmt_Wait a = ap (stmt c w n) (sym (s.rolls-Wait a)) ∙ fold-roll-Stmt Meaning (stmt_step c w n) (sf.Wait a)

  pub stmt_TimedWait : (a b : Expr) → stmt c w n (s.TimedWait a b) ≡ stmt_step c w n (sf.TimedWait a b)
  stmt_TimedWait a b = ap (stmt c w n) (sym (s.rolls-TimedWait a b)) ∙ fold-roll-Stmt Meaning (stmt_step c w n) (sf.TimedWait a b)

  pub stmt_Notify : (a : Expr) → stmt c w n (s.Notify a) ≡ stmt_step c w n (sf.Notify a)
  stmt_Notify a = ap (stmt c w n) (sym (s.rolls-Notify a)) ∙ fold-roll-Stmt Meaning (stmt_step c w n) (sf.Notify a)

  pub stmt_NotifyAll : (a : Expr) → stmt c w n (s.NotifyAll a) ≡ stmt_step c w n (sf.NotifyAll a)
  stmt_NotifyAll a = ap (stmt c w n) (sym (s.rolls-NotifyAll a)) ∙ fold-roll-Stmt Meaning (stmt_step c w n) (sf.NotifyAll a)

  pub stmt_Print : (a : Expr) → stmt c w n (s.Print a) ≡ stmt_step c w n (sf.Print a)
  stmt_Print a = ap (stmt c w n) (sym (s.rolls-Print a)) ∙ fold-roll-Stmt Meaning (stmt_step c w n) (sf.Print a)

  pub stmt_Return : (a : Option Expr) → stmt c w n (s.Return a) ≡ stmt_step c w n (sf.Return a)
  stmt_Return a = ap (stmt c w n) (sym (s.rolls-Return a)) ∙ fold-roll-Stmt Meaning (stmt_step c w n) (sf.Return a)

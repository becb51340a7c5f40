-- What each form weighs, one equation for each.
use Rattle.std.proofs.Common.{◌≡◌, ℕ, ◌+◌, List, Option, sym, ap, ◌∙◌}
use Rattle.dso_base.specs.declared.lock.Grade.{Grade}
use Rattle.dso_base.specs.declared.op.Op.{Op}
use Rattle.dso_base.specs.declared.value.Kind.{Kind}
use Rattle.dso_base.specs.declared.value.Value.{Value}
use Rattle.dso_machine.specs.declared.tree.Expr.{Expr, fold-roll-Expr}
use Rattle.dso_machine.specs.declared.tree.Expr.TheOpen as ef
use Rattle.dso_machine.specs.declared.tree.Expr.TheVariants as e
use Rattle.dso_machine.specs.declared.tree.FieldRef.{FieldRef}
use Rattle.dso_machine.specs.declared.tree.Stmt.{Stmt, fold-roll-Stmt}
use Rattle.dso_machine.specs.declared.tree.Stmt.TheOpen as sf
use Rattle.dso_machine.specs.declared.tree.Stmt.TheVariants as s
use Rattle.dso_machine.specs.Weight.{expr_weight, expr_weight_step, arguments_weight, stmt_weight, stmt_weight_step, block_weight, returned_weight}

pub weight_Const : (v : Value) → expr_weight (e.Const v) ≡ 3
weight_Const v = ap expr_weight (sym (e.rolls-Const v)) ∙ fold-roll-Expr ℕ expr_weight_step (ef.Const v)

pub weight_Var : (i : ℕ) → expr_weight (e.Var i) ≡ 3
weight_Var i = ap expr_weight (sym (e.rolls-Var i)) ∙ fold-roll-Expr ℕ expr_weight_step (ef.Var i)

pub weight_This : expr_weight e.This ≡ 3
weight_This = ap expr_weight (sym e.rolls-This) ∙ fold-roll-Expr ℕ expr_weight_step ef.This

pub weight_Root : (r : ℕ) → expr_weight (e.Root r) ≡ 3
weight_Root r = ap expr_weight (sym (e.rolls-Root r)) ∙ fold-roll-Expr ℕ expr_weight_step (ef.Root r)

pub weight_Field : (a : Expr) (f : FieldRef) → expr_weight (e.Field a f) ≡ expr_weight a + 2
weight_Field a f = ap expr_weight (sym (e.rolls-Field a f)) ∙ fold-roll-Expr ℕ expr_weight_step (ef.Field a f)

pub weight_Elem : (a b : Expr) → expr_weight (e.Elem a b) ≡ expr_weight a + expr_weight b + 2
weight_Elem a b = ap expr_weight (sym (e.rolls-Elem a b)) ∙ fold-roll-Expr ℕ expr_weight_step (ef.Elem a b)

pub weight_Call : (a : Expr) (callees : List (ℕ × ℕ)) (args : List Expr) → expr_weight (e.Call a callees args) ≡ expr_weight a + arguments_weight args + 2
weight_Call a callees args = ap expr_weight (sym (e.rolls-Call a callees args)) ∙ fold-roll-Expr ℕ expr_weight_step (ef.Call a callees args)

pub weight_NewObject : (class : ℕ) → expr_weight (e.NewObject class) ≡ 3
weight_NewObject class = ap expr_weight (sym (e.rolls-NewObject class)) ∙ fold-roll-Expr ℕ expr_weight_step (ef.NewObject class)

pub weight_NewArray : (k : Kind) (a : Expr) → expr_weight (e.NewArray k a) ≡ expr_weight a + 2
weight_NewArray k a = ap expr_weight (sym (e.rolls-NewArray k a)) ∙ fold-roll-Expr ℕ expr_weight_step (ef.NewArray k a)

pub weight_Unary : (o : Op) (a : Expr) → expr_weight (e.Unary o a) ≡ expr_weight a + 2
weight_Unary o a = ap expr_weight (sym (e.rolls-Unary o a)) ∙ fold-roll-Expr ℕ expr_weight_step (ef.Unary o a)

pub weight_Binary : (o : Op) (a b : Expr) → expr_weight (e.Binary o a b) ≡ expr_weight a + expr_weight b + 2
weight_Binary o a b = ap expr_weight (sym (e.rolls-Binary o a b)) ∙ fold-roll-Expr ℕ expr_weight_step (ef.Binary o a b)

pub weight_Assign : (i : ℕ) (a : Expr) → stmt_weight (s.Assign i a) ≡ expr_weight a + 2
weight_Assign i a = ap stmt_weight (sym (s.rolls-Assign i a)) ∙ fold-roll-Stmt ℕ stmt_weight_step (sf.Assign i a)

pub weight_PutField : (a : Expr) (f : FieldRef) (b : Expr) → stmt_weight (s.PutField a f b) ≡ expr_weight a + expr_weight b + 2
weight_PutField a f b = ap stmt_weight (sym (s.rolls-PutField a f b)) ∙ fold-roll-Stmt ℕ stmt_weight_step (sf.PutField a f b)

pub weight_PutElem : (a b d : Expr) → stmt_weight (s.PutElem a b d) ≡ expr_weight a + expr_weight b + expr_weight d + 3
weight_PutElem a b d = ap stmt_weight (sym (s.rolls-PutElem a b d)) ∙ fold-roll-Stmt ℕ stmt_weight_step (sf.PutElem a b d)

pub weight_PutRoot : (r : ℕ) (a : Expr) → stmt_weight (s.PutRoot r a) ≡ expr_weight a + 2
weight_PutRoot r a = ap stmt_weight (sym (s.rolls-PutRoot r a)) ∙ fold-roll-Stmt ℕ stmt_weight_step (sf.PutRoot r a)

pub weight_Eval : (a : Expr) → stmt_weight (s.Eval a) ≡ expr_weight a + 1
weight_Eval a = ap stmt_weight (sym (s.rolls-Eval a)) ∙ fold-roll-Stmt ℕ stmt_weight_step (sf.Eval a)

pub weight_If : (a : Expr) (x y : List Stmt) → stmt_weight (s.If a x y) ≡ expr_weight a + block_weight x + block_weight y + 2
weight_If a x y = ap stmt_weight (sym (s.rolls-If a x y)) ∙ fold-roll-Stmt ℕ stmt_weight_step (sf.If a x y)

pub weight_While : (a : Expr) (x : List Stmt) → stmt_weight (s.While a x) ≡ 4
weight_While a x = ap stmt_weight (sym (s.rolls-While a x)) ∙ fold-roll-Stmt ℕ stmt_weight_step (sf.While a x)

pub weight_Sync : (a : Expr) (g : Grade) (x : List Stmt) → stmt_weight (s.Sync a g x) ≡ expr_weight a + block_weight x + 2
weight_Sync a g x = ap stmt_weight (sym (s.rolls-Sync a g x)) ∙ fold-roll-Stmt ℕ stmt_weight_step (sf.Sync a g x)

pub weight_Wait : (a : Expr) → stmt_weight (s.Wait a) ≡ expr_weight a + 2
weight_Wait a = ap stmt_weight (sym (s.rolls-Wait a)) ∙ fold-roll-Stmt ℕ stmt_weight_step (sf.Wait a)

pub weight_TimedWait : (a b : Expr) → stmt_weight (s.TimedWait a b) ≡ expr_weight a + expr_weight b + 2
weight_TimedWait a b = ap stmt_weight (sym (s.rolls-TimedWait a b)) ∙ fold-roll-Stmt ℕ stmt_weight_step (sf.TimedWait a b)

pub weight_Notify : (a : Expr) → stmt_weight (s.Notify a) ≡ expr_weight a + 2
weight_Notify a = ap stmt_weight (sym (s.rolls-Notify a)) ∙ fold-roll-Stmt ℕ stmt_weight_step (sf.Notify a)

pub weight_NotifyAll : (a : Expr) → stmt_weight (s.NotifyAll a) ≡ expr_weight a + 2
weight_NotifyAll a = ap stmt_weight (sym (s.rolls-NotifyAll a)) ∙ fold-roll-Stmt ℕ stmt_weight_step (sf.NotifyAll a)

pub weight_Print : (a : Expr) → stmt_weight (s.Print a) ≡ expr_weight a + 2
weight_Print a = ap stmt_weight (sym (s.rolls-Print a)) ∙ fold-roll-Stmt ℕ stmt_weight_step (sf.Print a)

pub weight_Return : (a : Option Expr) → stmt_weight (s.Return a) ≡ returned_weight a
weight_Return a = ap stmt_weight (sym (s.rolls-Return a)) ∙ fold-roll-Stmt ℕ stmt_weight_step (sf.Return a)

pub ruleset weights = (weight_Const, weight_Var, weight_This, weight_Root, weight_Field, weight_Elem, weight_Call, weight_NewObject, weight_NewArray, weight_Unary, weight_Binary, weight_Assign, weight_PutField, weight_PutElem, weight_PutRoot, weight_Eval, weight_If, weight_While, weight_Sync, weight_Wait, weight_TimedWait, weight_Notify, weight_NotifyAll, weight_Print, weight_Return)

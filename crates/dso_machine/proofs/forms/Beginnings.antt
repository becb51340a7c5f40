-- How each form is begun: one lemma for each.
use Rattle.std.proofs.Common.{ℕ, List, None, Some, ap}
use Rattle.std.specs.Prelude.{length, slice_index_or}
use Rattle.dso_base.specs.declared.lock.Grade.{Grade}
use Rattle.dso_base.specs.declared.lock.Grade.TheVariants as grade
use Rattle.dso_base.specs.declared.lock.Level.TheVariants.{Read}
use Rattle.dso_base.specs.declared.lock.LockName.TheVariants.{Name}
use Rattle.dso_base.specs.declared.op.Op.{Op}
use Rattle.dso_base.specs.declared.request.Request.TheVariants as request
use Rattle.dso_base.specs.declared.value.ClassId.TheVariants.{Plain}
use Rattle.dso_base.specs.declared.value.Kind.{Kind}
use Rattle.dso_base.specs.declared.value.Value.{Value}
use Rattle.dso_base.specs.declared.value.Value.TheVariants as value
use Rattle.dso_base.specs.Shape.{fields_at}
use Rattle.dso_machine.specs.declared.code.Code.{Code}
use Rattle.dso_machine.specs.declared.continuation.End.TheVariants as end
use Rattle.dso_machine.specs.declared.continuation.Frame.{Frame}
use Rattle.dso_machine.specs.declared.continuation.Locked.TheVariants as locked
use Rattle.dso_machine.specs.declared.continuation.Monitor.TheVariants as monitor
use Rattle.dso_machine.specs.declared.continuation.Move.TheVariants as move
use Rattle.dso_machine.specs.declared.continuation.Now.TheVariants as now
use Rattle.dso_machine.specs.declared.continuation.OnReply.TheVariants as reply
use Rattle.dso_machine.specs.declared.continuation.OnValue.TheVariants as then
use Rattle.dso_machine.specs.declared.continuation.Writing.TheVariants as write
use Rattle.dso_machine.specs.declared.tree.Expr.{Expr}
use Rattle.dso_machine.specs.declared.tree.Expr.TheVariants as e
use Rattle.dso_machine.specs.declared.tree.FieldRef.{FieldRef}
use Rattle.dso_machine.specs.declared.tree.Stmt.{Stmt}
use Rattle.dso_machine.specs.declared.tree.Stmt.TheVariants as s
use Rattle.dso_machine.specs.Continuation.{Opens, Executes, alone, used, in_frame}
use Rattle.dso_machine.specs.Statements.{methods}
use Rattle.dso_machine.proofs.forms.Equations as is

module _ (c : Code) (f : Frame) where
  pub begin_Const : (v : Value) → Opens c (now.Evaluate (e.Const v)) f (alone (now.Have (end.Gives v)))
  begin_Const v = record { opens = λ n k m u rs. ap (λ g. g (in_frame f u m rs)) (is.expr_Const c (methods c n) v) }

  pub begin_Var : (i : ℕ) → Opens c (now.Evaluate (e.Var i)) f (alone (now.Have (end.Gives (slice_index_or f.vars i value.Null))))
  begin_Var i = record { opens = λ n k m u rs. ap (λ g. g (in_frame f u m rs)) (is.expr_Var c (methods c n) i) }

  pub begin_This : Opens c (now.Evaluate e.This) f (alone (now.Have (end.Gives f.this)))
  begin_This = record { opens = λ n k m u rs. ap (λ g. g (in_frame f u m rs)) (is.expr_This c (methods c n)) }

  pub begin_Root : (r : ℕ) → Opens c (now.Evaluate (e.Root r)) f (alone (now.Ask (request.Enter (Name r) Read) (reply.Entered (Name r) grade.Read (locked.Read r))))
  begin_Root r = record { opens = λ n k m u rs. ap (λ g. g (in_frame f u m rs)) (is.expr_Root c (methods c n) r) }

  pub begin_Field : (a : Expr) (p : FieldRef) → Opens c (now.Evaluate (e.Field a p)) f (used (now.Evaluate a) (then.Field p))
  begin_Field a p = record { opens = λ n k m u rs. ap (λ g. g (in_frame f u m rs)) (is.expr_Field c (methods c n) a p) }

  pub begin_Elem : (a b : Expr) → Opens c (now.Evaluate (e.Elem a b)) f (used (now.Evaluate a) (then.Array b))
  begin_Elem a b = record { opens = λ n k m u rs. ap (λ g. g (in_frame f u m rs)) (is.expr_Elem c (methods c n) a b) }

  pub begin_Call : (a : Expr) (callees : List (ℕ × ℕ)) (args : List Expr) → Opens c (now.Evaluate (e.Call a callees args)) f (used (now.Evaluate a) (then.Object callees args))
  begin_Call a callees args = record { opens = λ n k m u rs. ap (λ g. g (in_frame f u m rs)) (is.expr_Call c (methods c n) a callees args) }

  pub begin_NewObject : (class : ℕ) → Opens c (now.Evaluate (e.NewObject class)) f (alone (now.Ask (request.New (Plain class) (length (fields_at c.shape class))) reply.Made))
  begin_NewObject class = record { opens = λ n k m u rs. ap (λ g. g (in_frame f u m rs)) (is.expr_NewObject c (methods c n) class) }

  pub begin_NewArray : (kind : Kind) (a : Expr) → Opens c (now.Evaluate (e.NewArray kind a)) f (used (now.Evaluate a) (then.Size kind))
  begin_NewArray kind a = record { opens = λ n k m u rs. ap (λ g. g (in_frame f u m rs)) (is.expr_NewArray c (methods c n) kind a) }

  pub begin_Unary : (o : Op) (a : Expr) → Opens c (now.Evaluate (e.Unary o a)) f (used (now.Evaluate a) (then.Operand o))
  begin_Unary o a = record { opens = λ n k m u rs. ap (λ g. g (in_frame f u m rs)) (is.expr_Unary c (methods c n) o a) }

  pub begin_Binary : (o : Op) (a b : Expr) → Opens c (now.Evaluate (e.Binary o a b)) f (used (now.Evaluate a) (then.First o b))
  begin_Binary o a b = record { opens = λ n k m u rs. ap (λ g. g (in_frame f u m rs)) (is.expr_Binary c (methods c n) o a b) }

  pub begin_Assign : (i : ℕ) (a : Expr) → Executes c (s.Assign i a) f (used (now.Evaluate a) (then.Assign i))
  begin_Assign i a = record { executes = λ n m u rs. ap (λ g. g (in_frame f u m rs)) (is.stmt_Assign c (methods c n) n i a) }

  pub begin_PutField : (a : Expr) (p : FieldRef) (b : Expr) → Executes c (s.PutField a p b) f (used (now.Evaluate a) (then.Write (write.FieldOf p b)))
  begin_PutField a p b = record { executes = λ n m u rs. ap (λ g. g (in_frame f u m rs)) (is.stmt_PutField c (methods c n) n a p b) }

  pub begin_PutElem : (a b d : Expr) → Executes c (s.PutElem a b d) f (used (now.Evaluate a) (then.Write (write.ElementOf b d)))
  begin_PutElem a b d = record { executes = λ n m u rs. ap (λ g. g (in_frame f u m rs)) (is.stmt_PutElem c (methods c n) n a b d) }

  pub begin_PutRoot : (r : ℕ) (a : Expr) → Executes c (s.PutRoot r a) f (used (now.Evaluate a) (then.Write (write.Root r)))
  begin_PutRoot r a = record { executes = λ n m u rs. ap (λ g. g (in_frame f u m rs)) (is.stmt_PutRoot c (methods c n) n r a) }

  pub begin_Eval : (a : Expr) → Executes c (s.Eval a) f (alone (now.Evaluate a))
  begin_Eval a = record { executes = λ n m u rs. ap (λ g. g (in_frame f u m rs)) (is.stmt_Eval c (methods c n) n a) }

  pub begin_If : (a : Expr) (x y : List Stmt) → Executes c (s.If a x y) f (used (now.Evaluate a) (then.If x y))
  begin_If a x y = record { executes = λ n m u rs. ap (λ g. g (in_frame f u m rs)) (is.stmt_If c (methods c n) n a x y) }

  pub begin_While : (a : Expr) (x : List Stmt) → Executes c (s.While a x) f (alone (now.Pace (move.Turn a x)))
  begin_While a x = record { executes = λ n m u rs. ap (λ g. g (in_frame f u m rs)) (is.stmt_While c (methods c n) n a x) }

  pub begin_Sync : (a : Expr) (g : Grade) (x : List Stmt) → Executes c (s.Sync a g x) f (used (now.Evaluate a) (then.Monitor (monitor.Sync g x)))
  begin_Sync a g x = record { executes = λ n m u rs. ap (λ g. g (in_frame f u m rs)) (is.stmt_Sync c (methods c n) n a g x) }

  pub begin_Wait : (a : Expr) → Executes c (s.Wait a) f (used (now.Evaluate a) (then.Monitor monitor.Wait))
  begin_Wait a = record { executes = λ n m u rs. ap (λ g. g (in_frame f u m rs)) (is.stmt_Wait c (methods c n) n a) }

  pub begin_TimedWait : (a b : Expr) → Executes c (s.TimedWait a b) f (used (now.Evaluate a) (then.Monitor (monitor.TimedWait b)))
  begin_TimedWait a b = record { executes = λ n m u rs. ap (λ g. g (in_frame f u m rs)) (is.stmt_TimedWait c (methods c n) n a b) }

  pub begin_Notify : (a : Expr) → Executes c (s.Notify a) f (used (now.Evaluate a) (then.Monitor monitor.Notify))
  begin_Notify a = record { executes = λ n m u rs. ap (λ g. g (in_frame f u m rs)) (is.stmt_Notify c (methods c n) n a) }

  pub begin_NotifyAll : (a : Expr) → Executes c (s.NotifyAll a) f (used (now.Evaluate a) (then.Monitor monitor.NotifyAll))
  begin_NotifyAll a = record { executes = λ n m u rs. ap (λ g. g (in_frame f u m rs)) (is.stmt_NotifyAll c (methods c n) n a) }

  pub begin_Print : (a : Expr) → Executes c (s.Print a) f (used (now.Evaluate a) then.Print)
  begin_Print a = record { executes = λ n m u rs. ap (λ g. g (in_frame f u m rs)) (is.stmt_Print c (methods c n) n a) }

  pub begin_Return_none : Executes c (s.Return None) f (alone (now.Have (end.Leaves value.Null)))
  begin_Return_none = record { executes = λ n m u rs. ap (λ g. g (in_frame f u m rs)) (is.stmt_Return c (methods c n) n None) }

  pub begin_Return_some : (a : Expr) → Executes c (s.Return (Some a)) f (used (now.Evaluate a) then.Return)
  begin_Return_some a = record { executes = λ n m u rs. ap (λ g. g (in_frame f u m rs)) (is.stmt_Return c (methods c n) n (Some a)) }

pub ruleset evaluating = (begin_Const, begin_Var, begin_This, begin_Root, begin_Field, begin_Elem, begin_Call, begin_NewObject, begin_NewArray, begin_Unary, begin_Binary)

pub ruleset executing = (begin_Assign, begin_PutField, begin_PutElem, begin_PutRoot, begin_Eval, begin_If, begin_While, begin_Sync, begin_Wait, begin_TimedWait, begin_Notify, begin_NotifyAll, begin_Print, begin_Return_none, begin_Return_some)

-- Each expression and each statement of code is tidy, and so is each body.
use Rattle.std.proofs.Common.{refl, ℕ, zero, suc, List, [], ◌∷◌, ◌++◌, map, Option, None, Some, sym, subst}
use Rattle.std.specs.Prelude.{slice_get, slice_index_or}
use Rattle.dso_base.specs.declared.lock.LockName.TheVariants.{Mon}
use Rattle.dso_base.specs.declared.request.Request.TheVariants as request
use Rattle.dso_base.specs.declared.value.ClassId.TheVariants.{Plain}
use Rattle.dso_base.specs.declared.value.Value.{Value}
use Rattle.dso_base.specs.declared.value.Value.TheVariants as value
use Rattle.dso_machine.specs.declared.code.Code.{Code}
use Rattle.dso_machine.specs.declared.tree.Expr.{Expr, Expr-F, map-Expr, ind-Expr, fold-roll-Expr}
use Rattle.dso_machine.specs.declared.tree.Expr.TheOpen as ef
use Rattle.dso_machine.specs.declared.tree.Stmt.{Stmt, Stmt-F, map-Stmt, ind-Stmt, fold-roll-Stmt}
use Rattle.dso_machine.specs.declared.tree.Stmt.TheOpen as sf
use Rattle.dso_machine.specs.Calls.{call_on, arguments, MethodMeanings}
use Rattle.dso_machine.specs.Expressions.{field_of, element_of, new_array, second, expr, expr_step}
use Rattle.dso_machine.specs.Outcome.{Gives, Leaves, Meaning, on_value, on_next, on_next_beside, on_object, holding, result_of, tell}
use Rattle.dso_machine.specs.Statements.{assign, put_field, put_element, put_root, sync, wait, timed_wait, branch, spun, seq, returned, stmt, stmt_step, block, methods, statements_of}
use Rattle.dso_machine.specs.Values.{unary}
use Rattle.dso_machine.proofs.unwinding.Tidy.{IsTidy, tidy_gives, tidy_leaves, tidy_stopped, tidy_after, tidy_holding, Tidy}
use Rattle.dso_machine.proofs.unwinding.Parts.{TidyMethods, tidy_result, tidy_make, tidy_object, tidy_tell, tidy_moving, tidy_wait, tidy_call, tidy_field, tidy_element, tidy_root, tidy_array, tidy_second, tidy_assign, tidy_put_field, tidy_put_element, tidy_put_root, tidy_sync, tidy_timed_wait, tidy_branch, tidy_spun}

-- an expression that is tidy
abbrev Kid : Code → MethodMeanings → Type 0
Kid c w = (a : Expr) × IsTidy (expr c w a)

-- a statement that is tidy
abbrev KidStmt : Code → MethodMeanings → ℕ → Type 0
KidStmt c w n = (s : Stmt) × IsTidy (stmt c w n s)

module _ (c : Code) (w : MethodMeanings) (ways : TidyMethods w) where
  -- the arguments that are left, and then the call
  tidy_arguments : (f : List Value → Meaning) → ((vs : List Value) → IsTidy (f vs)) → (y : Value) (ks : List (Kid c w)) (before : List Value)
      → IsTidy (arguments f y (map (expr c w) (map (λ k. k.0) ks)) before)
  tidy_arguments f tidy y [] before = tidy before
  tidy_arguments f tidy y (k ∷ ks) before = tidy_after (λ v. arguments f y (map (expr c w) (map (λ x. x.0) ks)) (before ++ v ∷ [])) (holding (y ∷ before) (expr c w k.0)) (tidy_holding (y ∷ before) (expr c w k.0) k.1) (λ v. tidy_arguments f tidy y ks (before ++ v ∷ []))

  -- an expression whose parts are tidy
  expr_layer : (y : Expr-F (Kid c w)) → IsTidy (expr_step c w (map-Expr Expr Meaning (expr c w) (map-Expr (Kid c w) Expr (λ k. k.0) y)))
  expr_layer (ef.Const v) = tidy_gives v
  expr_layer (ef.Var i) = record { from = λ u. Tidy.ends (Gives (slice_index_or u.environment.vars i value.Null) u) (λ rs. refl) tt }
  expr_layer ef.This = record { from = λ u. Tidy.ends (Gives u.environment.this u) (λ rs. refl) tt }
  expr_layer (ef.Root r) = tidy_root r
  expr_layer (ef.Field a f) = tidy_after (field_of f) (expr c w a.0) a.1 (tidy_field f)
  expr_layer (ef.Elem a b) = tidy_after (on_next element_of (expr c w b.0)) (expr c w a.0) a.1 (λ x. tidy_after (element_of x) (holding (x ∷ []) (expr c w b.0)) (tidy_holding (x ∷ []) (expr c w b.0) b.1) (tidy_element x))
  expr_layer (ef.Call a callees args) = tidy_after (λ x. arguments (call_on c w callees x) x (map (expr c w) (map (λ k. k.0) args)) []) (expr c w a.0) a.1
      (λ x. tidy_arguments (call_on c w callees x) (tidy_call c w ways callees x) x args [])
  expr_layer (ef.NewObject class) = tidy_make (Plain class) _
  expr_layer (ef.NewArray kind a) = tidy_after (new_array kind) (expr c w a.0) a.1 (tidy_array kind)
  expr_layer (ef.Unary o a) = tidy_after (λ v. result_of (unary o v)) (expr c w a.0) a.1 (λ v. tidy_result (unary o v))
  expr_layer (ef.Binary o a b) = tidy_after (second o (expr c w b.0)) (expr c w a.0) a.1 (tidy_second o (expr c w b.0) b.1)

  -- an expression
  pub tidy_expr : (a : Expr) → IsTidy (expr c w a)
  tidy_expr = ind-Expr (λ a. IsTidy (expr c w a)) (λ x y is.
      let g : IsTidy (expr_step c w (map-Expr Expr Meaning (expr c w) x)) = subst (λ z. IsTidy (expr_step c w (map-Expr Expr Meaning (expr c w) z))) is (expr_layer y) in
      subst (λ f. IsTidy f) (sym (fold-roll-Expr Meaning (expr_step c w) x)) g)

  -- an expression, and then what is made of its value
  pub tidy_of : (a : Expr) (f : Value → Meaning) → ((v : Value) → IsTidy (f v)) → IsTidy (λ at. on_value f (expr c w a at))
  tidy_of a f g = tidy_after f (expr c w a) (tidy_expr a) g

  -- the same, while these values are held
  pub tidy_beside : (vs : List Value) (a : Expr) (f : Value → Meaning) → ((v : Value) → IsTidy (f v)) → IsTidy (λ at. on_value f (holding vs (expr c w a) at))
  tidy_beside vs a f g = tidy_after f (holding vs (expr c w a)) (tidy_holding vs (expr c w a) (tidy_expr a)) g

  -- arguments that are left, and then the call
  pub tidy_args_on : (f : List Value → Meaning) → ((vs : List Value) → IsTidy (f vs)) → (y : Value) (xs : List Expr) (before : List Value) → IsTidy (arguments f y (map (expr c w) xs) before)
  tidy_args_on f tidy y [] before = tidy before
  tidy_args_on f tidy y (x ∷ xs) before = tidy_beside (y ∷ before) x (λ v. arguments f y (map (expr c w) xs) (before ++ v ∷ [])) (λ v. tidy_args_on f tidy y xs (before ++ v ∷ []))

  module _ (n : ℕ) where
    -- statements that are tidy, one after the other
    tidy_seq : (ks : List (KidStmt c w n)) → IsTidy (seq (map (stmt c w n) (map (λ k. k.0) ks)))
    tidy_seq [] = tidy_gives value.Null
    tidy_seq (k ∷ ks) = tidy_after (λ v. seq (map (stmt c w n) (map (λ x. x.0) ks))) (stmt c w n k.0) k.1 (λ v. tidy_seq ks)

    -- what is returned
    tidy_returned : (a : Option Expr) → IsTidy (returned c w a)
    tidy_returned None = tidy_leaves value.Null
    tidy_returned (Some a) = tidy_of a Leaves tidy_leaves

    -- what is done with a monitor
    tidy_monitor_use : (q : ℕ → Meaning) → ((object : ℕ) → IsTidy (q object)) → (a : Expr) → IsTidy (λ at. on_value (on_object q) (expr c w a at))
    tidy_monitor_use q tidy a = tidy_of a (on_object q) (tidy_object q tidy)

    -- a statement whose parts are tidy
    stmt_layer : (y : Stmt-F (KidStmt c w n)) → IsTidy (stmt_step c w n (map-Stmt Stmt Meaning (stmt c w n) (map-Stmt (KidStmt c w n) Stmt (λ k. k.0) y)))
    stmt_layer (sf.Assign i a) = tidy_of a (assign i) (tidy_assign i)
    stmt_layer (sf.PutField a f b) = tidy_of a (on_next (put_field c.shape f) (expr c w b)) (λ x. tidy_beside (x ∷ []) b (put_field c.shape f x) (tidy_put_field c.shape f x))
    stmt_layer (sf.PutElem a b d) = tidy_of a (on_next (λ x. on_next_beside (x ∷ []) (put_element x) (expr c w d)) (expr c w b))
        (λ x. tidy_beside (x ∷ []) b (on_next_beside (x ∷ []) (put_element x) (expr c w d)) (λ i. tidy_beside (x ∷ i ∷ []) d (put_element x i) (tidy_put_element x i)))
    stmt_layer (sf.PutRoot r a) = tidy_of a (put_root r) (tidy_put_root r)
    stmt_layer (sf.Eval a) = tidy_expr a
    stmt_layer (sf.If a x y) = tidy_of a (branch (seq (map (stmt c w n) (map (λ k. k.0) x))) (seq (map (stmt c w n) (map (λ k. k.0) y)))) (tidy_branch _ _ (tidy_seq x) (tidy_seq y))
    stmt_layer (sf.While a x) = tidy_moving (spun (expr c w a) (seq (map (stmt c w n) (map (λ k. k.0) x))) n) (tidy_spun _ _ (tidy_expr a) (tidy_seq x) n)
    stmt_layer (sf.Sync a grade x) = tidy_of a (sync grade (seq (map (stmt c w n) (map (λ k. k.0) x)))) (tidy_sync grade (seq (map (stmt c w n) (map (λ k. k.0) x))) (tidy_seq x))
    stmt_layer (sf.Wait a) = tidy_monitor_use (λ object. wait 0 (Mon object)) (λ object. tidy_wait 0 (Mon object)) a
    stmt_layer (sf.TimedWait a b) = tidy_of a (on_next timed_wait (expr c w b)) (λ x. tidy_beside (x ∷ []) b (timed_wait x) (tidy_timed_wait x))
    stmt_layer (sf.Notify a) = tidy_monitor_use (λ object. tell (request.Notify (Mon object))) (λ object. tidy_tell (request.Notify (Mon object)) refl) a
    stmt_layer (sf.NotifyAll a) = tidy_monitor_use (λ object. tell (request.NotifyAll (Mon object))) (λ object. tidy_tell (request.NotifyAll (Mon object)) refl) a
    stmt_layer (sf.Print a) = tidy_of a (λ v. tell (request.Print v)) (λ v. tidy_tell (request.Print v) refl)
    stmt_layer (sf.Return a) = tidy_returned a

    -- a statement
    pub tidy_stmt : (s : Stmt) → IsTidy (stmt c w n s)
    tidy_stmt = ind-Stmt (λ s. IsTidy (stmt c w n s)) (λ x y is.
        let g : IsTidy (stmt_step c w n (map-Stmt Stmt Meaning (stmt c w n) x)) = subst (λ z. IsTidy (stmt_step c w n (map-Stmt Stmt Meaning (stmt c w n) z))) is (stmt_layer y) in
        subst (λ f. IsTidy f) (sym (fold-roll-Stmt Meaning (stmt_step c w n) x)) g)

    -- statements
    pub tidy_block : (ss : List Stmt) → IsTidy (block c w n ss)
    tidy_block [] = tidy_gives value.Null
    tidy_block (s ∷ ss) = tidy_after (λ v. block c w n ss) (stmt c w n s) (tidy_stmt s) (λ v. tidy_block ss)

-- the methods' bodies
pub tidy_methods : (c : Code) (n : ℕ) → TidyMethods (methods c n)
tidy_methods c zero m = record { from = λ u. tidy_stopped.from u }
tidy_methods c (suc n) m = tidy_block c (methods c n) (tidy_methods c n) n (statements_of (slice_get c.methods m))

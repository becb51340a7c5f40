-- Each expression and each statement of sound code holds only what is known, and so does each body: its literals are no objects.
use Rattle.std.proofs.Common.{◌≡◌, refl, ℕ, zero, suc, Bool, true, List, [], ◌∷◌, length, map, Option, None, Some, subst, sym}
use Rattle.std.specs.Prelude.{slice_get, slice_index_or}
use Rattle.dso_base.specs.declared.lock.LockName.TheVariants.{Mon}
use Rattle.dso_base.specs.declared.request.Request.TheVariants as request
use Rattle.dso_base.specs.declared.value.ClassId.TheVariants.{Plain}
use Rattle.dso_base.specs.declared.value.Value.{Value}
use Rattle.dso_base.specs.declared.value.Value.TheVariants as value
use Rattle.dso_base.specs.Shape.{fields_at}
use Rattle.dso_machine.specs.declared.code.Code.{Code}
use Rattle.dso_machine.specs.declared.code.Method.{Method}
use Rattle.dso_machine.specs.declared.tree.Expr.{Expr}
use Rattle.dso_machine.specs.declared.tree.Stmt.{Stmt}
use Rattle.dso_machine.specs.Calls.{call_on, arguments, MethodMeanings}
use Rattle.dso_machine.specs.Expressions.{field_of, element_of, new_array, second, expr}
use Rattle.dso_machine.specs.Outcome.{Gives, Leaves, Meaning, on_value, on_next, on_next_beside, on_object, holding, result_of, tell}
use Rattle.dso_machine.specs.Sound.{Scope, SoundExpr, SoundExprs, SoundStmt, SoundBlock, IsSoundMethod, IsSoundCode}
use Rattle.dso_machine.specs.Statements.{assign, put_field, put_element, put_root, sync, wait, timed_wait, branch, spun, seq, stmt, block, methods, statements_of}
use Rattle.dso_machine.specs.Values.{unary}
use Rattle.dso_machine.proofs.forms.Equations.{expr_Const, expr_Var, expr_This, expr_Root, expr_Field, expr_Elem, expr_Call, expr_NewObject, expr_NewArray, expr_Unary, expr_Binary}
use Rattle.dso_machine.proofs.forms.Equations.{stmt_Assign, stmt_PutField, stmt_PutElem, stmt_PutRoot, stmt_Eval, stmt_If, stmt_While, stmt_Sync, stmt_Wait, stmt_TimedWait, stmt_Notify, stmt_NotifyAll, stmt_Print, stmt_Return}
use Rattle.dso_machine.proofs.protocol.Expressions.{known_at, known_literal, known_unary}
use Rattle.dso_machine.proofs.protocol.Threads.{all_of}
use Rattle.dso_machine.proofs.frames.Calls.{Bodies, part_call}
use Rattle.dso_machine.proofs.frames.Held.{IsOne, HoldsOnly, Part, part_by, part_any, part_plain, part_leaves, part_stopped, part_value, part_beside}
use Rattle.dso_machine.proofs.frames.Parts.{Parts, part_tell, part_make, part_object, part_result, part_moving, part_field, part_element, part_root, part_array, part_second, part_assign, part_put_field, part_put_element, part_put_root, part_sync, part_wait, part_timed_wait, part_branch, part_spun, part_arguments, part_null}

-- a part that is another one
part_as : (m n : Meaning) → m ≡ n → Part [] n → Part [] m
part_as m n is part = subst (Part []) (sym is) part

module _ (c : Code) (w : MethodMeanings) (bodies : Bodies w) (count : ℕ) (in_method : Bool) where
  -- what the expressions may name
  abbrev scope : Scope
  scope = record { code = c; vars = count; in_method = in_method }

  -- the value of a variable, and the object that a method is called on
  part_variable : (i : ℕ) → Part [] (λ at. Gives (slice_index_or at.environment.vars i value.Null) at)
  part_variable i = record {
    from = λ known kept u st all. HoldsOnly.ends (Gives (slice_index_or u.environment.vars i value.Null) u) (λ rs. refl)
        (known_at (λ t. Unit {0}) (IsOne known) u.environment.vars i st.vars, st);
  }

  part_this : Part [] (λ at. Gives at.environment.this at)
  part_this = record { from = λ known kept u st all. HoldsOnly.ends (Gives u.environment.this u) (λ rs. refl) (st.this, st) }

  mutual
    -- a sound expression
    part_expr : {a : Expr} → SoundExpr scope a → Part [] (expr c w a)
    part_expr (SoundExpr.constant {v = v} literal) = part_as _ _ (expr_Const c w v) (part_plain v (λ k. known_literal c.shape (λ t. Unit {0}) (IsOne k) (λ t there. tt) v literal))
    part_expr (SoundExpr.variable {i = i} there) = part_as _ _ (expr_Var c w i) (part_variable i)
    part_expr (SoundExpr.this there) = part_as _ _ (expr_This c w) part_this
    part_expr (SoundExpr.root {r = r} there) = part_as _ _ (expr_Root c w r) (part_root r)
    part_expr (SoundExpr.field {a = a} {f = f} inner places) = part_as _ _ (expr_Field c w a f) (part_value [] (field_of f) (expr c w a) (part_expr inner) (part_field f))
    part_expr (SoundExpr.element {a = a} {b = b} inner index) = part_as _ _ (expr_Elem c w a b)
        (part_value [] (on_next element_of (expr c w b)) (expr c w a) (part_expr inner)
        (λ x. part_beside (x ∷ []) (element_of x) (expr c w b) (part_expr index) (λ i. part_by (i ∷ x ∷ []) (λ k all. all.1) (part_element x i))))
    part_expr (SoundExpr.call {a = a} {callees = callees} {args = args} inner are rest) = part_as _ _ (expr_Call c w a callees args)
        (part_value [] (λ x. arguments (call_on c w callees x) x (map (expr c w) args) []) (expr c w a) (part_expr inner)
        (λ x. part_arguments (call_on c w callees x) x (part_call c w bodies callees x) (map (expr c w) args) [] (part_exprs rest)))
    part_expr (SoundExpr.object {c = class} there) = part_as _ _ (expr_NewObject c w class) (part_make (Plain class) (length (fields_at c.shape class)))
    part_expr (SoundExpr.array {k = kind} {a = a} inner) = part_as _ _ (expr_NewArray c w kind a)
        (part_value [] (new_array kind) (expr c w a) (part_expr inner) (λ v. part_any (v ∷ []) (part_array kind v)))
    part_expr (SoundExpr.unary {o = o} {a = a} is inner) = part_as _ _ (expr_Unary c w o a)
        (part_value [] (λ v. result_of (unary o v)) (expr c w a) (part_expr inner) (λ v. part_result (v ∷ []) (unary o v) (λ k. known_unary (λ t. Unit {0}) (IsOne k) o v)))
    part_expr (SoundExpr.binary {o = o} {a = a} {b = b} is inner other) = part_as _ _ (expr_Binary c w o a b)
        (part_value [] (second o (expr c w b)) (expr c w a) (part_expr inner) (part_second o (expr c w b) (part_expr other)))

    -- so each of a list
    part_exprs : {all : List Expr} → SoundExprs scope all → Parts (map (expr c w) all)
    part_exprs SoundExprs.none = tt
    part_exprs (SoundExprs.more one rest) = (part_expr one, part_exprs rest)

  -- a sound expression, and then what is made of its value
  part_of : {a : Expr} → SoundExpr scope a → (f : Value → Meaning) → ((v : Value) → Part (v ∷ []) (f v)) → Part [] (λ at. on_value f (expr c w a at))
  part_of {a} sound f then = part_value [] f (expr c w a) (part_expr sound) then

  -- the same, while values are held
  part_of_beside : (vs : List Value) {a : Expr} → SoundExpr scope a → (f : Value → Meaning) → ((v : Value) → Part (v ∷ vs) (f v)) → Part vs (λ at. on_value f (holding vs (expr c w a) at))
  part_of_beside vs {a} sound f then = part_beside vs f (expr c w a) (part_expr sound) then

  -- what is done with a monitor
  part_of_monitor : {a : Expr} → SoundExpr scope a → (f : ℕ → Meaning) → ((object : ℕ) → Part (value.Ref object ∷ []) (f object)) → Part [] (λ at. on_value (on_object f) (expr c w a at))
  part_of_monitor sound f then = part_of sound (on_object f) (part_object [] f then)

  module _ (n : ℕ) where
    mutual
      -- a sound statement
      part_stmt : {room : ℕ} {a : Stmt} → SoundStmt scope room a → Part [] (stmt c w n a)
      part_stmt (SoundStmt.assign {i = i} {a = a} there one) = part_as _ _ (stmt_Assign c w n i a) (part_of one (assign i) (part_assign i))
      part_stmt (SoundStmt.put_field {a = a} {b = b} {f = f} one places other) = part_as _ _ (stmt_PutField c w n a f b)
          (part_of one (on_next (put_field c.shape f) (expr c w b))
          (λ x. part_of_beside (x ∷ []) other (put_field c.shape f x) (λ v. part_by (v ∷ x ∷ []) (λ k all. (all.1.0, (all.0, tt))) (part_put_field c.shape f x v))))
      part_stmt (SoundStmt.put_element {a = a} {b = b} {c = d} one index other) = part_as _ _ (stmt_PutElem c w n a b d)
          (part_of one (on_next (λ x. on_next_beside (x ∷ []) (put_element x) (expr c w d)) (expr c w b))
          (λ x. part_of_beside (x ∷ []) index (on_next_beside (x ∷ []) (put_element x) (expr c w d))
          (λ i. part_by (i ∷ x ∷ []) (λ k all. (all.1.0, (all.0, tt)))
          (part_of_beside (x ∷ i ∷ []) other (put_element x i) (λ v. part_by (v ∷ x ∷ i ∷ []) (λ k all. (all.1.0, (all.0, tt))) (part_put_element x i v))))))
      part_stmt (SoundStmt.put_root {r = r} {a = a} there one) = part_as _ _ (stmt_PutRoot c w n r a) (part_of one (put_root r) (part_put_root r))
      part_stmt (SoundStmt.evaluate {a = a} one) = part_as _ _ (stmt_Eval c w n a) (part_expr one)
      part_stmt (SoundStmt.conditional {a = a} {all = all} {others = others} one some rest) = part_as _ _ (stmt_If c w n a all others)
          (part_of one (branch (seq (map (stmt c w n) all)) (seq (map (stmt c w n) others))) (λ v. part_any (v ∷ []) (part_branch _ _ (part_block some) (part_block rest) v)))
      part_stmt (SoundStmt.loop {a = a} {all = all} one some) = part_as _ _ (stmt_While c w n a all)
          (part_moving (spun (expr c w a) (seq (map (stmt c w n) all)) n) (part_spun (expr c w a) (seq (map (stmt c w n) all)) (part_expr one) (part_block some) n))
      part_stmt (SoundStmt.locked {a = a} {grade = grade} {all = all} one some) = part_as _ _ (stmt_Sync c w n a grade all)
          (part_of one (sync grade (seq (map (stmt c w n) all))) (part_sync grade (seq (map (stmt c w n) all)) (part_block some)))
      part_stmt (SoundStmt.wait {a = a} one) = part_as _ _ (stmt_Wait c w n a) (part_of_monitor one (λ object. wait 0 (Mon object)) (λ object. part_wait 0 (Mon object)))
      part_stmt (SoundStmt.timed_wait {a = a} {b = b} one other) = part_as _ _ (stmt_TimedWait c w n a b)
          (part_of one (on_next timed_wait (expr c w b)) (λ x. part_of_beside (x ∷ []) other (timed_wait x) (λ v. part_by (v ∷ x ∷ []) (λ k all. all.1) (part_timed_wait x v))))
      part_stmt (SoundStmt.notify {a = a} one) = part_as _ _ (stmt_Notify c w n a) (part_of_monitor one (λ object. tell (request.Notify (Mon object))) (λ object. part_tell (request.Notify (Mon object))))
      part_stmt (SoundStmt.notify_all {a = a} one) = part_as _ _ (stmt_NotifyAll c w n a) (part_of_monitor one (λ object. tell (request.NotifyAll (Mon object))) (λ object. part_tell (request.NotifyAll (Mon object))))
      part_stmt (SoundStmt.print {a = a} one) = part_as _ _ (stmt_Print c w n a) (part_of one (λ v. tell (request.Print v)) (λ v. part_tell (request.Print v)))
      part_stmt SoundStmt.leave = part_as _ _ (stmt_Return c w n None) (part_by [] (λ k all. (tt, tt)) (part_leaves value.Null))
      part_stmt (SoundStmt.answer {a = a} one) = part_as _ _ (stmt_Return c w n (Some a)) (part_of one Leaves part_leaves)

      -- so each of a block, one after the other
      pub part_block : {room : ℕ} {all : List Stmt} → SoundBlock scope room all → Part [] (seq (map (stmt c w n) all))
      part_block SoundBlock.done = part_null []
      part_block (SoundBlock.next {a = a} {rest = rest} one others) = part_value [] (λ v. seq (map (stmt c w n) rest)) (stmt c w n a) (part_stmt one) (λ v. part_any (v ∷ []) (part_block others))

module _ (c : Code) (sound : IsSoundCode c) where
  -- the statements of a method that may be there
  part_statements : (n : ℕ) → Bodies (methods c n) → (m : ℕ) (method : Option Method) → slice_get c.methods m ≡ method → Part [] (block c (methods c n) n (statements_of method))
  part_statements n bodies m None is = part_null []
  part_statements n bodies m (Some method) is =
      let fine : IsSoundMethod c method = all_of (IsSoundMethod c) c.methods m method is sound.methods in
      part_block c (methods c n) bodies method.vars true n fine.statements

  -- the methods' bodies, for any number of moves
  pub part_methods : (n : ℕ) → Bodies (methods c n)
  part_methods zero m = record { from = λ known kept u st all. part_stopped.from known kept u st all }
  part_methods (suc n) m = part_statements n (part_methods n) m (slice_get c.methods m) refl

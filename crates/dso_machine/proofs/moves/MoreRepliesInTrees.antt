-- What comes later makes no difference: expressions, statements, a whole thread.
use Rattle.std.proofs.Common.{◌≡◌, refl, ℕ, zero, suc, ◌+◌, ◌≤◌, true, false, List, [], ◌∷◌, ◌++◌, length, map, Option, None, Some, subst, sym, ap, arith}
use Rattle.std.specs.Prelude.{ℤ, pos, negsuc, nat_le, slice_get}
use Rattle.std.proofs.lemmas.List.{append-nil, length-append}
use Rattle.dso_base.specs.declared.lock.Grade.{Grade}
use Rattle.dso_base.specs.declared.lock.Grade.TheVariants as grade
use Rattle.dso_base.specs.declared.lock.LockName.{LockName}
use Rattle.dso_base.specs.declared.lock.LockName.TheVariants.{Mon, Name}
use Rattle.dso_base.specs.declared.op.Op.{Op}
use Rattle.dso_base.specs.declared.op.Op.TheVariants as op
use Rattle.dso_base.specs.declared.request.Fault.TheVariants.{NoSuchField, BadValue, BadSize}
use Rattle.dso_base.specs.declared.request.Reply.{Reply}
use Rattle.dso_base.specs.declared.request.Reply.TheVariants.{Done, Val}
use Rattle.dso_base.specs.declared.request.Request.{Request}
use Rattle.dso_base.specs.declared.request.Request.TheVariants as request
use Rattle.dso_base.specs.declared.shape.Shape.{Shape}
use Rattle.dso_base.specs.declared.value.ClassId.{ClassId}
use Rattle.dso_base.specs.declared.value.ClassId.TheVariants.{Plain, Array, Roots}
use Rattle.dso_base.specs.declared.value.Kind.{Kind}
use Rattle.dso_base.specs.declared.value.Kind.TheVariants as kind
use Rattle.dso_base.specs.declared.value.Value.{Value}
use Rattle.dso_base.specs.declared.value.Value.TheVariants as value
use Rattle.dso_base.specs.Shape.{kind_of}
use Rattle.dso_machine.specs.declared.code.Code.{Code}
use Rattle.dso_machine.specs.declared.code.ThreadBody.{ThreadBody}
use Rattle.dso_machine.specs.declared.tree.Expr.{Expr, Expr-F}
use Rattle.dso_machine.specs.declared.tree.Expr.TheOpen as ef
use Rattle.dso_machine.specs.declared.tree.Expr.TheFolds.{fold-roll-Expr, ind-Expr, map-Expr}
use Rattle.dso_machine.specs.declared.tree.FieldRef.{FieldRef}
use Rattle.dso_machine.specs.declared.tree.Stmt.{Stmt, Stmt-F}
use Rattle.dso_machine.specs.declared.tree.Stmt.TheOpen as sf
use Rattle.dso_machine.specs.declared.tree.Stmt.TheFolds.{fold-roll-Stmt, ind-Stmt, map-Stmt}
use Rattle.dso_machine.specs.Calls.{lookup, call_on, MethodMeanings}
use Rattle.dso_machine.specs.Expressions.{field_at, field_in, field_of, within, element_at, element_in, element_of, make, new_array, a_boolean, second, expr_step, expr}
use Rattle.dso_machine.specs.Limits.{most_elements}
use Rattle.dso_machine.specs.Next.{finish, opening, whole, enough_for, request_of}
use Rattle.dso_machine.specs.Outcome.{State, Outcome, Wants, Gives, Leaves, Fails, Hears, Over, Stopped, Meaning, on_value, on_reply, result_of, holding, ask, tell, get, getting, put}
use Rattle.dso_machine.specs.Statements.{assign, put_fitting, put_field_at, put_field_in, put_field, put_element_at, put_element_in, put_element, bind_null, bind, put_root, sync, unless_woken, timed_out, ticks, waiting, wait, on_count, timed_wait, seq, branch, turn, spun, returned, stmt_step, stmt, block, statements_of, methods}
use Rattle.dso_machine.specs.Values.{binary, unary, takes}
use Rattle.dso_machine.proofs.moves.Enough.{never_stopped}
use Rattle.dso_machine.proofs.moves.MoreReplies.{later, Extends, Steady, ext_value, ext_reply, ext_choose, steady_result, steady_ask, steady_unwanted, steady_tell, steady_get, steady_make, steady_look, steady_looking, steady_getting, steady_holding, steady_object, steady_after, steady_moving, steady_under, steady_under_with, SteadyWays, steady_call, Kid, steady_arguments}

-- ---- fields and elements

steady_field_at : (o : ℕ) (place : Option ℕ) → Steady (field_at o place) (field_at o place)
steady_field_at o None more at = refl
steady_field_at o (Some place) more at = steady_get o place more at

steady_field_in : (f : FieldRef) (o : ℕ) (class : ClassId) (size : ℕ) → Steady (field_in f o class size) (field_in f o class size)
steady_field_in f o (Plain class) size more at = steady_field_at o (lookup f.places class) more at
steady_field_in f o (Array kind) size more at = ext_choose more f.length (Gives (value.Long (pos size))) (Fails NoSuchField) (Gives (value.Long (pos size))) (Fails NoSuchField) at refl refl
steady_field_in f o Roots size more at = refl

steady_field : (f : FieldRef) (x : Value) → Steady (field_of f x) (field_of f x)
steady_field f x = steady_object _ _ (λ o. steady_look (field_in f o) (field_in f o) (steady_field_in f o) o) x

steady_element_at : (o : ℕ) (place : Option ℕ) → Steady (element_at o place) (element_at o place)
steady_element_at o None more at = refl
steady_element_at o (Some place) more at = steady_get o place more at

steady_element_in : (i : ℤ) (o : ℕ) (class : ClassId) (size : ℕ) → Steady (element_in i o class size) (element_in i o class size)
steady_element_in i o (Array kind) size more at = steady_element_at o (within i size) more at
steady_element_in i o class size more at = refl

steady_element : (x i : Value) → Steady (element_of x i) (element_of x i)
steady_element x (value.Long i) = steady_object _ _ (λ o. steady_look (element_in i o) (element_in i o) (steady_element_in i o) o) x
steady_element x i = steady_object (λ o. Fails BadValue) (λ o. Fails BadValue) (λ o more at. refl) x

steady_array : (kind : Kind) (v : Value) → Steady (new_array kind v) (new_array kind v)
steady_array kind (value.Long (pos n)) more at = ext_choose more (nat_le n most_elements) (make (Array kind) n) (Fails BadSize) (make (Array kind) n) (Fails BadSize) at (steady_make (Array kind) n more at) refl
steady_array kind (value.Long (negsuc n)) more at = refl
steady_array kind v more at = refl

-- ---- operators

steady_boolean : (v : Value) → Steady (a_boolean v) (a_boolean v)
steady_boolean (value.Bool b) more at = refl
steady_boolean v more at = refl

steady_second : (o : Op) (m k : Meaning) → Steady m k → (v : Value) → Steady (second o m v) (second o k v)
steady_second op.And m k s (value.Bool true) more at = ext_value more a_boolean a_boolean (m at) _ (s more at) steady_boolean
steady_second op.And m k s (value.Bool false) more at = refl
steady_second op.And m k s v more at = refl
steady_second op.Or m k s (value.Bool true) more at = refl
steady_second op.Or m k s (value.Bool false) more at = ext_value more a_boolean a_boolean (m at) _ (s more at) steady_boolean
steady_second op.Or m k s v more at = refl
steady_second o m k s x more at = ext_value more (λ y. result_of (binary o x y)) (λ y. result_of (binary o x y)) (holding (x ∷ []) m at) (holding (x ∷ []) k (later more at)) (steady_holding (x ∷ []) m k s more at) (λ y. steady_result (binary o x y))

-- ---- what is written

steady_fitting : (kind : Kind) (o place : ℕ) (v : Value) → Steady (put_fitting kind o place v) (put_fitting kind o place v)
steady_fitting kind o place v more at = ext_choose more (takes kind v) (put o place v) (Fails BadValue) (put o place v) (Fails BadValue) at (steady_tell (request.Put o place v) more at) refl

steady_put_field_at : (shape : Shape) (class o : ℕ) (v : Value) (place : Option ℕ) → Steady (put_field_at shape class o v place) (put_field_at shape class o v place)
steady_put_field_at shape class o v None more at = refl
steady_put_field_at shape class o v (Some place) more at = steady_fitting (kind_of shape (Plain class) place) o place v more at

steady_put_field_in : (shape : Shape) (f : FieldRef) (v : Value) (o : ℕ) (class : ClassId) (size : ℕ) → Steady (put_field_in shape f v o class size) (put_field_in shape f v o class size)
steady_put_field_in shape f v o (Plain class) size more at = steady_put_field_at shape class o v (lookup f.places class) more at
steady_put_field_in shape f v o class size more at = refl

steady_put_field : (shape : Shape) (f : FieldRef) (x v : Value) → Steady (put_field shape f x v) (put_field shape f x v)
steady_put_field shape f x v = steady_object _ _ (λ o. steady_looking (v ∷ []) (put_field_in shape f v o) (put_field_in shape f v o) (steady_put_field_in shape f v o) o) x

steady_put_element_at : (kind : Kind) (o : ℕ) (v : Value) (place : Option ℕ) → Steady (put_element_at kind o v place) (put_element_at kind o v place)
steady_put_element_at kind o v None more at = refl
steady_put_element_at kind o v (Some place) more at = steady_fitting kind o place v more at

steady_put_element_in : (i : ℤ) (v : Value) (o : ℕ) (class : ClassId) (size : ℕ) → Steady (put_element_in i v o class size) (put_element_in i v o class size)
steady_put_element_in i v o (Array kind) size more at = steady_put_element_at kind o v (within i size) more at
steady_put_element_in i v o class size more at = refl

steady_put_element : (x i v : Value) → Steady (put_element x i v) (put_element x i v)
steady_put_element x (value.Long i) v = steady_object _ _ (λ o. steady_looking (v ∷ []) (put_element_in i v o) (put_element_in i v o) (steady_put_element_in i v o) o) x
steady_put_element x i v = steady_object (λ o. Fails BadValue) (λ o. Fails BadValue) (λ o more at. refl) x

steady_bind_null : (r : ℕ) (v bound : Value) → Steady (bind_null r v bound) (bind_null r v bound)
steady_bind_null r v value.Null more at = steady_tell (request.Put 0 r v) more at
steady_bind_null r v bound more at = refl

steady_bind : (r : ℕ) (v : Value) → Steady (bind r v) (bind r v)
steady_bind r v = steady_under_with (v ∷ []) (Name r) grade.Write (λ at. on_value (bind_null r v) (getting (v ∷ []) 0 r at)) (λ at. on_value (bind_null r v) (getting (v ∷ []) 0 r at))
    (steady_after (bind_null r v) (bind_null r v) (getting (v ∷ []) 0 r) (getting (v ∷ []) 0 r) (steady_getting (v ∷ []) 0 r) (steady_bind_null r v))

steady_put_root : (r : ℕ) (v : Value) → Steady (put_root r v) (put_root r v)
steady_put_root r v more at = ext_choose more (takes kind.Ref v) (bind r v) (Fails BadValue) (bind r v) (Fails BadValue) at (steady_bind r v more at) refl

-- ---- what is run

steady_sync : (grade : Grade) (m k : Meaning) → Steady m k → (x : Value) → Steady (sync grade m x) (sync grade k x)
steady_sync grade m k s x = steady_object _ _ (λ o. steady_under (Mon o) grade m k s) x

steady_unless_woken : (m : Meaning) → Steady m m → (r : Reply) → Steady (unless_woken m r) (unless_woken m r)
steady_unless_woken m s (Val (value.Bool woken)) more at = ext_choose more woken (Gives value.Null) m (Gives value.Null) m at refl (s more at)
steady_unless_woken m s r more at = steady_unwanted r more at

steady_timed_out : (r : Reply) → Steady (timed_out r) (timed_out r)
steady_timed_out Done more at = refl
steady_timed_out (Val (value.Bool true)) more at = refl
steady_timed_out r more at = steady_unwanted r more at

steady_ticks : (l : LockName) (n : ℕ) → Steady (ticks l n) (ticks l n)
steady_ticks l zero more at = ext_reply more timed_out timed_out (ask (request.Timeout l) at) _ (steady_ask (request.Timeout l) more at) steady_timed_out
steady_ticks l (suc n) more at = ext_reply more (unless_woken (ticks l n)) (unless_woken (ticks l n)) (ask (request.Tick l) at) _ (steady_ask (request.Tick l) more at) (steady_unless_woken (ticks l n) (steady_ticks l n))

steady_waiting : (l : LockName) (n : ℕ) → Steady (waiting l n) (waiting l n)
steady_waiting l zero more at = steady_tell (request.Resume l) more at
steady_waiting l (suc n) more at = ext_value more (λ v. tell (request.Resume l)) (λ v. tell (request.Resume l)) (ticks l (suc n) at) _ (steady_ticks l (suc n) more at) (λ v. steady_tell (request.Resume l))

steady_wait : (n : ℕ) (l : LockName) → Steady (wait n l) (wait n l)
steady_wait n l more at = ext_value more (λ v. waiting l n) (λ v. waiting l n) (tell (request.Wait l) at) _ (steady_tell (request.Wait l) more at) (λ v. steady_waiting l n)

steady_count : (f : ℕ → Meaning) → ((n : ℕ) → Steady (f n) (f n)) → (v : Value) → Steady (on_count f v) (on_count f v)
steady_count f s (value.Long (pos n)) more at = s n more at
steady_count f s v more at = refl

steady_timed_wait : (x v : Value) → Steady (timed_wait x v) (timed_wait x v)
steady_timed_wait x v = steady_object _ _ (λ o. steady_count (λ n. wait n (Mon o)) (λ n. steady_wait n (Mon o)) v) x

steady_branch : (a b m k : Meaning) → Steady a m → Steady b k → (v : Value) → Steady (branch a b v) (branch m k v)
steady_branch a b m k s t (value.Bool true) more at = s more at
steady_branch a b m k s t (value.Bool false) more at = t more at
steady_branch a b m k s t v more at = refl

steady_turn : (again body more_again more_body : Meaning) → Steady again more_again → Steady body more_body → (v : Value) → Steady (turn again body v) (turn more_again more_body v)
steady_turn again body more_again more_body s t = steady_branch _ (Gives value.Null) _ (Gives value.Null)
    (steady_after (λ v. again) (λ v. more_again) body more_body t (λ v. s)) (λ more at. refl)

-- a loop for more moves
steady_spun : (test body more_test more_body : Meaning) → Steady test more_test → Steady body more_body → (k n : ℕ) → k ≤ n → Steady (spun test body k) (spun more_test more_body n)
steady_spun test body more_test more_body s t zero n le more at = tt
steady_spun test body more_test more_body s t (suc k) zero le more at = absurd (omega arith)
steady_spun test body more_test more_body s t (suc k) (suc n) le more at = ext_value more _ _ (test at) _ (s more at)
    (steady_turn _ body _ more_body (steady_moving _ _ (steady_spun test body more_test more_body s t k n (omega arith))) t)

-- ---- expressions

-- two parts that are two steady ones are steady
both_are : (m n k l : Meaning) → m ≡ n → k ≡ l → Steady n l → Steady m k
both_are m n k l p q s = subst (λ f. Steady f k) (sym p) (subst (λ f. Steady n f) (sym q) s)

module _ (c : Code) (w x : MethodMeanings) (s : SteadyWays w x) where
  layer : (y : Expr-F (Kid c w x s)) → Steady (expr_step c w (map-Expr Expr Meaning (expr c w) (map-Expr (Kid c w x s) Expr (λ k. k.0) y)))
      (expr_step c x (map-Expr Expr Meaning (expr c x) (map-Expr (Kid c w x s) Expr (λ k. k.0) y)))
  layer (ef.Const v) more at = refl
  layer (ef.Var i) more at = refl
  layer ef.This more at = refl
  layer (ef.Root r) more at = steady_under (Name r) grade.Read (get 0 r) (get 0 r) (steady_get 0 r) more at
  layer (ef.Field a f) more at = ext_value more (field_of f) (field_of f) (expr c w a.0 at) _ (a.1 more at) (steady_field f)
  layer (ef.Elem a b) more at = ext_value more _ _ (expr c w a.0 at) _ (a.1 more at) (λ v. steady_after (element_of v) (element_of v) (holding (v ∷ []) (expr c w b.0)) (holding (v ∷ []) (expr c x b.0)) (steady_holding (v ∷ []) (expr c w b.0) (expr c x b.0) b.1) (steady_element v))
  layer (ef.Call a callees args) more at = ext_value more _ _ (expr c w a.0 at) _ (a.1 more at)
      (λ v. steady_arguments c w x s (call_on c w callees v) (call_on c x callees v) (steady_call c w x s callees v) v args [])
  layer (ef.NewObject class) more at = steady_make (Plain class) _ more at
  layer (ef.NewArray kind a) more at = ext_value more (new_array kind) (new_array kind) (expr c w a.0 at) _ (a.1 more at) (steady_array kind)
  layer (ef.Unary o a) more at = ext_value more (λ v. result_of (unary o v)) (λ v. result_of (unary o v)) (expr c w a.0 at) _ (a.1 more at) (λ v. steady_result (unary o v))
  layer (ef.Binary o a b) more at = ext_value more _ _ (expr c w a.0 at) _ (a.1 more at) (steady_second o (expr c w b.0) (expr c x b.0) b.1)

  steady_expr : (a : Expr) → Steady (expr c w a) (expr c x a)
  steady_expr = ind-Expr (λ a. Steady (expr c w a) (expr c x a)) (λ z y is.
      let g : Steady (expr_step c w (map-Expr Expr Meaning (expr c w) z)) (expr_step c x (map-Expr Expr Meaning (expr c x) z)) =
      subst (λ z. Steady (expr_step c w (map-Expr Expr Meaning (expr c w) z)) (expr_step c x (map-Expr Expr Meaning (expr c x) z))) is (layer y) in
      both_are _ _ _ _ (fold-roll-Expr Meaning (expr_step c w) z) (fold-roll-Expr Meaning (expr_step c x) z) g)

  -- an expression, and then what is made of its value
  steady_of : (a : Expr) (f g : Value → Meaning) → ((v : Value) → Steady (f v) (g v)) → Steady (λ at. on_value f (expr c w a at)) (λ at. on_value g (expr c x a at))
  steady_of a f g t = steady_after f g (expr c w a) (expr c x a) (steady_expr a) t

  -- the same, while these values are held
  steady_beside : (vs : List Value) (a : Expr) (f g : Value → Meaning) → ((v : Value) → Steady (f v) (g v)) → Steady (λ at. on_value f (holding vs (expr c w a) at)) (λ at. on_value g (holding vs (expr c x a) at))
  steady_beside vs a f g t = steady_after f g (holding vs (expr c w a)) (holding vs (expr c x a)) (steady_holding vs (expr c w a) (expr c x a) (steady_expr a)) t

  steady_returned : (a : Option Expr) → Steady (returned c w a) (returned c x a)
  steady_returned None more at = refl
  steady_returned (Some a) more at = steady_of a Leaves Leaves (λ v more at. refl) more at

  -- ---- statements, for more moves
  module _ (k n : ℕ) (le : k ≤ n) where
    abbrev KidStmt : Type 0
    KidStmt = (z : Stmt) × Steady (stmt c w k z) (stmt c x n z)

    steady_seq : (zs : List KidStmt) → Steady (seq (map (stmt c w k) (map (λ k. k.0) zs))) (seq (map (stmt c x n) (map (λ k. k.0) zs)))
    steady_seq [] more at = refl
    steady_seq (z ∷ zs) more at = ext_value more _ _ (stmt c w k z.0 at) _ (z.1 more at) (λ v. steady_seq zs)

    stmt_layer : (y : Stmt-F KidStmt) → Steady (stmt_step c w k (map-Stmt Stmt Meaning (stmt c w k) (map-Stmt KidStmt Stmt (λ k. k.0) y)))
        (stmt_step c x n (map-Stmt Stmt Meaning (stmt c x n) (map-Stmt KidStmt Stmt (λ k. k.0) y)))
    stmt_layer (sf.Assign i a) more at = steady_of a (assign i) (assign i) (λ v more at. refl) more at
    stmt_layer (sf.PutField a f b) more at = steady_of a _ _ (λ v. steady_beside (v ∷ []) b (put_field c.shape f v) (put_field c.shape f v) (steady_put_field c.shape f v)) more at
    stmt_layer (sf.PutElem a b d) more at = steady_of a _ _ (λ v. steady_beside (v ∷ []) b _ _ (λ i. steady_beside (v ∷ i ∷ []) d (put_element v i) (put_element v i) (steady_put_element v i))) more at
    stmt_layer (sf.PutRoot r a) more at = steady_of a (put_root r) (put_root r) (steady_put_root r) more at
    stmt_layer (sf.Eval a) more at = steady_expr a more at
    stmt_layer (sf.If a y z) more at = steady_of a _ _ (steady_branch _ _ _ _ (steady_seq y) (steady_seq z)) more at
    stmt_layer (sf.While a y) more at = steady_moving _ _ (steady_spun (expr c w a) (seq (map (stmt c w k) (map (λ k. k.0) y))) (expr c x a) (seq (map (stmt c x n) (map (λ k. k.0) y))) (steady_expr a) (steady_seq y) k n le) more at
    stmt_layer (sf.Sync a grade y) more at = steady_of a _ _ (steady_sync grade (seq (map (stmt c w k) (map (λ k. k.0) y))) (seq (map (stmt c x n) (map (λ k. k.0) y))) (steady_seq y)) more at
    stmt_layer (sf.Wait a) more at = steady_of a _ _ (steady_object _ _ (λ o. steady_wait 0 (Mon o))) more at
    stmt_layer (sf.TimedWait a b) more at = steady_of a _ _ (λ x. steady_beside (x ∷ []) b (timed_wait x) (timed_wait x) (steady_timed_wait x)) more at
    stmt_layer (sf.Notify a) more at = steady_of a _ _ (steady_object _ _ (λ o. steady_tell (request.Notify (Mon o)))) more at
    stmt_layer (sf.NotifyAll a) more at = steady_of a _ _ (steady_object _ _ (λ o. steady_tell (request.NotifyAll (Mon o)))) more at
    stmt_layer (sf.Print a) more at = steady_of a _ _ (λ v. steady_tell (request.Print v)) more at
    stmt_layer (sf.Return a) more at = steady_returned a more at

    steady_stmt : (z : Stmt) → Steady (stmt c w k z) (stmt c x n z)
    steady_stmt = ind-Stmt (λ z. Steady (stmt c w k z) (stmt c x n z)) (λ z y is.
        let g : Steady (stmt_step c w k (map-Stmt Stmt Meaning (stmt c w k) z)) (stmt_step c x n (map-Stmt Stmt Meaning (stmt c x n) z)) =
        subst (λ z. Steady (stmt_step c w k (map-Stmt Stmt Meaning (stmt c w k) z)) (stmt_step c x n (map-Stmt Stmt Meaning (stmt c x n) z))) is (stmt_layer y) in
        both_are _ _ _ _ (fold-roll-Stmt Meaning (stmt_step c w k) z) (fold-roll-Stmt Meaning (stmt_step c x n) z) g)

    steady_block : (zs : List Stmt) → Steady (block c w k zs) (block c x n zs)
    steady_block [] more at = refl
    steady_block (z ∷ zs) more at = ext_value more _ _ (stmt c w k z at) _ (steady_stmt z more at) (λ v. steady_block zs)

-- ---- the whole of a thread

steady_methods : (c : Code) (k n : ℕ) → k ≤ n → SteadyWays (methods c k) (methods c n)
steady_methods c zero n le m more at = tt
steady_methods c (suc k) zero le m more at = absurd (omega arith)
steady_methods c (suc k) (suc n) le m more at = steady_block c (methods c k) (methods c n) (steady_methods c k n (omega arith)) k n (omega arith) (statements_of (slice_get c.methods m)) more at

ext_ended : (q : Request) (more : List Reply) (at : State) → Extends more (on_reply (λ r at. Over) (ask q at)) (on_reply (λ r at. Over) (ask q (later more at)))
ext_ended q more at = ext_reply more (λ r at. Over) (λ r at. Over) (ask q at) _ (steady_ask q more at) (λ r more at. refl)

ext_finish : (more : List Reply) (o n : Outcome) → Extends more o n → Extends more (finish o) (finish n)
ext_finish more (Wants q env) n e = λ none. ap finish (e none)
ext_finish more (Gives v u) n e = subst (λ x. Extends more (finish (Gives v u)) (finish x)) (sym e) (ext_ended (request.End None) more u)
ext_finish more (Leaves v u) n e = subst (λ x. Extends more (finish (Leaves v u)) (finish x)) (sym e) (ext_ended (request.End None) more u)
ext_finish more (Fails f u) n e = subst (λ x. Extends more (finish (Fails f u)) (finish x)) (sym e) (ext_ended (request.End (Some f)) more u)
ext_finish more (Hears r u) n e = ap finish e
ext_finish more Over n e = ap finish e
ext_finish more Stopped n e = tt

-- what a thread comes to goes on with later replies
pub later_replies : (c : Code) (body : ThreadBody) (k n : ℕ) → k ≤ n → (rs more : List Reply) → Extends more (whole c body k rs) (whole c body n (rs ++ more))
later_replies c body k n le rs more = ext_finish more (block c (methods c k) k body.body (opening body.vars rs)) _
    (steady_block c (methods c k) (methods c n) (steady_methods c k n le) k n le body.body more (opening body.vars rs))

-- a thread that is over stays so: whatever is heard after its end, it asks nothing more
pub stays_over : (c : Code) (body : ThreadBody) (rs more : List Reply) → whole c body (enough_for rs) rs ≡ Over
    → whole c body (enough_for (rs ++ more)) (rs ++ more) ≡ Over
stays_over c body rs more over = subst (λ o. Extends more o (whole c body (enough_for (rs ++ more)) (rs ++ more))) over
    (later_replies c body (enough_for rs) (enough_for (rs ++ more)) (let e : length (rs ++ more) ≡ length rs + length more = length-append rs more in omega arith) rs more)

-- an outcome that is not stopped wants what comes of more moves
same_request : (o n : Outcome) → (o ≡ Stopped → ⊥) → Extends [] o n → request_of n ≡ request_of o
same_request (Wants q env) n going e = ap request_of (e refl)
same_request (Gives v u) n going e = ap request_of e
same_request (Leaves v u) n going e = ap request_of e
same_request (Fails f u) n going e = ap request_of e
same_request (Hears r u) n going e = ap request_of e
same_request Over n going e = ap request_of e
same_request Stopped n going e = absurd (going refl)

-- a thread asks the same for two numbers of moves of which the less does not stop it
pub same_wanted : (c : Code) (body : ThreadBody) (k n : ℕ) (rs : List Reply) → k ≤ n → (whole c body k rs ≡ Stopped → ⊥) → request_of (whole c body n rs) ≡ request_of (whole c body k rs)
same_wanted c body k n rs le going = same_request _ _ going (subst (λ all. Extends [] (whole c body k rs) (whole c body n all)) (append-nil rs) (later_replies c body k n le rs []))

-- any number of moves that is no less gives the same request
pub moves_enough : (c : Code) (body : ThreadBody) (n : ℕ) (rs : List Reply) → enough_for rs ≤ n → request_of (whole c body n rs) ≡ request_of (whole c body (enough_for rs) rs)
moves_enough c body n rs le = same_wanted c body (enough_for rs) n rs le (never_stopped c body rs)

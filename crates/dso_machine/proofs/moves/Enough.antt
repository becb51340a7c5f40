-- The moves that are counted are enough: no thread is stopped.
use Rattle.std.proofs.Common.{◌≡◌, ℕ, zero, suc, ◌+◌, ◌≤◌, true, false, List, [], ◌∷◌, map, Option, None, Some, subst, sym, arith}
use Rattle.std.specs.Prelude.{ℤ, pos, slice_get}
use Rattle.dso_base.specs.declared.lock.Grade.{Grade}
use Rattle.dso_base.specs.declared.lock.Grade.TheVariants as grade
use Rattle.dso_base.specs.declared.lock.LockName.{LockName}
use Rattle.dso_base.specs.declared.lock.LockName.TheVariants.{Mon, Name}
use Rattle.dso_base.specs.declared.request.Fault.TheVariants.{BadValue}
use Rattle.dso_base.specs.declared.request.Reply.{Reply}
use Rattle.dso_base.specs.declared.request.Reply.TheVariants.{Done, Val}
use Rattle.dso_base.specs.declared.request.Request.{Request}
use Rattle.dso_base.specs.declared.request.Request.TheVariants as request
use Rattle.dso_base.specs.declared.shape.Shape.{Shape}
use Rattle.dso_base.specs.declared.value.ClassId.{ClassId}
use Rattle.dso_base.specs.declared.value.ClassId.TheVariants.{Plain, Array}
use Rattle.dso_base.specs.declared.value.Kind.{Kind}
use Rattle.dso_base.specs.declared.value.Kind.TheVariants as kind
use Rattle.dso_base.specs.declared.value.Value.{Value}
use Rattle.dso_base.specs.declared.value.Value.TheVariants as value
use Rattle.dso_base.specs.Shape.{kind_of}
use Rattle.dso_machine.specs.declared.code.Code.{Code}
use Rattle.dso_machine.specs.declared.code.ThreadBody.{ThreadBody}
use Rattle.dso_machine.specs.declared.tree.Expr.{Expr}
use Rattle.dso_machine.specs.declared.tree.FieldRef.{FieldRef}
use Rattle.dso_machine.specs.declared.tree.Stmt.{Stmt, Stmt-F}
use Rattle.dso_machine.specs.declared.tree.Stmt.TheOpen as sf
use Rattle.dso_machine.specs.declared.tree.Stmt.TheFolds.{fold-roll-Stmt, ind-Stmt, map-Stmt}
use Rattle.dso_machine.specs.Calls.{lookup, MethodMeanings}
use Rattle.dso_machine.specs.Expressions.{within, expr}
use Rattle.dso_machine.specs.Next.{finish, opening, whole, enough_for}
use Rattle.dso_machine.specs.Outcome.{State, Outcome, Wants, Gives, Leaves, Fails, Hears, Over, Stopped, Meaning, on_value, on_reply, on_next, on_next_beside, holding, asked, ask, tell, getting, looking, on_object, moving, under}
use Rattle.dso_machine.specs.Statements.{assign, put_fitting, put_field_at, put_field_in, put_field, put_element_at, put_element_in, put_element, bind_null, bind, put_root, sync, unless_woken, timed_out, ticks, waiting, wait, on_count, timed_wait, seq, branch, turn, spun, returned, stmt_step, stmt, block, statements_of, methods}
use Rattle.dso_machine.specs.Values.{takes}
use Rattle.dso_machine.proofs.moves.NotStopped.{budget, Good, GoodAt, good_value, good_reply, good_choose, good_ask, good_unwanted, good_tell, good_getting, good_looking, good_holding, good_object, good_moving, good_under, good_under_with, FineWays}
use Rattle.dso_machine.proofs.moves.ExpressionsNotStopped.{good_after, good_expr}

-- ---- what is written

good_put_fitting : (kind : Kind) (o place : ℕ) (v : Value) (at : State) → Good (budget at) (put_fitting kind o place v at)
good_put_fitting kind o place v at = good_choose (budget at) (takes kind v) _ _ at (good_tell (request.Put o place v) at) (omega arith)

good_put_field_at : (shape : Shape) (class o : ℕ) (v : Value) (place : Option ℕ) (at : State) → Good (budget at) (put_field_at shape class o v place at)
good_put_field_at shape class o v None at = omega arith
good_put_field_at shape class o v (Some place) at = good_put_fitting (kind_of shape (Plain class) place) o place v at

good_put_field_in : (shape : Shape) (f : FieldRef) (v : Value) (o : ℕ) (class : ClassId) (size : ℕ) (at : State) → Good (budget at) (put_field_in shape f v o class size at)
good_put_field_in shape f v o (Plain class) size at = good_put_field_at shape class o v (lookup f.places class) at
good_put_field_in shape f v o class size at = omega arith

good_put_field : (shape : Shape) (f : FieldRef) (x v : Value) (at : State) → Good (budget at) (put_field shape f x v at)
good_put_field shape f x v at = good_object (λ o. looking (v ∷ []) (put_field_in shape f v o) o) x at
    (λ o. good_looking (v ∷ []) (put_field_in shape f v o) o at (λ class size u le. good_put_field_in shape f v o class size u))

good_put_element_at : (kind : Kind) (o : ℕ) (v : Value) (place : Option ℕ) (at : State) → Good (budget at) (put_element_at kind o v place at)
good_put_element_at kind o v None at = omega arith
good_put_element_at kind o v (Some place) at = good_put_fitting kind o place v at

good_put_element_in : (i : ℤ) (v : Value) (o : ℕ) (class : ClassId) (size : ℕ) (at : State) → Good (budget at) (put_element_in i v o class size at)
good_put_element_in i v o (Array kind) size at = good_put_element_at kind o v (within i size) at
good_put_element_in i v o class size at = omega arith

good_put_element : (x i v : Value) (at : State) → Good (budget at) (put_element x i v at)
good_put_element x (value.Long i) v at = good_object (λ o. looking (v ∷ []) (put_element_in i v o) o) x at
    (λ o. good_looking (v ∷ []) (put_element_in i v o) o at (λ class size u le. good_put_element_in i v o class size u))
good_put_element x i v at = good_object (λ o. Fails BadValue) x at (λ o. omega arith)

good_bind_null : (r : ℕ) (v bound : Value) (at : State) → Good (budget at) (bind_null r v bound at)
good_bind_null r v value.Null at = good_tell (request.Put 0 r v) at
good_bind_null r v bound at = omega arith

good_bind : (N r : ℕ) (v : Value) → GoodAt N (bind r v)
good_bind N r v = good_under_with N (v ∷ []) (Name r) grade.Write (λ at. on_value (bind_null r v) (getting (v ∷ []) 0 r at)) (good_after N (bind_null r v) (getting (v ∷ []) 0 r) (λ u h. good_getting (v ∷ []) 0 r u) (λ x u h. good_bind_null r v x u))

good_put_root : (N r : ℕ) (v : Value) → GoodAt N (put_root r v)
good_put_root N r v at h = good_choose (budget at) (takes kind.Ref v) _ _ at (good_bind N r v at h) (omega arith)

-- ---- monitors

good_sync : (N : ℕ) (grade : Grade) (m : Meaning) → GoodAt N m → (x : Value) → GoodAt N (sync grade m x)
good_sync N grade m fine x at h = good_object (λ o. under (Mon o) grade m) x at (λ o. good_under N (Mon o) grade m fine at h)

good_unless_woken : (m : Meaning) (r : Reply) (at : State) → Good (budget at) (m at) → Good (budget at) (unless_woken m r at)
good_unless_woken m (Val (value.Bool woken)) at g = good_choose (budget at) woken (Gives value.Null) m at (omega arith) g
good_unless_woken m r at g = good_unwanted r at

good_timed_out : (r : Reply) (at : State) → Good (budget at) (timed_out r at)
good_timed_out Done at = omega arith
good_timed_out (Val (value.Bool true)) at = omega arith
good_timed_out r at = good_unwanted r at

good_ticks : (l : LockName) (n : ℕ) (at : State) → Good (budget at) (ticks l n at)
good_ticks l zero at = good_reply (budget at) timed_out (ask (request.Timeout l) at) (good_ask (request.Timeout l) at) (λ r u le. good_timed_out r u)
good_ticks l (suc n) at = good_reply (budget at) (unless_woken (ticks l n)) (ask (request.Tick l) at) (good_ask (request.Tick l) at) (λ r u le. good_unless_woken (ticks l n) r u (good_ticks l n u))

good_waiting : (l : LockName) (n : ℕ) (at : State) → Good (budget at) (waiting l n at)
good_waiting l zero at = good_tell (request.Resume l) at
good_waiting l (suc n) at = good_value (budget at) (λ v. tell (request.Resume l)) (ticks l (suc n) at) (good_ticks l (suc n) at) (λ v u le. good_tell (request.Resume l) u)

good_wait : (n : ℕ) (l : LockName) (at : State) → Good (budget at) (wait n l at)
good_wait n l at = good_value (budget at) (λ v. waiting l n) (tell (request.Wait l) at) (good_tell (request.Wait l) at) (λ v u le. good_waiting l n u)

good_count : (f : ℕ → Meaning) (v : Value) (at : State) → ((n : ℕ) → Good (budget at) (f n at)) → Good (budget at) (on_count f v at)
good_count f (value.Long (pos n)) at g = g n
good_count f v at g = omega arith

good_timed_wait : (x v : Value) (at : State) → Good (budget at) (timed_wait x v at)
good_timed_wait x v at = good_object (λ o. on_count (λ n. wait n (Mon o)) v) x at (λ o. good_count (λ n. wait n (Mon o)) v at (λ n. good_wait n (Mon o) at))

-- ---- what is run

good_branch : (N : ℕ) (a b : Meaning) → GoodAt N a → GoodAt N b → (v : Value) → GoodAt N (branch a b v)
good_branch N a b fa fb (value.Bool true) at h = fa at h
good_branch N a b fa fb (value.Bool false) at h = fb at h
good_branch N a b fa fb v at h = omega arith

good_turn : (N : ℕ) (again body : Meaning) → GoodAt N again → GoodAt N body → (v : Value) → GoodAt N (turn again body v)
good_turn N again body fa fb = good_branch N _ (Gives value.Null) (good_after N (λ v. again) body fb (λ v. fa)) (λ u h. omega arith)

good_spun : (N : ℕ) (test body : Meaning) → GoodAt N test → GoodAt N body → (k : ℕ) → k ≤ N → (u : State) → budget u + 1 ≤ k → Good (budget u) (spun test body k u)
good_spun N test body ft fb zero le u h = absurd (omega arith)
good_spun N test body ft fb (suc k) le u h = good_value (budget u) (turn (moving (spun test body k)) body) (test u) (ft u (omega arith))
    (λ v z lz. good_turn (suc k) (moving (spun test body k)) body
    (good_moving (suc k) (spun test body k) (λ x hx. good_spun N test body ft fb k (omega arith) x (omega arith)))
    (λ y hy. fb y (omega arith)) v z (omega arith))

good_returned : (c : Code) (w : MethodMeanings) (n : ℕ) → FineWays n w → (a : Option Expr) → GoodAt n (returned c w a)
good_returned c w n fw None at h = omega arith
good_returned c w n fw (Some a) at h = good_after n Leaves (expr c w a) (good_expr c w n fw a) (λ v u hu. omega arith) at h

-- a statement that is good
abbrev KidStmt : Code → MethodMeanings → ℕ → Type 0
KidStmt c w n = (s : Stmt) × GoodAt n (stmt c w n s)

good_seq : (c : Code) (w : MethodMeanings) (n : ℕ) (ss : List (KidStmt c w n)) → GoodAt n (seq (map (stmt c w n) (map (λ k. k.0) ss)))
good_seq c w n [] at h = omega arith
good_seq c w n (k ∷ ks) at h = good_value (budget at) (λ v. seq (map (stmt c w n) (map (λ k. k.0) ks))) (stmt c w n k.0 at) (k.1 at h) (λ v u le. good_seq c w n ks u (omega arith))

-- an expression, and then what is made of its value
good_of : (c : Code) (w : MethodMeanings) (n : ℕ) → FineWays n w → (a : Expr) (f : Value → Meaning) → ((v : Value) → GoodAt n (f v)) → GoodAt n (λ at. on_value f (expr c w a at))
good_of c w n fw a f g = good_after n f (expr c w a) (good_expr c w n fw a) g

-- the same, while these values are held
good_beside : (c : Code) (w : MethodMeanings) (n : ℕ) → FineWays n w → (vs : List Value) (a : Expr) (f : Value → Meaning) → ((v : Value) → GoodAt n (f v)) → GoodAt n (λ at. on_value f (holding vs (expr c w a) at))
good_beside c w n fw vs a f g = good_after n f (holding vs (expr c w a)) (good_holding n vs (expr c w a) (good_expr c w n fw a)) g

stmt_layer : (c : Code) (w : MethodMeanings) (n : ℕ) → FineWays n w → (y : Stmt-F (KidStmt c w n))
    → GoodAt n (stmt_step c w n (map-Stmt Stmt Meaning (stmt c w n) (map-Stmt (KidStmt c w n) Stmt (λ k. k.0) y)))
stmt_layer c w n fw (sf.Assign i a) at h = good_of c w n fw a (assign i) (λ v u hu. omega arith) at h
stmt_layer c w n fw (sf.PutField a f b) at h = good_of c w n fw a (on_next (put_field c.shape f) (expr c w b))
    (λ x. good_beside c w n fw (x ∷ []) b (put_field c.shape f x) (λ v u hu. good_put_field c.shape f x v u)) at h
stmt_layer c w n fw (sf.PutElem a b d) at h = good_of c w n fw a (on_next (λ x. on_next_beside (x ∷ []) (put_element x) (expr c w d)) (expr c w b))
    (λ x. good_beside c w n fw (x ∷ []) b (on_next_beside (x ∷ []) (put_element x) (expr c w d)) (λ i. good_beside c w n fw (x ∷ i ∷ []) d (put_element x i) (λ v u hu. good_put_element x i v u))) at h
stmt_layer c w n fw (sf.PutRoot r a) at h = good_of c w n fw a (put_root r) (good_put_root n r) at h
stmt_layer c w n fw (sf.Eval a) at h = good_expr c w n fw a at h
stmt_layer c w n fw (sf.If a x y) at h = good_of c w n fw a (branch (seq (map (stmt c w n) (map (λ k. k.0) x))) (seq (map (stmt c w n) (map (λ k. k.0) y))))
    (good_branch n _ _ (good_seq c w n x) (good_seq c w n y)) at h
stmt_layer c w n fw (sf.While a x) at h = good_moving n (spun (expr c w a) (seq (map (stmt c w n) (map (λ k. k.0) x))) n)
    (λ u hu. good_spun n _ _ (good_expr c w n fw a) (good_seq c w n x) n (omega arith) u (omega arith)) at h
stmt_layer c w n fw (sf.Sync a grade x) at h = good_of c w n fw a (sync grade (seq (map (stmt c w n) (map (λ k. k.0) x)))) (good_sync n grade _ (good_seq c w n x)) at h
stmt_layer c w n fw (sf.Wait a) at h = good_of c w n fw a (on_object (λ o. wait 0 (Mon o))) (λ x u hu. good_object (λ o. wait 0 (Mon o)) x u (λ o. good_wait 0 (Mon o) u)) at h
stmt_layer c w n fw (sf.TimedWait a b) at h = good_of c w n fw a (on_next timed_wait (expr c w b)) (λ x. good_beside c w n fw (x ∷ []) b (timed_wait x) (λ v u hu. good_timed_wait x v u)) at h
stmt_layer c w n fw (sf.Notify a) at h = good_of c w n fw a (on_object (λ o. tell (request.Notify (Mon o))))
    (λ x u hu. good_object (λ o. tell (request.Notify (Mon o))) x u (λ o. good_tell (request.Notify (Mon o)) u)) at h
stmt_layer c w n fw (sf.NotifyAll a) at h = good_of c w n fw a (on_object (λ o. tell (request.NotifyAll (Mon o))))
    (λ x u hu. good_object (λ o. tell (request.NotifyAll (Mon o))) x u (λ o. good_tell (request.NotifyAll (Mon o)) u)) at h
stmt_layer c w n fw (sf.Print a) at h = good_of c w n fw a (λ v. tell (request.Print v)) (λ v u hu. good_tell (request.Print v) u) at h
stmt_layer c w n fw (sf.Return a) at h = good_returned c w n fw a at h

good_stmt : (c : Code) (w : MethodMeanings) (n : ℕ) → FineWays n w → (s : Stmt) → GoodAt n (stmt c w n s)
good_stmt c w n fw = ind-Stmt (λ s. GoodAt n (stmt c w n s)) (λ x y is.
    let g : GoodAt n (stmt_step c w n (map-Stmt Stmt Meaning (stmt c w n) x)) = subst (λ z. GoodAt n (stmt_step c w n (map-Stmt Stmt Meaning (stmt c w n) z))) is (stmt_layer c w n fw y) in
    subst (λ f. GoodAt n f) (sym (fold-roll-Stmt Meaning (stmt_step c w n) x)) g)

good_block : (c : Code) (w : MethodMeanings) (n : ℕ) → FineWays n w → (ss : List Stmt) → GoodAt n (block c w n ss)
good_block c w n fw [] at h = omega arith
good_block c w n fw (s ∷ ss) at h = good_value (budget at) (λ v. block c w n ss) (stmt c w n s at) (good_stmt c w n fw s at h) (λ v u le. good_block c w n fw ss u (omega arith))

-- ---- the whole of a thread

fine_methods : (c : Code) (n : ℕ) → FineWays n (methods c n)
fine_methods c zero m u h = absurd (omega arith)
fine_methods c (suc n) m u h = good_block c (methods c n) n (fine_methods c n) (statements_of (slice_get c.methods m)) u (omega arith)

ended_not : (q : Request) (at : State) (rs : List Reply) → on_reply (λ r at. Over) (asked [] q at rs) ≡ Stopped → ⊥
ended_not q at [] e = cc
ended_not q at (r ∷ rs) e = cc

not_stopped : (b : ℕ) (o : Outcome) → Good b o → finish o ≡ Stopped → ⊥
not_stopped b (Wants q env) g e = cc
not_stopped b (Gives v u) g e = ended_not (request.End None) u u.replies e
not_stopped b (Leaves v u) g e = ended_not (request.End None) u u.replies e
not_stopped b (Fails f u) g e = ended_not (request.End (Some f)) u u.replies e
not_stopped b (Hears r u) g e = cc
not_stopped b Over g e = cc
not_stopped b Stopped g e = g

-- no thread is stopped: so its next request is none only where it is over
pub never_stopped : (c : Code) (body : ThreadBody) (rs : List Reply) → whole c body (enough_for rs) rs ≡ Stopped → ⊥
never_stopped c body rs =
    let n : ℕ = enough_for rs in
    let at : State = opening body.vars rs in
    not_stopped (budget at) (block c (methods c n) n body.body at) (good_block c (methods c n) n (fine_methods c n) body.body at (omega arith))

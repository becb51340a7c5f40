-- Expressions are not stopped.
use Rattle.std.proofs.Common.{ℕ, true, false, List, [], ◌∷◌, ◌++◌, map, Option, None, Some, subst, sym, arith}
use Rattle.std.specs.Prelude.{ℤ, pos, negsuc, nat_le}
use Rattle.dso_base.specs.declared.lock.Grade.TheVariants as grade
use Rattle.dso_base.specs.declared.lock.LockName.TheVariants.{Name}
use Rattle.dso_base.specs.declared.op.Op.{Op}
use Rattle.dso_base.specs.declared.op.Op.TheVariants as op
use Rattle.dso_base.specs.declared.request.Fault.TheVariants.{BadValue}
use Rattle.dso_base.specs.declared.request.Request.TheVariants as request
use Rattle.dso_base.specs.declared.value.ClassId.{ClassId}
use Rattle.dso_base.specs.declared.value.ClassId.TheVariants.{Plain, Array, Roots}
use Rattle.dso_base.specs.declared.value.Kind.{Kind}
use Rattle.dso_base.specs.declared.value.Value.{Value}
use Rattle.dso_base.specs.declared.value.Value.TheVariants as value
use Rattle.dso_machine.specs.declared.code.Code.{Code}
use Rattle.dso_machine.specs.declared.tree.Expr.{Expr, Expr-F}
use Rattle.dso_machine.specs.declared.tree.Expr.TheOpen as ef
use Rattle.dso_machine.specs.declared.tree.Expr.TheFolds.{fold-roll-Expr, ind-Expr, map-Expr}
use Rattle.dso_machine.specs.declared.tree.FieldRef.{FieldRef}
use Rattle.dso_machine.specs.Calls.{lookup, call_on, arguments, MethodMeanings}
use Rattle.dso_machine.specs.Expressions.{field_at, field_in, field_of, within, element_at, element_in, element_of, root, make, new_array, a_boolean, second, expr_step, expr}
use Rattle.dso_machine.specs.Limits.{most_elements}
use Rattle.dso_machine.specs.Outcome.{State, Fails, Meaning, on_value, on_next, holding, result_of, ask, made, get, look}
use Rattle.dso_machine.specs.Values.{binary, unary}
use Rattle.dso_machine.proofs.moves.NotStopped.{budget, Good, GoodAt, good_value, good_reply, good_choose, good_result, good_ask, good_made, good_get, good_look, good_object, good_under, good_holding, FineWays, good_call}

-- an expression that is good
abbrev pub Kid : Code → MethodMeanings → ℕ → Type 0
Kid c w N = (a : Expr) × GoodAt N (expr c w a)

pub good_arguments : (c : Code) (w : MethodMeanings) (N : ℕ) (f : List Value → Meaning) → ((vs : List Value) → GoodAt N (f vs)) → (y : Value) (xs : List (Kid c w N)) (vs : List Value)
    → GoodAt N (arguments f y (map (expr c w) (map (λ k. k.0) xs)) vs)
good_arguments c w N f fine y [] vs at h = fine vs at h
good_arguments c w N f fine y (k ∷ ks) vs at h = good_value (budget at) (λ v. arguments f y (map (expr c w) (map (λ k. k.0) ks)) (vs ++ v ∷ [])) (holding (y ∷ vs) (expr c w k.0) at) (good_holding N (y ∷ vs) (expr c w k.0) k.1 at h)
    (λ v u le. good_arguments c w N f fine y ks (vs ++ v ∷ []) u (omega arith))

-- ---- expressions

pub good_field_at : (o : ℕ) (place : Option ℕ) (at : State) → Good (budget at) (field_at o place at)
good_field_at o None at = omega arith
good_field_at o (Some place) at = good_get o place at

pub good_field_in : (f : FieldRef) (o : ℕ) (class : ClassId) (size : ℕ) (at : State) → Good (budget at) (field_in f o class size at)
good_field_in f o (Plain class) size at = good_field_at o (lookup f.places class) at
good_field_in f o (Array kind) size at = good_choose (budget at) f.length _ _ at (omega arith) (omega arith)
good_field_in f o Roots size at = omega arith

pub good_field : (f : FieldRef) (x : Value) (at : State) → Good (budget at) (field_of f x at)
good_field f x at = good_object (λ o. look (field_in f o) o) x at (λ o. good_look (field_in f o) o at (λ class size u le. good_field_in f o class size u))

pub good_element_at : (o : ℕ) (place : Option ℕ) (at : State) → Good (budget at) (element_at o place at)
good_element_at o None at = omega arith
good_element_at o (Some place) at = good_get o place at

pub good_element_in : (i : ℤ) (o : ℕ) (class : ClassId) (size : ℕ) (at : State) → Good (budget at) (element_in i o class size at)
good_element_in i o (Array kind) size at = good_element_at o (within i size) at
good_element_in i o class size at = omega arith

pub good_element : (x i : Value) (at : State) → Good (budget at) (element_of x i at)
good_element x (value.Long i) at = good_object (λ o. look (element_in i o) o) x at (λ o. good_look (element_in i o) o at (λ class size u le. good_element_in i o class size u))
good_element x i at = good_object (λ o. Fails BadValue) x at (λ o. omega arith)

pub good_root : (N r : ℕ) → GoodAt N (root r)
good_root N r = good_under N (Name r) grade.Read (get 0 r) (λ u h. good_get 0 r u)

pub good_make : (class : ClassId) (size : ℕ) (at : State) → Good (budget at) (make class size at)
good_make class size at = good_reply (budget at) made (ask (request.New class size) at) (good_ask (request.New class size) at) (λ r u le. good_made r u)

pub good_array : (kind : Kind) (v : Value) (at : State) → Good (budget at) (new_array kind v at)
good_array kind (value.Long (pos n)) at = good_choose (budget at) (nat_le n most_elements) _ _ at (good_make (Array kind) n at) (omega arith)
good_array kind (value.Long (negsuc n)) at = omega arith
good_array kind v at = omega arith

pub good_boolean : (v : Value) (at : State) → Good (budget at) (a_boolean v at)
good_boolean (value.Bool b) at = omega arith
good_boolean v at = omega arith

-- a part, and then what is made of its value
pub good_after : (N : ℕ) (f : Value → Meaning) (m : Meaning) → GoodAt N m → ((v : Value) → GoodAt N (f v)) → GoodAt N (λ at. on_value f (m at))
good_after N f m fine g at h = good_value (budget at) f (m at) (fine at h) (λ v u le. g v u (omega arith))

pub good_second : (N : ℕ) (o : Op) (m : Meaning) → GoodAt N m → (v : Value) → GoodAt N (second o m v)
good_second N op.And m fine (value.Bool true) at h = good_after N a_boolean m fine (λ v u hu. good_boolean v u) at h
good_second N op.And m fine (value.Bool false) at h = omega arith
good_second N op.And m fine v at h = omega arith
good_second N op.Or m fine (value.Bool true) at h = omega arith
good_second N op.Or m fine (value.Bool false) at h = good_after N a_boolean m fine (λ v u hu. good_boolean v u) at h
good_second N op.Or m fine v at h = omega arith
good_second N o m fine x at h = good_after N (λ y. result_of (binary o x y)) (holding (x ∷ []) m) (good_holding N (x ∷ []) m fine) (λ y u hu. good_result (binary o x y) u) at h

pub layer : (c : Code) (w : MethodMeanings) (N : ℕ) → FineWays N w → (y : Expr-F (Kid c w N)) → GoodAt N (expr_step c w (map-Expr Expr Meaning (expr c w) (map-Expr (Kid c w N) Expr (λ k. k.0) y)))
layer c w N fw (ef.Const v) at h = omega arith
layer c w N fw (ef.Var x) at h = omega arith
layer c w N fw ef.This at h = omega arith
layer c w N fw (ef.Root r) at h = good_root N r at h
layer c w N fw (ef.Field a f) at h = good_after N (field_of f) (expr c w a.0) a.1 (λ v u hu. good_field f v u) at h
layer c w N fw (ef.Elem a b) at h = good_after N (on_next element_of (expr c w b.0)) (expr c w a.0) a.1
    (λ x. good_after N (element_of x) (holding (x ∷ []) (expr c w b.0)) (good_holding N (x ∷ []) (expr c w b.0) b.1) (λ i u hu. good_element x i u)) at h
layer c w N fw (ef.Call a callees args) at h = good_after N (λ x. arguments (call_on c w callees x) x (map (expr c w) (map (λ k. k.0) args)) []) (expr c w a.0) a.1
    (λ x. good_arguments c w N (call_on c w callees x) (good_call c N w fw callees x) x args []) at h
layer c w N fw (ef.NewObject class) at h = good_make (Plain class) _ at
layer c w N fw (ef.NewArray kind a) at h = good_after N (new_array kind) (expr c w a.0) a.1 (λ v u hu. good_array kind v u) at h
layer c w N fw (ef.Unary o a) at h = good_after N (λ v. result_of (unary o v)) (expr c w a.0) a.1 (λ v u hu. good_result (unary o v) u) at h
layer c w N fw (ef.Binary o a b) at h = good_after N (second o (expr c w b.0)) (expr c w a.0) a.1 (good_second N o (expr c w b.0) b.1) at h

pub good_expr : (c : Code) (w : MethodMeanings) (N : ℕ) → FineWays N w → (a : Expr) → GoodAt N (expr c w a)
good_expr c w N fw = ind-Expr (λ a. GoodAt N (expr c w a)) (λ x y is.
    let g : GoodAt N (expr_step c w (map-Expr Expr Meaning (expr c w) x)) = subst (λ z. GoodAt N (expr_step c w (map-Expr Expr Meaning (expr c w) z))) is (layer c w N fw y) in
    subst (λ f. GoodAt N f) (sym (fold-roll-Expr Meaning (expr_step c w) x)) g)

-- Expressions of bodies that keep the rules are safe.
use Rattle.std.proofs.Common.{◌≡◌, refl, ℕ, zero, suc, ◌+◌, arith, Bool, true, false, cond, All, List, [], ◌∷◌, length, map, None, Some, subst, sym, ap, ◌∙◌}
use Rattle.std.specs.Prelude.{ℤ, pos, negsuc, Contains, slice_index_or, nat_le, Result, Ok, Err}
use Rattle.std.specs.Ordering.{int_eq}
use Rattle.std.proofs.lemmas.List.{length-map}
use Rattle.dso_base.specs.declared.op.Op.{Op}
use Rattle.dso_base.specs.declared.op.Op.TheVariants as op
use Rattle.dso_base.specs.declared.request.Fault.{Fault}
use Rattle.dso_base.specs.declared.request.Fault.TheVariants.{BadValue, BadSize, ZeroDivide}
use Rattle.dso_base.specs.declared.request.Request.TheVariants as request
use Rattle.dso_base.specs.declared.shape.Shape.{Shape}
use Rattle.dso_base.specs.declared.value.ClassId.{ClassId}
use Rattle.dso_base.specs.declared.value.ClassId.TheVariants.{Plain, Array}
use Rattle.dso_base.specs.declared.value.Kind.{Kind}
use Rattle.dso_base.specs.declared.value.Value.{Value}
use Rattle.dso_base.specs.declared.value.Value.TheVariants as value
use Rattle.dso_base.specs.Shape.{fields_at}
use Rattle.dso_machine.specs.declared.code.Code.{Code}
use Rattle.dso_machine.specs.declared.tree.Expr.{Expr}
use Rattle.dso_machine.specs.declared.tree.Expr.TheVariants as x
use Rattle.dso_machine.specs.declared.tree.FieldRef.{FieldRef}
use Rattle.dso_machine.specs.declared.tree.Stmt.{Stmt}
use Rattle.dso_machine.specs.Calls.{MethodMeanings, call_on}
use Rattle.dso_machine.specs.Expressions.{expr, field_of, element_of, make, new_array, a_boolean, second}
use Rattle.dso_machine.specs.Limits.{most_elements}
use Rattle.dso_machine.specs.Outcome.{Gives, Fails, Meaning, moving, made, on_value, on_next, holding, result_of}
use Rattle.dso_machine.specs.Sound.{Scope, IsLiteral, IsCallee, SoundExpr, SoundExprs, IsSoundCode}
use Rattle.dso_machine.specs.Statements.{branch, turn, spun}
use Rattle.dso_machine.specs.Values.{binary_longs, binary, unary}
use Rattle.dso_machine.proofs.forms.Equations.{expr_Const, expr_Var, expr_This, expr_Root, expr_Field, expr_Elem, expr_Call, expr_NewObject, expr_NewArray, expr_Unary, expr_Binary}
use Rattle.dso_lint.specs.declared.answer.Place.{Place}
use Rattle.dso_lint.specs.Routines.{Routine, IsAt}
use Rattle.dso_lint.specs.Trees.{Evaluates}
use Rattle.dso_lint.specs.Sites.{Site}
use Rattle.dso_lint.specs.Clean.{Choice, KeepsRules, is_clean}
use Rattle.dso_lint.specs.Access.{IsLocked, IsGuarded, Access, Makes, KeepsAccess}
use Rattle.dso_lint.specs.Upgrades.{NeverUpgrades}
use Rattle.dso_lint.specs.Verdict.{Passes}
use Rattle.dso_lint.proofs.standing.Trees.{head_there, later_there, out_Elem, out_Call, out_NewArray, out_Unary, out_Binary}
use Rattle.dso_lint_law.proofs.parts.Views.{View, later_itself, Shared, shared_later}
use Rattle.dso_lint_law.proofs.parts.Parts.{Obeys, Var, Around, keeps_itself, Said, Any, SharedIf, Part, part_weaker, part_value, part_holding, part_choose, part_gives, part_fails, part_stopped, part_ask, part_made, part_moving}
use Rattle.dso_lint_law.proofs.parts.Accesses.{FieldGuarded, HasHolds, holds_later, Locked, part_field, part_element, part_root}
use Rattle.dso_lint_law.proofs.bodies.Rules.{expr_of, variable_of, clean_Field, clean_Elem, clean_Call, clean_NewObject, clean_NewArray, QuietBy, chosen_var, chosen_is, around, locked_around, field_around}
use Rattle.dso_lint_law.proofs.bodies.Placed.{PlacedOne, one_under, one_in_body, one_in_site, one_in_block, InStmt, in_operand, evaluates_it}
use Rattle.dso_lint_law.proofs.bodies.Calls.{Bodies, part_call, AreSafe, part_arguments}

-- ---- values

-- a literal is no object
literal_shared : (shape : Shape) (v : Value) → IsLiteral shape v → (g : View) → Shared g v
literal_shared shape (value.Ref object) literal g = absurd literal
literal_shared shape value.Null literal g = tt
literal_shared shape (value.Long n) literal g = tt
literal_shared shape (value.Bool b) literal g = tt
literal_shared shape (value.Text t) literal g = tt

-- nor is what an operator gives
abbrev NoObject : Value → Type 0
NoObject (value.Ref object) = ⊥
NoObject v = Unit {0}

abbrev GivesNone : Result Value Fault → Type 0
GivesNone (Ok v) = NoObject v
GivesNone (Err fault) = Unit {0}

none_shared : (v : Value) → NoObject v → (g : View) → Shared g v
none_shared (value.Ref object) none g = absurd none
none_shared value.Null none g = tt
none_shared (value.Long n) none g = tt
none_shared (value.Bool b) none g = tt
none_shared (value.Text t) none g = tt

none_unless : (b : Bool) (v : Value) → NoObject v → GivesNone (cond b (Err ZeroDivide) (Ok v))
none_unless true v none = tt
none_unless false v none = none

none_longs : (o : Op) (m n : ℤ) → GivesNone (binary_longs o m n)
none_longs op.Div m n = none_unless (int_eq n (pos 0)) _ tt
none_longs op.Rem m n = none_unless (int_eq n (pos 0)) _ tt
none_longs o m n = tt

none_binary : (o : Op) (a b : Value) → GivesNone (binary o a b)
none_binary op.Eq a b = tt
none_binary op.Ne a b = tt
none_binary o (value.Long m) (value.Long n) = none_longs o m n
none_binary o a b = tt

none_unary : (o : Op) (v : Value) → GivesNone (unary o v)
none_unary op.Not (value.Bool b) = tt
none_unary op.Neg (value.Long n) = tt
none_unary o v = tt

-- ---- parts that ask for no guard

-- a part that is another one
pub part_as : (shape : Shape) (c : Around) (P : Said) (g : View) (m n : Meaning) → m ≡ n → Part shape c P g n → Part shape c P g m
part_as shape c P g m n is part = subst (Part shape c P g) (sym is) part

module _ (shape : Shape) (c : Around) where
  part_none : (b : Bool) (g : View) (r : Result Value Fault) → GivesNone r → Part shape c (SharedIf b) g (result_of r)
  part_none b g (Ok v) none = part_gives shape c (SharedIf b) g v (λ h later is. none_shared v none h)
  part_none b g (Err fault) none = part_fails shape c (SharedIf b) g fault

  part_make : (g : View) (class : ClassId) (size : ℕ) → Part shape c Any g (make class size)
  part_make g class size = part_ask shape c Any g [] (request.New class size) made (λ h this vars later stands. tt) (λ h r later comes. later_itself c.quiet h) (λ h r later comes. part_made shape c h r)

  part_array : (g : View) (k : Kind) (v : Value) → Part shape c Any g (new_array k v)
  part_array g k (value.Long (pos n)) = part_choose shape c Any g (nat_le n most_elements) (make (Array k) n) (Fails BadSize) (λ few. part_make g (Array k) n) (part_fails shape c Any g BadSize)
  part_array g k (value.Long (negsuc n)) = part_fails shape c Any g BadSize
  part_array g k v = part_fails shape c Any g BadValue

  part_boolean : (b : Bool) (g : View) (v : Value) → Part shape c (SharedIf b) g (a_boolean v)
  part_boolean b g (value.Bool t) = part_gives shape c (SharedIf b) g (value.Bool t) (λ h later is. tt)
  part_boolean b g v = part_fails shape c (SharedIf b) g BadValue

  part_second : (b : Bool) (g : View) (o : Op) (m : Meaning) (v : Value) → Part shape c Any g m → Part shape c (SharedIf b) g (second o m v)
  part_second b g op.And m (value.Bool true) part = part_value shape c Any (SharedIf b) g a_boolean m part (λ v h later said. part_boolean b h v)
  part_second b g op.And m (value.Bool false) part = part_gives shape c (SharedIf b) g (value.Bool false) (λ h later is. tt)
  part_second b g op.And m v part = part_fails shape c (SharedIf b) g BadValue
  part_second b g op.Or m (value.Bool true) part = part_gives shape c (SharedIf b) g (value.Bool true) (λ h later is. tt)
  part_second b g op.Or m (value.Bool false) part = part_value shape c Any (SharedIf b) g a_boolean m part (λ v h later said. part_boolean b h v)
  part_second b g op.Or m v part = part_fails shape c (SharedIf b) g BadValue
  part_second b g o m x part = part_value shape c Any (SharedIf b) g (λ y. result_of (binary o x y)) (holding (x ∷ []) m) (part_holding shape c Any g (x ∷ []) m part) (λ y h later said. part_none b h (binary o x y) (none_binary o x y))

  pub part_branch : (g : View) (a b : Meaning) (v : Value) → Part shape c Any g a → Part shape c Any g b → Part shape c Any g (branch a b v)
  part_branch g a b (value.Bool true) part rest = record { from = λ h u later stands. part.from h u later stands }
  part_branch g a b (value.Bool false) part rest = record { from = λ h u later stands. rest.from h u later stands }
  part_branch g a b v part rest = part_fails shape c Any g BadValue

  pub part_spun : (test body : Meaning) → ((g : View) → Part shape c Any g test) → ((g : View) → Part shape c Any g body) → (turns : ℕ) (g : View) → Part shape c Any g (spun test body turns)
  part_spun test body tests bodies zero g = part_stopped shape c Any g
  part_spun test body tests bodies (suc turns) g = part_value shape c Any Any g (turn (moving (spun test body turns)) body) test (tests g)
      (λ v h later said. part_branch h (λ at. on_value (λ v. moving (spun test body turns)) (body at)) (Gives value.Null) v
      (part_value shape c Any Any h (λ v. moving (spun test body turns)) body (bodies h) (λ w i further said. part_moving shape c Any i (spun test body turns) (part_spun test body tests bodies turns i)))
      (part_gives shape c Any h value.Null (λ i further. tt)))

-- as many values as arguments
args_counted : (values before parts args : ℕ) → values ≡ before + parts → before ≡ 0 → parts ≡ args → values ≡ args
args_counted values before parts args many none same = omega (arith, many, none, same)

-- ---- variables

-- what is said of a variable's value
abbrev pub Of : Around → Var → Said
Of c v g y = SharedIf (c.clean v) g y × HasHolds c v g y

module _ (code : Code) (ways : MethodMeanings) (c : Around) where
  part_this : (g : View) → Part code.shape c (Of c Var.This) g (λ u. Gives u.environment.this u)
  part_this g = record { from = λ h u later stands. Obeys.ends (Gives u.environment.this u) (λ rs. refl) (later_itself c.quiet h, (λ is. stands.clean Var.This is, λ grade there. stands.holds Var.This grade there), stands, keeps_itself c u.environment) }

  part_numbered : (i : ℕ) (g : View) → Part code.shape c (Of c (Var.Numbered i)) g (λ u. Gives (slice_index_or u.environment.vars i value.Null) u)
  part_numbered i g = record {
    from = λ h u later stands. Obeys.ends (Gives (slice_index_or u.environment.vars i value.Null) u) (λ rs. refl)
        (later_itself c.quiet h, (λ is. stands.clean (Var.Numbered i) is, λ grade there. stands.holds (Var.Numbered i) grade there), stands, keeps_itself c u.environment);
  }

  -- a variable's value
  pub part_var : (v : Var) (g : View) → Part code.shape c (Of c v) g (expr code ways (expr_of v))
  part_var Var.This g = part_as code.shape c (Of c Var.This) g _ _ (expr_This code ways) (part_this g)
  part_var (Var.Numbered i) g = part_as code.shape c (Of c (Var.Numbered i)) g _ _ (expr_Var code ways i) (part_numbered i g)

-- ---- all forms

module _ (code : Code) (sound : IsSoundCode code) (choice : Choice) (rules : KeepsRules code choice) (passes : (at : Place) → Passes code choice at) (ways : MethodMeanings) (bodies : Bodies code choice rules passes ways)
    (at : Place) (body : Routine) (is_at : IsAt code at body) (this : Value → Type 0) (count : ℕ) (in_method : Bool) where
  abbrev shape : Shape
  shape = code.shape

  abbrev scope : Scope
  scope = record { code = code; vars = count; in_method = in_method }

  abbrev around_at : List Site → List Stmt → Around
  around_at sites block = around code choice at body this sites block

  keeps_access : KeepsAccess shape (choice at) body
  keeps_access = (passes at).access body is_at

  never : NeverUpgrades code body
  never = (passes at).upgrade body is_at

  -- ---- expressions

  module _ (sites : List Site) (block : List Stmt) (a : Stmt) (one : PlacedOne body sites block a) where
    abbrev c : Around
    c = around_at sites block

    -- an access that the statement makes is guarded
    pub guarded : (access : Access) → Makes a access → IsGuarded shape (choice at) body.named access.object access.field access.write sites
    guarded access makes = keeps_access a sites access (one_under one) makes

    -- a block in which it stands, and that publishes nothing, has none of its calls
    loud_call : (e : Expr) (callees : List (ℕ × ℕ)) (args : List Expr) → Evaluates a (x.Call e callees args) → QuietBy code choice at body sites → ⊥
    loud_call e callees args evaluates q = q.quiet.no_call e callees args (record { statement = a; stands = one_in_site one q.site q.there; evaluates = evaluates })

    abbrev pub Safe_expr : Expr → View → Type 0
    Safe_expr e g = Part shape c (SharedIf (is_clean (choice at) e)) g (expr code ways e)

    pub any_of : (e : Expr) (g : View) → Safe_expr e g → Part shape c Any g (expr code ways e)
    any_of e g part = part_weaker shape c (SharedIf (is_clean (choice at) e)) Any g (expr code ways e) (λ h v said. tt) part

    -- a field of a variable
    part_field_of : (e : Expr) (f : FieldRef) (v : Var) → e ≡ expr_of v → Evaluates a (x.Field e f) → (g : View) → Safe_expr (x.Field e f) g
    part_field_of e f v is evaluates g = part_as shape c _ g _ _ (expr_Field code ways e f)
        (part_value shape c (Of c v) (SharedIf (is_clean (choice at) (x.Field e f))) g (field_of f) (expr code ways e) (subst (λ y. Part shape c (Of c v) g (expr code ways y)) (sym is) (part_var code ways c v g))
        (λ y h later said. part_weaker shape c (SharedIf (c.clean v)) (SharedIf (is_clean (choice at) (x.Field e f))) h (field_of f y) (λ i z shared clean. shared (is_chosen clean)) (part_field shape c (c.clean v) h v f y fields said.1 said.0)))
      where
        is_chosen : is_clean (choice at) (x.Field e f) ≡ true → chosen_var code choice at body v ≡ true
        is_chosen clean = sym (chosen_is code choice at body v) ∙ ap (is_clean (choice at)) (sym is) ∙ sym (clean_Field (choice at) e f) ∙ clean

        fields : FieldGuarded shape c v f false
        fields = field_around code choice at body this v f sites block false
            (subst (λ y. IsGuarded shape (choice at) body.named y (Some f) false sites) is (guarded (record { object = e; field = Some f; write = false }) (Makes.reads_field e f evaluates)))

    -- an element of one
    part_element_of : (e i : Expr) (v : Var) → e ≡ expr_of v → Evaluates a (x.Elem e i) → ((g : View) → Safe_expr i g) → (g : View) → Safe_expr (x.Elem e i) g
    part_element_of e i v is evaluates index g = part_as shape c _ g _ _ (expr_Elem code ways e i)
        (part_value shape c (Of c v) (SharedIf (is_clean (choice at) (x.Elem e i))) g (on_next element_of (expr code ways i)) (expr code ways e) (subst (λ y. Part shape c (Of c v) g (expr code ways y)) (sym is) (part_var code ways c v g))
        (λ y h later said. part_value shape c Any (SharedIf (is_clean (choice at) (x.Elem e i))) h (element_of y) (holding (y ∷ []) (expr code ways i)) (part_holding shape c Any h (y ∷ []) (expr code ways i) (any_of i h (index h)))
        (λ k j further any. part_weaker shape c (SharedIf (c.clean v)) (SharedIf (is_clean (choice at) (x.Elem e i))) j (element_of y k) (λ l z shared clean. shared (is_chosen clean))
        (part_element shape c (c.clean v) j v y k locked (holds_later c v h j y further said.1) (λ clean. shared_later c.quiet h j further y (said.0 clean))))))
      where
        is_chosen : is_clean (choice at) (x.Elem e i) ≡ true → chosen_var code choice at body v ≡ true
        is_chosen clean = sym (chosen_is code choice at body v) ∙ ap (is_clean (choice at)) (sym is) ∙ sym (clean_Elem (choice at) e i) ∙ clean

        locked : Locked c v false
        locked = locked_around code choice at body this v sites block false
            (subst (λ y. IsLocked shape (choice at) y false sites) is (guarded (record { object = e; field = None; write = false }) (Makes.reads_element e i evaluates)))

    mutual
      -- a sound expression is safe
      pub part_expr : {e : Expr} → SoundExpr scope e → InStmt a e → (g : View) → Safe_expr e g
      part_expr (SoundExpr.constant {v = v} literal) inside g = part_as shape c _ g _ _ (expr_Const code ways v) (part_gives shape c _ g v (λ h later clean. literal_shared shape v literal h))
      part_expr (SoundExpr.variable {i = i} there) inside g = part_weaker shape c (Of c (Var.Numbered i)) (SharedIf (is_clean (choice at) (x.Var i))) g (expr code ways (x.Var i))
          (λ h y said clean. said.0 (sym (chosen_is code choice at body (Var.Numbered i)) ∙ clean)) (part_var code ways c (Var.Numbered i) g)
      part_expr (SoundExpr.this there) inside g = part_weaker shape c (Of c Var.This) (SharedIf (is_clean (choice at) x.This)) g (expr code ways x.This) (λ h y said clean. said.0 (sym (chosen_is code choice at body Var.This) ∙ clean)) (part_var code ways c Var.This g)
      part_expr (SoundExpr.root {r = r} there) inside g = part_as shape c _ g _ _ (expr_Root code ways r)
          (part_weaker shape c (SharedIf true) (SharedIf (is_clean (choice at) (x.Root r))) g _ (λ h y said clean. said refl) (part_root shape c g r))
      part_expr (SoundExpr.field {a = e} {f = f} inner places) inside g =
          let reads : IsGuarded shape (choice at) body.named e (Some f) false sites = guarded (record { object = e; field = Some f; write = false }) (Makes.reads_field e f (evaluates_it a (x.Field e f) inside)) in
          part_field_of e f (variable_of e reads.0).0 (variable_of e reads.0).1 (evaluates_it a (x.Field e f) inside) g
      part_expr (SoundExpr.element {a = e} {b = i} inner index) inside g =
          let reads : IsLocked shape (choice at) e false sites = guarded (record { object = e; field = None; write = false }) (Makes.reads_element e i (evaluates_it a (x.Elem e i) inside)) in
          part_element_of e i (variable_of e reads.holds.is_variable).0 (variable_of e reads.holds.is_variable).1 (evaluates_it a (x.Elem e i) inside)
          (part_expr index (in_operand a (x.Elem e i) i (e ∷ i ∷ []) (out_Elem e i) (later_there e (i ∷ []) i (head_there i [])) inside)) g
      part_expr (SoundExpr.call {a = e} {callees = callees} {args = args} inner are rest) inside g = part_as shape c _ g _ _ (expr_Call code ways e callees args)
          (part_value shape c (SharedIf (is_clean (choice at) e)) (SharedIf (is_clean (choice at) (x.Call e callees args))) g _ (expr code ways e) (part_expr inner (in_operand a (x.Call e callees args) e (e ∷ args) (out_Call e callees args) (head_there e args) inside) g)
          (λ v h later said. part_weaker shape c Any (SharedIf (is_clean (choice at) (x.Call e callees args))) h _ (λ i y any clean. absurd (cc (sym (clean_Call (choice at) e callees args) ∙ clean)))
          (part_arguments shape c (call_on code ways callees v) v (map (expr code ways) args) h [] (part_exprs rest (λ arg there. in_operand a (x.Call e callees args) arg (e ∷ args) (out_Call e callees args) (later_there e args arg there) inside) h)
          (λ vs i further many. part_call code sound choice rules passes ways bodies at body is_at block c (loud_call e callees args (evaluates_it a (x.Call e callees args) inside)) e callees args
          (record { statement = a; stands = one_in_body one; evaluates = evaluates_it a (x.Call e callees args) inside }) (record { statement = a; stands = one_in_block one; evaluates = evaluates_it a (x.Call e callees args) inside })
          (λ may. may) (λ k may. may) i v vs (subst (λ k. All (IsCallee code k) callees) (sym (args_counted (length vs) _ (length (map (expr code ways) args)) (length args) many refl (length-map args (expr code ways)))) are.there) (λ clean. shared_later c.quiet h i further v (said clean))))))
      part_expr (SoundExpr.object {c = class} there) inside g = part_as shape c _ g _ _ (expr_NewObject code ways class)
          (part_weaker shape c Any _ g _ (λ h y any clean. absurd (cc (sym (clean_NewObject (choice at) class) ∙ clean))) (part_make shape c g (Plain class) (length (fields_at shape class))))
      part_expr (SoundExpr.array {k = k} {a = e} inner) inside g = part_as shape c _ g _ _ (expr_NewArray code ways k e)
          (part_weaker shape c Any _ g _ (λ h y any clean. absurd (cc (sym (clean_NewArray (choice at) k e) ∙ clean)))
          (part_value shape c Any Any g (new_array k) (expr code ways e) (any_of e g (part_expr inner (in_operand a (x.NewArray k e) e (e ∷ []) (out_NewArray k e) (head_there e []) inside) g)) (λ v h later any. part_array shape c h k v)))
      part_expr (SoundExpr.unary {o = o} {a = e} is inner) inside g = part_as shape c _ g _ _ (expr_Unary code ways o e)
          (part_value shape c Any _ g (λ v. result_of (unary o v)) (expr code ways e) (any_of e g (part_expr inner (in_operand a (x.Unary o e) e (e ∷ []) (out_Unary o e) (head_there e []) inside) g)) (λ v h later any. part_none shape c _ h (unary o v) (none_unary o v)))
      part_expr (SoundExpr.binary {o = o} {a = e} {b = d} is inner other) inside g = part_as shape c _ g _ _ (expr_Binary code ways o e d)
          (part_value shape c Any _ g (second o (expr code ways d)) (expr code ways e) (any_of e g (part_expr inner (in_operand a (x.Binary o e d) e (e ∷ d ∷ []) (out_Binary o e d) (head_there e (d ∷ [])) inside) g))
          (λ v h later any. part_second shape c _ h o (expr code ways d) v (any_of d h (part_expr other (in_operand a (x.Binary o e d) d (e ∷ d ∷ []) (out_Binary o e d) (later_there e (d ∷ []) d (head_there d [])) inside) h))))

      -- so each of a list
      part_exprs : {all : List Expr} → SoundExprs scope all → ((arg : Expr) → Contains all arg → InStmt a arg) → (g : View) → AreSafe shape c g (map (expr code ways) all)
      part_exprs SoundExprs.none inside g = tt
      part_exprs (SoundExprs.more {a = e} {rest = rest} first others) inside g = (any_of e g (part_expr first (inside e (head_there e rest)) g), part_exprs others (λ arg there. inside arg (later_there e rest arg there)) g)

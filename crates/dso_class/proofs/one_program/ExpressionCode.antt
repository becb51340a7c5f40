-- An expression stands for one code in numbers, where what is numbered is told apart.
use Rattle.std.proofs.Common.{ℕ, ◌≡◌, ◌≢◌, ◌↔◌, Bool, true, false, IsTrue, refl, sym, ap, ap₂, subst, subst₂, Some, List, ◌∷◌, length, slice_get, AllPairs}
use Rattle.dso_base.specs.declared.value.Value.TheVariants as value
use Rattle.dso_machine.specs.declared.tree.FieldRef.{FieldRef}
use Rattle.dso_machine.specs.declared.tree.Expr.{Expr}
use Rattle.dso_machine.specs.declared.tree.Expr.TheVariants as x
use Rattle.dso_syntax.specs.declared.tree.ExprTree.{ExprTree}
use Rattle.dso_syntax.specs.declared.tree.ExprForm.TheVariants as e
use Rattle.dso_syntax.specs.Grammar.{expression}
use Rattle.dso_config_entries.specs.Words.{Word}
use Rattle.dso_class.specs.Declarations.{MethodTree}
use Rattle.dso_class.specs.Numbers.{Numbers, IsNumber, HasField, HasMethod, IsFieldRef, AreThePairs, MeansExpr, MeansExprs}
use Rattle.dso_class.proofs.one_program.Lists.{one_number, one_pairs}
use Rattle.dso_class.proofs.one_program.Expressions.{form_of, same_paren, same_array, same_field, same_element, same_call, same_unary, same_binary}

-- What is numbered differs, and no class that has a root is called as a variable.
pub record IsToldApart (n : Numbers) : Type 0 where
  pub texts : AllPairs (λ one other. one ≢ other) n.texts
  pub classes : AllPairs (λ one other. one ≢ other) n.classes
  pub roots : AllPairs (λ one other. one ≢ other) n.roots
  pub variables : AllPairs (λ one other. one ≢ other) n.variables
  pub no_class : (class field : Word) (i j : ℕ) → IsNumber n.roots (record { class = class; field = field }) i → IsNumber n.variables class j → ⊥

-- what is made of three things that are one
pub of_three : {A B C D : Type 0} (f : A → B → C → D) {a b : A} {c d : B} {g h : C} → a ≡ b → c ≡ d → g ≡ h → f a c g ≡ f b d h
of_three f first second third = ap₂ (λ f rest. f rest) (ap₂ f first second) third

-- equal things have one number
pub numbered : {A : Type 0} (xs : List A) → AllPairs (λ one other. one ≢ other) xs → (x y : A) (i j : ℕ) → slice_get xs i ≡ Some x → slice_get xs j ≡ Some y → x ≡ y → i ≡ j
numbered xs differ x y i j here there same = one_number xs differ x i j here (subst (λ z. slice_get xs j ≡ Some z) (sym same) there)

-- truths of one fact are one
one_truth : {P : Type 0} (a b : Bool) → IsTrue a ↔ P → IsTrue b ↔ P → a ≡ b
one_truth true true tells too = refl
one_truth true false tells too = absurd (cc (too.1 (tells.0 refl)))
one_truth false true tells too = absurd (cc (tells.1 (too.0 refl)))
one_truth false false tells too = refl

-- references of one name are one
pub one_reference : (fields : List (List Word)) (name called : Word) (f g : FieldRef) → IsFieldRef fields name f → IsFieldRef fields called g → name ≡ called → f ≡ g
one_reference fields name called f g is other same =
    let too : IsFieldRef fields name g = subst (λ word. IsFieldRef fields word g) (sym same) other in
    let places : f.places ≡ g.places = one_pairs (HasField fields name) f.places g.places is.places too.places in
    let size : f.length ≡ g.length = one_truth f.length g.length is.size too.size in
    ap₂ (λ (all : List (ℕ × ℕ)) (length : Bool). record { places = all; length = length }) places size

-- the methods that calls of one name and as many arguments may reach are one list
one_callees : (methods : List MethodTree) (name called : Word) (count many : ℕ) (callees those : List (ℕ × ℕ)) → AreThePairs (HasMethod methods name count) callees → AreThePairs (HasMethod methods called many) those
    → name ≡ called → count ≡ many → callees ≡ those
one_callees methods name called count many callees those are other same as_many =
    one_pairs (HasMethod methods name count) callees those are
    (subst₂ (λ word n. AreThePairs (HasMethod methods word n) those) (sym same) (sym as_many) other)

module _ (n : Numbers) (apart : IsToldApart n) where
  -- no code is what a class with a root means
  pub class_means_nothing : {tree : ExprTree} {a : Expr} (at i : ℕ) (class field : Word) → MeansExpr n tree a → expression at (e.Name class) ≡ tree
      → IsNumber n.roots (record { class = class; field = field }) i → ⊥
  class_means_nothing at i class field (MeansExpr.variable {i = j} {name = name} there) same here =
      let called : class ≡ name = cc (ap form_of same) in
      apart.no_class class field i j here (subst (λ word. IsNumber n.variables word j) (sym called) there)
  class_means_nothing at i class field other same here = absurd (cc (ap form_of same))

  -- the number of a root is one
  pub one_root : (at from i j : ℕ) (class other : Word) (name called : Word) → IsNumber n.roots (record { class = class; field = name }) i → IsNumber n.roots (record { class = other; field = called }) j
      → expression at (e.Name class) ≡ expression from (e.Name other) → name ≡ called → i ≡ j
  one_root at from i j class other name called here there same field =
      let classes : class ≡ other = cc (ap form_of same) in
      numbered n.roots apart.roots (record { class = class; field = name }) (record { class = other; field = called }) i j here there
      (ap₂ (λ (class field : Word). record { class = class; field = field }) classes field)

  mutual
    -- an expression is one code
    pub one_expr : {tree other : ExprTree} {a b : Expr} → MeansExpr n tree a → MeansExpr n other b → tree ≡ other → a ≡ b
    one_expr MeansExpr.number MeansExpr.number same = ap (λ v. x.Const (value.Long v)) (cc (ap form_of same))
    one_expr MeansExpr.number other same = absurd (cc (ap form_of same))
    one_expr (MeansExpr.text {i = i} {content = content} here) (MeansExpr.text {i = j} {content = other} there) same =
        ap (λ k. x.Const (value.Text k)) (numbered n.texts apart.texts content other i j here there (cc (ap form_of same)))
    one_expr (MeansExpr.text here) other same = absurd (cc (ap form_of same))
    one_expr MeansExpr.truth MeansExpr.truth same = ap (λ b. x.Const (value.Bool b)) (cc (ap form_of same))
    one_expr MeansExpr.truth other same = absurd (cc (ap form_of same))
    one_expr MeansExpr.null MeansExpr.null same = refl
    one_expr MeansExpr.null other same = absurd (cc (ap form_of same))
    one_expr MeansExpr.this MeansExpr.this same = refl
    one_expr MeansExpr.this other same = absurd (cc (ap form_of same))
    one_expr (MeansExpr.variable {i = i} {name = name} here) (MeansExpr.variable {i = j} {name = other} there) same =
        ap x.Var (numbered n.variables apart.variables name other i j here there (cc (ap form_of same)))
    one_expr (MeansExpr.variable here) other same = absurd (cc (ap form_of same))
    one_expr (MeansExpr.parens {line = line} {a = a} means) (MeansExpr.parens {line = at} {a = c} too) same = one_expr means too (same_paren line at a c same)
    one_expr (MeansExpr.parens means) other same = absurd (cc (ap form_of same))
    one_expr (MeansExpr.object {i = i} {name = name} here) (MeansExpr.object {i = j} {name = other} there) same =
        let called : name ≡ other = cc (ap form_of same) in
        ap x.NewObject (numbered n.classes apart.classes name.name other.name i j here there (ap (λ one. one.name) called))
    one_expr (MeansExpr.object here) other same = absurd (cc (ap form_of same))
    one_expr (MeansExpr.array {line = line} {kind = k} {a = a} means) (MeansExpr.array {line = at} {kind = l} {a = c} too) same =
        let parts = same_array line at k l a c same in
        ap₂ x.NewArray parts.0 (one_expr means too parts.1)
    one_expr (MeansExpr.array means) other same = absurd (cc (ap form_of same))
    one_expr (MeansExpr.root {line = line} {i = i} at {class = class} {name = name} here) (MeansExpr.root {line = behind} {i = j} from {class = other} {name = called} there) same =
        let parts = same_field line behind (expression at (e.Name class)) (expression from (e.Name other)) name called same in
        ap x.Root (one_root at from i j class other name.name called.name here there parts.0 (ap (λ one. one.name) parts.1))
    one_expr (MeansExpr.root {line = line} {i = i} at {class = class} {name = name} here) (MeansExpr.field {line = behind} {a = c} {name = called} too ref) same =
        absurd (class_means_nothing at i class name.name too (same_field line behind (expression at (e.Name class)) c name called same).0 here)
    one_expr (MeansExpr.root at here) other same = absurd (cc (ap form_of same))
    one_expr (MeansExpr.field {line = line} {a = a} {name = name} means ref) (MeansExpr.root {line = behind} {i = i} at {class = class} {name = called} there) same =
        absurd (class_means_nothing at i class called.name means (sym (same_field line behind a (expression at (e.Name class)) name called same).0) there)
    one_expr (MeansExpr.field {line = line} {a = a} {name = name} {f = f} means ref) (MeansExpr.field {line = at} {a = c} {name = called} {f = g} too other) same =
        let parts = same_field line at a c name called same in
        ap₂ x.Field (one_expr means too parts.0) (one_reference n.fields name.name called.name f g ref other (ap (λ one. one.name) parts.1))
    one_expr (MeansExpr.field means ref) other same = absurd (cc (ap form_of same))
    one_expr (MeansExpr.element {line = line} {a = a} {c = c} means index) (MeansExpr.element {line = at} {a = d} {c = f} too other) same =
        let parts = same_element line at a d c f same in
        ap₂ x.Elem (one_expr means too parts.0) (one_expr index other parts.1)
    one_expr (MeansExpr.element means index) other same = absurd (cc (ap form_of same))
    one_expr (MeansExpr.call {line = line} {a = a} {name = name} {args = args} {callees = callees} means are all) (MeansExpr.call {line = at} {a = c} {name = called} {args = others} {callees = those} too were every) same =
        let parts = same_call line at a c name called args others same in
        let on = one_expr means too parts.0 in
        let reached = one_callees n.methods name.name called.name (length args) (length others) callees those are were (ap (λ one. one.name) parts.1) (ap length parts.2) in
        of_three x.Call on reached (one_exprs all every parts.2)
    one_expr (MeansExpr.call means are all) other same = absurd (cc (ap form_of same))
    one_expr (MeansExpr.unary {line = line} {o = o} {a = a} means) (MeansExpr.unary {line = at} {o = p} {a = c} too) same =
        let parts = same_unary line at o p a c same in
        ap₂ x.Unary parts.0 (one_expr means too parts.1)
    one_expr (MeansExpr.unary means) other same = absurd (cc (ap form_of same))
    one_expr (MeansExpr.binary {line = line} {o = o} {a = a} {c = c} left right) (MeansExpr.binary {line = at} {o = p} {a = d} {c = f} too other) same =
        let parts = same_binary line at o p a d c f same in
        of_three x.Binary parts.0 (one_expr left too parts.1) (one_expr right other parts.2)
    one_expr (MeansExpr.binary left right) other same = absurd (cc (ap form_of same))

    -- and so are all of a list
    pub one_exprs : {trees others : List ExprTree} {all those : List Expr} → MeansExprs n trees all → MeansExprs n others those → trees ≡ others → all ≡ those
    one_exprs MeansExprs.none MeansExprs.none same = refl
    one_exprs MeansExprs.none (MeansExprs.more one rest) same = absurd (cc same)
    one_exprs (MeansExprs.more one rest) MeansExprs.none same = absurd (cc same)
    one_exprs (MeansExprs.more one rest) (MeansExprs.more other those) same = ap₂ (λ first later. first ∷ later) (one_expr one other (cc same)) (one_exprs rest those (cc same))

-- Sound expressions keep to what may be asked.
use Rattle.std.proofs.Common.{◌≡◌, refl, ◌∙◌, inl, inr, ℕ, zero, suc, ◌<◌, ◌≤◌, arith, All, eqb, Bool, true, false, List, [], ◌∷◌, length, map, Option, None, Some, subst, sym}
use Rattle.std.specs.Prelude.{ℤ, pos, negsuc, nat_le, nat_lt, cond, slice_index_or, slice_set, Ok, Err}
use Rattle.std.specs.Ordering.{int_eq}
use Rattle.std.proofs.lemmas.Bool.{leb-true, eqb-true, ltb-true}
use Rattle.std.proofs.lemmas.List.Elements.{All-head, All-tail}
use Rattle.dso_base.specs.declared.lock.Grade.TheVariants as grade
use Rattle.dso_base.specs.declared.lock.LockName.TheVariants.{Name}
use Rattle.dso_base.specs.declared.op.Op.{Op}
use Rattle.dso_base.specs.declared.op.Op.TheVariants as op
use Rattle.dso_base.specs.declared.request.Fault.TheVariants.{NoSuchField, BadValue, BadIndex, BadSize, ZeroDivide}
use Rattle.dso_base.specs.declared.shape.Shape.{Shape}
use Rattle.dso_base.specs.declared.value.ClassId.{ClassId}
use Rattle.dso_base.specs.declared.value.ClassId.TheVariants.{Plain, Array, Roots}
use Rattle.dso_base.specs.declared.value.Kind.{Kind}
use Rattle.dso_base.specs.declared.value.Value.{Value}
use Rattle.dso_base.specs.declared.value.Value.TheVariants as value
use Rattle.dso_base.specs.Shape.{HasField, fields_at}
use Rattle.dso_map.specs.MapClass.{is_map}
use Rattle.dso_machine.specs.declared.code.Code.{Code}
use Rattle.dso_machine.specs.declared.tree.Expr.{Expr}
use Rattle.dso_machine.specs.declared.tree.FieldRef.{FieldRef}
use Rattle.dso_machine.specs.Calls.{lookup, call_on, MethodMeanings}
use Rattle.dso_machine.specs.Expressions.{field_at, field_in, field_of, within, element_at, element_in, element_of, root, make, new_array, a_boolean, second, expr}
use Rattle.dso_machine.specs.Limits.{most_elements}
use Rattle.dso_machine.specs.Outcome.{Gives, Fails, Meaning, on_next, holding, result_of, get, look}
use Rattle.dso_machine.specs.Sound.{Scope, IsLiteral, ArePlaces, SoundExpr, SoundExprs}
use Rattle.dso_machine.specs.Values.{binary_longs, binary, unary}
use Rattle.dso_machine.proofs.forms.Equations.{expr_Const, expr_Var, expr_This, expr_Root, expr_Field, expr_Elem, expr_Call, expr_NewObject, expr_NewArray, expr_Unary, expr_Binary}
use Rattle.dso_machine.proofs.protocol.Protocol.{KnowsValue, Keeper}
use Rattle.dso_machine.proofs.protocol.Parts.{IsNoMapAt, Obeys, KnowsAll, Part, value_later, part_gives, part_fails, part_value, part_holding, part_choose}
use Rattle.dso_machine.proofs.protocol.Requests.{KnowsResult, part_result, part_get, part_make, part_look, part_object}
use Rattle.dso_machine.proofs.protocol.Locks.{part_under}
use Rattle.dso_machine.proofs.protocol.Calls.{Bodies, Parts, part_call, part_arguments}

-- ---- values

-- a literal is known, where the texts of the shape may be named: it is no object
pub known_literal : (shape : Shape) (has_text knows : ℕ → Type 0) → ((t : ℕ) → t < shape.texts → has_text t) → (v : Value) → IsLiteral shape v → KnowsValue has_text knows v
known_literal shape has_text knows own (value.Ref object) literal = absurd literal
known_literal shape has_text knows own value.Null literal = tt
known_literal shape has_text knows own (value.Long n) literal = tt
known_literal shape has_text knows own (value.Bool b) literal = tt
known_literal shape has_text knows own (value.Text t) literal = own t literal

-- a division gives neither an object nor a text
known_unless : (has_text knows : ℕ → Type 0) (b : Bool) (v : Value) → KnowsValue has_text knows v → KnowsResult has_text knows (cond b (Err ZeroDivide) (Ok v))
known_unless has_text knows true v known = tt
known_unless has_text knows false v known = known

-- nor do the other operators between longs,
known_longs : (has_text knows : ℕ → Type 0) (o : Op) (m n : ℤ) → KnowsResult has_text knows (binary_longs o m n)
known_longs has_text knows op.Div m n = known_unless has_text knows (int_eq n (pos 0)) _ tt
known_longs has_text knows op.Rem m n = known_unless has_text knows (int_eq n (pos 0)) _ tt
known_longs has_text knows o m n = tt

-- between any two values,
pub known_binary : (has_text knows : ℕ → Type 0) (o : Op) (a b : Value) → KnowsResult has_text knows (binary o a b)
known_binary has_text knows op.Eq a b = tt
known_binary has_text knows op.Ne a b = tt
known_binary has_text knows o (value.Long m) (value.Long n) = known_longs has_text knows o m n
known_binary has_text knows o a b = tt

-- or before one
pub known_unary : (has_text knows : ℕ → Type 0) (o : Op) (v : Value) → KnowsResult has_text knows (unary o v)
known_unary has_text knows op.Not (value.Bool b) = tt
known_unary has_text knows op.Neg (value.Long n) = tt
known_unary has_text knows o v = tt

-- each of the values is known
pub known_at : (has_text knows : ℕ → Type 0) (vs : List Value) (i : ℕ) → KnowsAll has_text knows vs → KnowsValue has_text knows (slice_index_or vs i value.Null)
known_at has_text knows [] i known = tt
known_at has_text knows (v ∷ vs) zero known = known.0
known_at has_text knows (v ∷ vs) (suc i) known = known_at has_text knows vs i known.1

-- the values stay known with a known one set
pub known_set : (has_text knows : ℕ → Type 0) (vs : List Value) (i : ℕ) (v : Value) → KnowsAll has_text knows vs → KnowsValue has_text knows v → KnowsAll has_text knows (slice_set vs i v)
known_set has_text knows [] i v known here = tt
known_set has_text knows (x ∷ vs) zero v known here = (here, known.1)
known_set has_text knows (x ∷ vs) (suc i) v known here = (known.0, known_set has_text knows vs i v known.1 here)

-- ---- places

-- the place that a list has for a class is a field of it
in_class : (shape : Shape) (class first place : ℕ) (others : Option ℕ) (b : Bool) (p : ℕ) → eqb first class ≡ b → HasField shape (Plain first) place
    → (others ≡ Some p → HasField shape (Plain class) p) → cond b (Some place) others ≡ Some p → HasField shape (Plain class) p
in_class shape class first place others true p is here rest found =
    let same : place ≡ p = cc found in
    subst (HasField shape (Plain class)) same (subst (λ c. HasField shape (Plain c) place) (eqb-true first class is) here)
in_class shape class first place others false p is here rest found = rest found

pub places_there : (shape : Shape) (places : List (ℕ × ℕ)) (class p : ℕ) → All (λ place. HasField shape (Plain place.0) place.1) places → lookup places class ≡ Some p → HasField shape (Plain class) p
places_there shape [] class p there found = absurd (cc found)
places_there shape (place ∷ places) class p there found = in_class shape class place.0 place.1 (lookup places class) (eqb place.0 class) p refl
    (All-head (λ x. HasField shape (Plain x.0) x.1) place places there)
    (places_there shape places class p (All-tail (λ x. HasField shape (Plain x.0) x.1) place places there)) found

-- an index within the size is below it
below : (i size p : ℕ) (b : Bool) → nat_lt i size ≡ b → cond b (Some i) None ≡ Some p → p < size
below i size p true less found =
    let same : i ≡ p = cc found in
    subst (λ n. n < size) same (ltb-true i size less)
below i size p false less found = absurd (cc found)

pub within_below : (i : ℤ) (size p : ℕ) → within i size ≡ Some p → p < size
within_below (pos i) size p found = below i size p (nat_lt i size) refl found
within_below (negsuc i) size p found = absurd (cc found)

-- the class that such a list has a place for is not that of maps
no_map_class : (shape : Shape) (class first place : ℕ) (others : Option ℕ) (b : Bool) (p : ℕ) → eqb first class ≡ b → is_map shape first ≡ false
    → (others ≡ Some p → is_map shape class ≡ false) → cond b (Some place) others ≡ Some p → is_map shape class ≡ false
no_map_class shape class first place others true p is here rest found = subst (λ c. is_map shape c ≡ false) (eqb-true first class is) here
no_map_class shape class first place others false p is here rest found = rest found

pub places_of_no_map : (shape : Shape) (places : List (ℕ × ℕ)) (class p : ℕ) → All (λ place. is_map shape place.0 ≡ false) places → lookup places class ≡ Some p → is_map shape class ≡ false
places_of_no_map shape [] class p none found = absurd (cc found)
places_of_no_map shape (place ∷ places) class p none found = no_map_class shape class place.0 place.1 (lookup places class) (eqb place.0 class) p refl
    (All-head (λ x. is_map shape x.0 ≡ false) place places none)
    (places_of_no_map shape places class p (All-tail (λ x. is_map shape x.0 ≡ false) place places none)) found

-- so an object of it is no map
pub no_map_of : {shape : Shape} (k : Keeper shape) (g : k.Point) (object class size : ℕ) → k.Looked g object (Plain class) size → is_map shape class ≡ false → IsNoMapAt k g object
no_map_of k g object class size looked other = inr (Plain class, size, looked, λ is. cc (sym other ∙ is))

-- nor is an array
pub array_no_map : {shape : Shape} (k : Keeper shape) (g : k.Point) (object : ℕ) (kind : Kind) (size : ℕ) → k.Looked g object (Array kind) size → IsNoMapAt k g object
array_no_map k g object kind size looked = inr (Array kind, size, looked, λ is. is)

module _ {shape : Shape} (k : Keeper shape) where
  -- ---- fields and elements

  -- a field of an object that is known, if it was found,
  part_field_at : (g : k.Point) (object class size : ℕ) (place : Option ℕ) → k.Knows g object → k.Looked g object (Plain class) size
      → ((p : ℕ) → place ≡ Some p → HasField shape (Plain class) p × (is_map shape class ≡ false)) → Part k g (field_at object place)
  part_field_at g object class size None known looked there = part_fails k g NoSuchField
  part_field_at g object class size (Some place) known looked there = part_get k g object place
      (λ h more. k.get_asked h object place (Plain class) size more.awake (more.knows object known) (more.looked object (Plain class) size looked) (there place refl).0)
      (no_map_of k g object class size looked (there place refl).1)

  -- in an object of this class,
  part_field_in : (g : k.Point) (f : FieldRef) (object : ℕ) (class : ClassId) (size : ℕ) → ArePlaces shape f.places → k.Knows g object → k.Looked g object class size → Part k g (field_in f object class size)
  part_field_in g f object (Plain class) size places known looked = part_field_at g object class size (lookup f.places class) known looked
      (λ p found. (places_there shape f.places class p places.there found, places_of_no_map shape f.places class p places.of_no_map found))
  part_field_in g f object (Array kind) size places known looked = part_choose k g f.length (Gives (value.Long (pos size))) (Fails NoSuchField) (λ is. part_gives k g (value.Long (pos size)) tt) (part_fails k g NoSuchField)
  part_field_in g f object Roots size places known looked = part_fails k g NoSuchField

  -- or of a value
  part_field : (g : k.Point) (f : FieldRef) (x : Value) → ArePlaces shape f.places → KnowsValue k.HasText (k.Knows g) x → Part k g (field_of f x)
  part_field g f x places known = part_object k g (λ object. look (field_in f object) object) x known
      (λ object object_known. part_look k g (field_in f object) object object_known (λ h more class size looked. part_field_in h f object class size places (more.knows object object_known) looked))

  -- an element of an object that is known, if it was found,
  part_element_at : (g : k.Point) (object : ℕ) (kind : Kind) (size : ℕ) (place : Option ℕ) → k.Knows g object → k.Looked g object (Array kind) size
      → ((p : ℕ) → place ≡ Some p → p < size) → Part k g (element_at object place)
  part_element_at g object kind size None known looked there = part_fails k g BadIndex
  part_element_at g object kind size (Some place) known looked there = part_get k g object place
      (λ h more. k.get_asked h object place (Array kind) size more.awake (more.knows object known) (more.looked object (Array kind) size looked) (there place refl))
      (array_no_map k g object kind size looked)

  -- in an object of this class,
  part_element_in : (g : k.Point) (i : ℤ) (object : ℕ) (class : ClassId) (size : ℕ) → k.Knows g object → k.Looked g object class size → Part k g (element_in i object class size)
  part_element_in g i object (Array kind) size known looked = part_element_at g object kind size (within i size) known looked (within_below i size)
  part_element_in g i object class size known looked = part_fails k g BadValue

  -- or of a value
  part_element : (g : k.Point) (x i : Value) → KnowsValue k.HasText (k.Knows g) x → Part k g (element_of x i)
  part_element g x (value.Long i) known = part_object k g (λ object. look (element_in i object) object) x known
      (λ object object_known. part_look k g (element_in i object) object object_known (λ h more class size looked. part_element_in h i object class size (more.knows object object_known) looked))
  part_element g x i known = part_object k g (λ object. Fails BadValue) x known (λ object object_known. part_fails k g BadValue)

  -- ---- roots and new objects

  -- a root that is there is read
  part_root : (g : k.Point) (r : ℕ) → r < shape.roots → shape.roots ≤ shape.names → Part k g (root r)
  part_root g r there locks = part_under k g (Name r) grade.Read (get 0 r) tt (omega (arith, there, locks)) (part_get k g 0 r (λ h more. k.get_root_asked h r more.awake there) (inl refl))

  -- a new array has no more elements than there may be
  part_array : (g : k.Point) (kind : Kind) (v : Value) → Part k g (new_array kind v)
  part_array g kind (value.Long (pos n)) = part_choose k g (nat_le n most_elements) (make (Array kind) n) (Fails BadSize)
      (λ few. part_make k g (Array kind) n (λ h more. k.array_asked h kind n more.awake (leb-true n most_elements few))) (part_fails k g BadSize)
  part_array g kind (value.Long (negsuc n)) = part_fails k g BadSize
  part_array g kind v = part_fails k g BadValue

  -- ---- operators

  -- the value is to be a boolean
  part_boolean : (g : k.Point) (v : Value) → Part k g (a_boolean v)
  part_boolean g (value.Bool b) = part_gives k g (value.Bool b) tt
  part_boolean g v = part_fails k g BadValue

  -- the second operand, after the value of the first
  part_second : (g : k.Point) (o : Op) (m : Meaning) (v : Value) → Part k g m → Part k g (second o m v)
  part_second g op.And m (value.Bool true) part = part_value k g a_boolean m part (λ v h more known. part_boolean h v)
  part_second g op.And m (value.Bool false) part = part_gives k g (value.Bool false) tt
  part_second g op.And m v part = part_fails k g BadValue
  part_second g op.Or m (value.Bool true) part = part_gives k g (value.Bool true) tt
  part_second g op.Or m (value.Bool false) part = part_value k g a_boolean m part (λ v h more known. part_boolean h v)
  part_second g op.Or m v part = part_fails k g BadValue
  part_second g o m x part = part_value k g (λ y. result_of (binary o x y)) (holding (x ∷ []) m) (part_holding k g (x ∷ []) m part) (λ y h more known. part_result k h (binary o x y) (known_binary k.HasText (k.Knows h) o x y))

-- a part that is another one
pub part_as : {shape : Shape} (k : Keeper shape) (g : k.Point) (m n : Meaning) → m ≡ n → Part k g n → Part k g m
part_as k g m n is part = subst (Part k g) (sym is) part

-- ---- all forms

module _ (c : Code) (k : Keeper c.shape) (ways : MethodMeanings) (bodies : Bodies k c ways) (count : ℕ) (in_method : Bool) where
  -- what the expressions may name
  abbrev scope : Scope
  scope = record { code = c; vars = count; in_method = in_method }

  -- the value of a variable
  part_variable : (g : k.Point) (i : ℕ) → Part k g (λ at. Gives (slice_index_or at.environment.vars i value.Null) at)
  part_variable g i = record {
    from = λ h u more environment. Obeys.ends (Gives (slice_index_or u.environment.vars i value.Null) u) (λ rs. refl)
        (record { same = k.same_itself h; value = known_at k.HasText (k.Knows h) u.environment.vars i environment.vars; environment = environment });
  }

  -- the object that a method is called on
  part_this : (g : k.Point) → Part k g (λ at. Gives at.environment.this at)
  part_this g = record { from = λ h u more environment. Obeys.ends (Gives u.environment.this u) (λ rs. refl) (record { same = k.same_itself h; value = environment.this; environment = environment }) }

  mutual
    -- a sound expression
    pub part_expr : {a : Expr} → SoundExpr scope a → (g : k.Point) → Part k g (expr c ways a)
    part_expr (SoundExpr.constant {v = v} literal) g = part_as k g _ _ (expr_Const c ways v) (part_gives k g v (known_literal c.shape k.HasText (k.Knows g) k.literal_text v literal))
    part_expr (SoundExpr.variable {i = i} there) g = part_as k g _ _ (expr_Var c ways i) (part_variable g i)
    part_expr (SoundExpr.this there) g = part_as k g _ _ (expr_This c ways) (part_this g)
    part_expr (SoundExpr.root {r = r} there) g = part_as k g _ _ (expr_Root c ways r) (part_root k g r there bodies.roots)
    part_expr (SoundExpr.field {a = a} {f = f} inner places) g = part_as k g _ _ (expr_Field c ways a f)
        (part_value k g (field_of f) (expr c ways a) (part_expr inner g) (λ x h more known. part_field k h f x places known))
    part_expr (SoundExpr.element {a = a} {b = b} inner index) g = part_as k g _ _ (expr_Elem c ways a b)
        (part_value k g (on_next element_of (expr c ways b)) (expr c ways a) (part_expr inner g)
        (λ x h more known. part_value k h (element_of x) (holding (x ∷ []) (expr c ways b)) (part_holding k h (x ∷ []) (expr c ways b) (part_expr index h)) (λ i j further i_known. part_element k j x i (value_later k h j further.knows x known))))
    part_expr (SoundExpr.call {a = a} {callees = callees} {args = args} inner are rest) g = part_as k g _ _ (expr_Call c ways a callees args)
        (part_value k g _ (expr c ways a) (part_expr inner g)
        (λ x h more known. part_arguments k (call_on c ways callees x) x (map (expr c ways) args) h [] (part_exprs rest h) tt
        (λ vs i further all. part_call k c ways bodies i callees (length args) x vs are (value_later k h i further.knows x known) all)))
    part_expr (SoundExpr.object {c = class} there) g = part_as k g _ _ (expr_NewObject c ways class)
        (part_make k g (Plain class) (length (fields_at c.shape class)) (λ h more. k.class_asked h class more.awake there))
    part_expr (SoundExpr.array {k = kind} {a = a} inner) g = part_as k g _ _ (expr_NewArray c ways kind a)
        (part_value k g (new_array kind) (expr c ways a) (part_expr inner g) (λ v h more known. part_array k h kind v))
    part_expr (SoundExpr.unary {o = o} {a = a} is inner) g = part_as k g _ _ (expr_Unary c ways o a)
        (part_value k g (λ v. result_of (unary o v)) (expr c ways a) (part_expr inner g) (λ v h more known. part_result k h (unary o v) (known_unary k.HasText (k.Knows h) o v)))
    part_expr (SoundExpr.binary {o = o} {a = a} {b = b} is inner other) g = part_as k g _ _ (expr_Binary c ways o a b)
        (part_value k g (second o (expr c ways b)) (expr c ways a) (part_expr inner g) (λ v h more known. part_second k h o (expr c ways b) v (part_expr other h)))

    -- so each of a list
    part_exprs : {all : List Expr} → SoundExprs scope all → (g : k.Point) → Parts k g (map (expr c ways) all)
    part_exprs SoundExprs.none g = tt
    part_exprs (SoundExprs.more one rest) g = (part_expr one g, part_exprs rest g)

-- Calls: the object and its class, the method or the map, the arguments.
use Rattle.std.proofs.Common.{◌≡◌, ◌⊎◌, inl, inr, refl, ℕ, zero, suc, ◌+◌, ◌-◌, ◌<◌, arith, All, eqb, true, List, [], ◌∷◌, ◌++◌, length, Option, None, Some, subst, sym, ap, ◌∙◌}
use Rattle.std.specs.Prelude.{Contains, nat_lt, slice_get, IfSome}
use Rattle.std.proofs.lemmas.List.{length-append}
use Rattle.std.proofs.lemmas.Bool.{eqb-true}
use Rattle.std.proofs.lemmas.Option.{slice_get_within}
use Rattle.dso_base.specs.declared.request.Fault.TheVariants.{NoSuchField, StackOverflow}
use Rattle.dso_base.specs.declared.shape.ClassShape.{ClassShape}
use Rattle.dso_base.specs.declared.shape.Shape.{Shape}
use Rattle.dso_base.specs.declared.value.ClassId.{ClassId}
use Rattle.dso_base.specs.declared.value.ClassId.TheVariants.{Plain, Array, Roots}
use Rattle.dso_base.specs.declared.value.Value.{Value}
use Rattle.dso_base.specs.declared.value.Value.TheVariants as value
use Rattle.dso_base.specs.Shape.{fields_of}
use Rattle.dso_map.specs.declared.map_op.MapOp.{MapOp}
use Rattle.dso_map.specs.declared.map_op.MapOp.TheVariants as op
use Rattle.dso_map.specs.Calls.{map_op}
use Rattle.dso_map.specs.MapClass.{map_size, map_fields, is_map}
use Rattle.dso_machine.specs.declared.code.Code.{Code}
use Rattle.dso_machine.specs.declared.code.Method.{Method}
use Rattle.dso_machine.specs.declared.tree.Expr.{Expr}
use Rattle.dso_machine.specs.declared.tree.Expr.TheVariants as x
use Rattle.dso_machine.specs.declared.tree.Stmt.{Stmt}
use Rattle.dso_machine.specs.Calls.{lookup, run_method, call_method, call_number, call_in, call_on, arguments, MethodMeanings}
use Rattle.dso_machine.specs.Maps.{grade_of}
use Rattle.dso_machine.specs.Outcome.{Fails, Meaning, looking, holding}
use Rattle.dso_machine.specs.Sound.{IsCallee, IsSoundClass, IsMethodLock, IsSoundMethod, IsSoundCode}
use Rattle.dso_machine.proofs.protocol.Maps.{IsMapAt}
use Rattle.dso_machine.proofs.protocol.Threads.{all_of}
use Rattle.dso_lint.specs.declared.answer.Place.{Place}
use Rattle.dso_lint.specs.declared.answer.Place.TheVariants as place
use Rattle.dso_lint.specs.Routines.{Routine, of_method, IsAt}
use Rattle.dso_lint.specs.Sites.{own_sites}
use Rattle.dso_lint.specs.Trees.{Uses}
use Rattle.dso_lint.specs.Clean.{Choice, KeepsRules, is_clean}
use Rattle.dso_lint.specs.Access.{writes}
use Rattle.dso_lint.specs.Upgrades.{Calls, LeadsTo, IsWriter, MayWriteMonitor}
use Rattle.dso_lint.specs.Verdict.{Passes}
use Rattle.dso_lint_law.proofs.parts.Views.{View, Shared, Later, later_itself, later_then}
use Rattle.dso_lint_law.proofs.parts.Parts.{Around, Any, SharedIf, Part, part_later, part_value, part_holding, part_choose, part_fails, part_object}
use Rattle.dso_lint_law.proofs.parts.Accesses.{part_looking}
use Rattle.dso_lint_law.proofs.parts.Maps.{part_call_map}
use Rattle.dso_lint_law.proofs.bodies.Rules.{Names, all_found, contains_found}
use Rattle.dso_lint_law.proofs.bodies.Methods.{body_of_method, in_body, MethodMonitors, MethodNames, part_run}

-- ---- soundness

-- a class with as many fields as a map is that of maps
map_class : (shape : Shape) (class : Option ClassShape) → IfSome class (IsSoundClass shape) → eqb (length (fields_of class)) map_size ≡ true → fields_of class ≡ map_fields
map_class shape None fine is = absurd (cc is)
map_class shape (Some class) fine is = fine.as_map (eqb-true (length class.fields) map_size is)

class_sound : (code : Code) → IsSoundCode code → (class : Option ClassShape) (number : ℕ) → slice_get code.shape.classes number ≡ class → IfSome class (IsSoundClass code.shape)
class_sound code sound None number is = tt
class_sound code sound (Some class) number is = all_of (IsSoundClass code.shape) code.shape.classes number class is sound.classes

pub maps_there : (code : Code) → IsSoundCode code → (class : ℕ) → is_map code.shape class ≡ true → IsMapAt code.shape class
maps_there code sound class is = map_class code.shape (slice_get code.shape.classes class) (class_sound code sound (slice_get code.shape.classes class) class refl) is

-- a call that takes the map's monitor at Write is of one of two places
writing_place : (place : ℕ) (args : List Value) (call : MapOp) → map_op place args ≡ Some call → writes (grade_of call) ≡ true → (place ≡ 3) ⊎ (place ≡ 4)
writing_place (suc (suc (suc zero))) (value.Long k ∷ value.Ref (suc o) ∷ []) call is w = inl refl
writing_place (suc (suc (suc (suc zero)))) (value.Long k ∷ []) call is w = inr refl
writing_place zero (value.Long k ∷ []) call is w =
    let same : op.Get k ≡ call = cc is in
    absurd (cc (ap (λ c. writes (grade_of c)) same ∙ w))
writing_place (suc zero) (value.Long k ∷ []) call is w =
    let same : op.Has k ≡ call = cc is in
    absurd (cc (ap (λ c. writes (grade_of c)) same ∙ w))
writing_place (suc (suc zero)) [] call is w =
    let same : op.Size ≡ call = cc is in
    absurd (cc (ap (λ c. writes (grade_of c)) same ∙ w))
writing_place place args call is w = absurd (cc is)

-- What is known of all methods: their bodies are safe, whatever object they are called on.
pub record Bodies (code : Code) (choice : Choice) (rules : KeepsRules code choice) (passes : (at : Place) → Passes code choice at) (ways : MethodMeanings) : Type 0 where
  pub body : (m : ℕ) (method : Method) (found : slice_get code.methods m ≡ Some method) (o : ℕ) (g : View) → Part code.shape (in_body code choice rules passes m method found (own_sites (body_of_method method)) o) Any g (ways m)

module _ (code : Code) (sound : IsSoundCode code) (choice : Choice) (rules : KeepsRules code choice) (passes : (at : Place) → Passes code choice at) (ways : MethodMeanings) (bodies : Bodies code choice rules passes ways) where
  -- A call in a body, and what is around it: something may be published, and what the methods may want, may be wanted here.
  module _ (at : Place) (body : Routine) (is_at : IsAt code at body) (block : List Stmt) (c : Around) (loud : c.quiet → ⊥) (a : Expr) (callees : List (ℕ × ℕ)) (args : List Expr)
      (uses : Uses body.statements (x.Call a callees args)) (uses_here : Uses block (x.Call a callees args)) (monitors : MayWriteMonitor code block → c.monitors) (names : (n : ℕ) → Names code choice at body n → c.names n) where
    -- the call may reach the method
    calls_in : (statements : List Stmt) (class m : ℕ) → Uses statements (x.Call a callees args) → Contains callees (class, m) → Calls statements m
    calls_in statements class m used may = record { receiver = a; callees = callees; args = args; class = class; uses = used; may = may }

    -- so what it may want, may be wanted here
    method_monitors : (class m : ℕ) (method : Method) (found : slice_get code.methods m ≡ Some method) → Contains callees (class, m) → MethodMonitors code choice rules passes m method found → c.monitors
    method_monitors class m method found may (inl writer) = monitors (inr (m, LeadsTo.calls (calls_in block class m uses_here may), writer))
    method_monitors class m method found may (inr (inl site)) = monitors (inr (m, LeadsTo.calls (calls_in block class m uses_here may), inr (inr (body_of_method method, ap of_method found, inl site))))
    method_monitors class m method found may (inr (inr (k, leads, writer))) = monitors (inr (k, LeadsTo.onward m (calls_in block class m uses_here may) (ap of_method found) leads, writer))

    method_names : (class m : ℕ) (method : Method) (found : slice_get code.methods m ≡ Some method) → Contains callees (class, m) → (n : ℕ) → MethodNames code choice rules passes m method found n → c.names n
    method_names class m method found may n (inl below) = names n (inl below)
    method_names class m method found may n (inr (inl takes)) = names n (inr (m, body_of_method method, LeadsTo.calls (calls_in body.statements class m uses may), ap of_method found, takes))
    method_names class m method found may n (inr (inr (k, other, leads, there, takes))) = names n (inr (k, other, LeadsTo.onward m (calls_in body.statements class m uses may) (ap of_method found) leads, there, takes))

    method_lock : (m : ℕ) (method : Method) → slice_get code.methods m ≡ Some method → IfSome method.named (IsMethodLock code.shape)
    method_lock m method found =
        let fine : IsSoundMethod code method = all_of (IsSoundMethod code) code.methods m method found sound.methods in
        fine.lock

    -- a method that was found, or a map's
    part_method : (g : View) (m object class : ℕ) (vs : List Value) (method : Option Method) → slice_get code.methods m ≡ method → IsCallee code (length vs) (class, m) → Contains callees (class, m)
        → SharedIf (is_clean (choice at) a) g (value.Ref object) → g.class object ≡ Some (Plain class) → Part code.shape c Any g (call_method code ways m object vs method)
    part_method g m object class vs None is (inl of_code) may said seen = absurd (cc (sym is ∙ of_code.there))
    part_method g m object class vs None is (inr of_map) may said seen = record {
      from = (part_call_map code.shape c loud g class object (m - length code.methods) vs (map_op (m - length code.methods) vs) refl (maps_there code sound class of_map.class) seen writer).from;
    }
      where
        number : m ≡ length code.methods + (m - length code.methods)
        number =
            let is : m ≡ length code.methods + of_map.place = of_map.number in
            omega (arith, is)

        which : (m - length code.methods ≡ 3) ⊎ (m - length code.methods ≡ 4) → IsWriter code m
        which (inl is) = inl (number ∙ ap (λ n. length code.methods + n) is)
        which (inr is) = inr (inl (number ∙ ap (λ n. length code.methods + n) is))

        writer : (it : MapOp) → map_op (m - length code.methods) vs ≡ Some it → writes (grade_of it) ≡ true → c.monitors
        writer it is w = monitors (inr (m, LeadsTo.calls (calls_in block class m uses_here may), which (writing_place (m - length code.methods) vs it is w)))
    part_method g m object class vs (Some method) is (inr of_map) may said seen = absurd (none_behind (length code.methods) of_map.place m method of_map.number is)
      where
        none_behind : (n place m : ℕ) (method : Method) → m ≡ length code.methods + place → slice_get code.methods m ≡ Some method → ⊥
        none_behind n place m method is there =
            let within : m < length code.methods = slice_get_within code.methods m method there in
            absurd (omega (arith, within, is))
    part_method g m object class vs (Some method) is (inl of_code) may said seen = record {
      from = λ h u later stands. (part_choose code.shape c Any g (nat_lt 0 u.environment.depth_left) (run_method ways m method object vs) (Fails StackOverflow)
          (λ may_nest. part_run code choice rules passes m method is c loud (method_monitors class m method is may) (method_names class m method is may) ways g object vs (method_lock m method is) params receiver
          (λ i. bodies.body m method is object i)) (part_fails code.shape c Any g StackOverflow)).from h u later stands;
    }
      where
        same : of_code.method ≡ method
        same = cc (sym of_code.there ∙ is)

        params : method.params ≡ length vs
        params = ap (λ (x : Method). x.params) (sym same) ∙ of_code.params

        receiver : (choice (place.Method (suc m))).this ≡ true → Shared g (value.Ref object)
        receiver clean = said (rules.receivers at body (body_of_method method) a callees args class m is_at uses may (ap of_method is) clean)

    -- the method of this number
    part_number : (g : View) (object class : ℕ) (vs : List Value) (number : Option ℕ) → ((m : ℕ) → number ≡ Some m → IsCallee code (length vs) (class, m) × Contains callees (class, m))
        → SharedIf (is_clean (choice at) a) g (value.Ref object) → g.class object ≡ Some (Plain class) → Part code.shape c Any g (call_number code ways object vs number)
    part_number g object class vs None its said seen = part_fails code.shape c Any g NoSuchField
    part_number g object class vs (Some m) its said seen = part_method g m object class vs (slice_get code.methods m) refl (its m refl).0 (its m refl).1 said seen

    -- a call on an object of this class
    part_call_in : (g : View) (object : ℕ) (vs : List Value) (class : ClassId) (size : ℕ) → All (IsCallee code (length vs)) callees → SharedIf (is_clean (choice at) a) g (value.Ref object) → g.class object ≡ Some class
        → Part code.shape c Any g (call_in code ways callees vs object class size)
    part_call_in g object vs (Plain class) size are said seen = part_number g object class vs (lookup callees class)
        (λ m found. (all_found (IsCallee code (length vs)) callees class m are found, contains_found callees class m found)) said seen
    part_call_in g object vs (Array kind) size are said seen = part_fails code.shape c Any g NoSuchField
    part_call_in g object vs Roots size are said seen = part_fails code.shape c Any g NoSuchField

    -- a call with its operands
    pub part_call : (g : View) (v : Value) (vs : List Value) → All (IsCallee code (length vs)) callees → SharedIf (is_clean (choice at) a) g v → Part code.shape c Any g (call_on code ways callees v vs)
    part_call g v vs are said = part_object code.shape c Any g (λ object. looking vs (call_in code ways callees vs object) object) v
        (λ object is. part_looking code.shape c Any g vs (call_in code ways callees vs object) object
        (λ h later class size seen. part_call_in h object vs class size are (λ clean. later.shared object (subst (Shared g) is (said clean))) seen))

-- ---- arguments

module _ (shape : Shape) (c : Around) where
  -- each of the parts is safe
  abbrev pub AreSafe : View → List Meaning → Type 0
  AreSafe g [] = Unit {0}
  AreSafe g (m ∷ ms) = Part shape c Any g m × AreSafe g ms

  safe_later : (g h : View) (ms : List Meaning) → Later c.quiet g h → AreSafe g ms → AreSafe h ms
  safe_later g h [] later safe = tt
  safe_later g h (m ∷ ms) later safe = (part_later shape c Any g h m later safe.0, safe_later g h ms later safe.1)

  -- the arguments, and then what is made of their values
  pub part_arguments : (f : List Value → Meaning) (x : Value) (ms : List Meaning) (g : View) (before : List Value) → AreSafe g ms
      → ((vs : List Value) (h : View) → Later c.quiet g h → length vs ≡ length before + length ms → Part shape c Any h (f vs)) → Part shape c Any g (arguments f x ms before)
  part_arguments f x [] g before safe then = record { from = λ h u later stands. (then before h later (omega arith)).from h u (later_itself c.quiet h) stands }
  part_arguments f x (m ∷ rest) g before safe then = part_value shape c Any Any g (λ v. arguments f x rest (before ++ v ∷ [])) (holding (x ∷ before) m) (part_holding shape c Any g (x ∷ before) m safe.0)
      (λ v h later said. part_arguments f x rest h (before ++ v ∷ []) (safe_later g h rest later safe.1)
      (λ vs i further count. then vs i (later_then c.quiet g h i later further) (counted v vs count)))
    where
      counted : (v : Value) (vs : List Value) → length vs ≡ length (before ++ v ∷ []) + length rest → length vs ≡ length before + suc (length rest)
      counted v vs count =
          let longer : length (before ++ v ∷ []) ≡ length before + 1 = length-append before (v ∷ []) in
          omega (arith, count, longer)

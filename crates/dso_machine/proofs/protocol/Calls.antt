-- Calls keep to what may be asked.
use Rattle.std.proofs.Common.{◌≡◌, refl, sym, subst, ◌∙◌, inl, inr, ℕ, zero, suc, ◌-◌, ◌≤◌, All, eqb, cond, Bool, true, false, List, [], ◌∷◌, ◌++◌, length, Option, None, Some}
use Rattle.std.specs.Prelude.{nat_lt, replicate, slice_get, IfSome}
use Rattle.std.proofs.lemmas.Bool.{eqb-true}
use Rattle.std.proofs.lemmas.List.Elements.{All-head, All-tail}
use Rattle.dso_base.specs.declared.lock.Grade.{Grade}
use Rattle.dso_base.specs.declared.lock.LockName.TheVariants.{Mon, Name}
use Rattle.dso_base.specs.declared.request.Fault.TheVariants.{NoSuchField, StackOverflow}
use Rattle.dso_base.specs.declared.shape.Shape.{Shape}
use Rattle.dso_base.specs.declared.value.ClassId.{ClassId}
use Rattle.dso_base.specs.declared.value.ClassId.TheVariants.{Plain, Array, Roots}
use Rattle.dso_base.specs.declared.value.Value.{Value}
use Rattle.dso_base.specs.declared.value.Value.TheVariants as value
use Rattle.dso_map.specs.Calls.{map_op}
use Rattle.dso_map.specs.MapClass.{is_map}
use Rattle.dso_machine.specs.declared.code.Code.{Code}
use Rattle.dso_machine.specs.declared.code.Method.{Method}
use Rattle.dso_machine.specs.Calls.{lookup, variables, back_in, callee, in_callee, under_name, under_monitor, run_method, call_method, call_number, call_in, call_on, arguments, MethodMeanings}
use Rattle.dso_machine.specs.Sound.{IsCallee, AreCallees, IsMethodLock}
use Rattle.dso_machine.specs.Outcome.{Environment, Outcome, Wants, Gives, Leaves, Fails, Hears, Over, Stopped, Meaning, looking, holding}
use Rattle.dso_machine.proofs.protocol.Protocol.{KnowsValue, Keeper}
use Rattle.dso_machine.proofs.protocol.Parts.{refilled, Obeys, keeps_on, KnowsAll, KnowsEnvironment, Fine, More, Part, all_later, environment_later, more_then, more_itself, part_later, part_fails, part_value, part_holding, part_choose}
use Rattle.dso_machine.proofs.protocol.Requests.{part_looking, part_object, part_moving}
use Rattle.dso_machine.proofs.protocol.Locks.{part_under_with}
use Rattle.dso_machine.proofs.protocol.Maps.{IsMapAt, part_call_map}

-- ---- lists of values

-- so many nulls are known
known_nulls : (has_text knows : ℕ → Type 0) (n : ℕ) → KnowsAll has_text knows (replicate n value.Null)
known_nulls has_text knows zero = tt
known_nulls has_text knows (suc n) = (tt, known_nulls has_text knows n)

-- values that are known, and others behind them
pub known_append : (has_text knows : ℕ → Type 0) (vs ws : List Value) → KnowsAll has_text knows vs → KnowsAll has_text knows ws → KnowsAll has_text knows (vs ++ ws)
known_append has_text knows [] ws known rest = rest
known_append has_text knows (v ∷ vs) ws known rest = (known.0, known_append has_text knows vs ws known.1 rest)

-- the variables of an environment that begins with values that are known
pub known_variables : (has_text knows : ℕ → Type 0) (count : ℕ) (vs : List Value) → KnowsAll has_text knows vs → KnowsAll has_text knows (variables count vs)
known_variables has_text knows count vs known = known_append has_text knows vs (replicate (count - length vs) value.Null) known (known_nulls has_text knows (count - length vs))

-- ---- calls

-- the number that a list of callees has for a class is that of one of them
callee_of : (code : Code) (count class first number : ℕ) (others : Option ℕ) (b : Bool) (m : ℕ) → eqb first class ≡ b → IsCallee code count (first, number)
    → (others ≡ Some m → IsCallee code count (class, m)) → cond b (Some number) others ≡ Some m → IsCallee code count (class, m)
callee_of code count class first number others true m is here rest found =
    let same : number ≡ m = cc found in
    subst (λ c. IsCallee code count (c, m)) (eqb-true first class is) (subst (λ n. IsCallee code count (first, n)) same here)
callee_of code count class first number others false m is here rest found = rest found

callee_there : (code : Code) (count : ℕ) (callees : List (ℕ × ℕ)) (class : ℕ) → All (IsCallee code count) callees → (m : ℕ) → lookup callees class ≡ Some m → IsCallee code count (class, m)
callee_there code count [] class are m found = absurd (cc found)
callee_there code count (callee ∷ callees) class are m found = callee_of code count class callee.0 callee.1 (lookup callees class) (eqb callee.0 class) m refl
    (All-head (IsCallee code count) callee callees are) (callee_there code count callees class (All-tail (IsCallee code count) callee callees are) m) found

module _ {shape : Shape} (k : Keeper shape) where
  -- the methods' bodies keep to what may be asked, from every point; their named locks are there, and those of the roots; a class
  -- of as many fields as a map is that of maps
  pub record Bodies (code : Code) (ways : MethodMeanings) : Type 0 where
    pub body : (m : ℕ) (g : k.Point) → Part k g (ways m)
    pub locks : (m : ℕ) (method : Method) → slice_get code.methods m ≡ Some method → IfSome method.named (IsMethodLock shape)
    pub roots : shape.roots ≤ shape.names
    pub maps : (class : ℕ) → is_map code.shape class ≡ true → (is_map shape class ≡ true) × IsMapAt shape class

module _ {shape : Shape} (k : Keeper shape) where
  -- at the end of a body the environment of the caller is the thread's again
  back_at_end : (g : k.Point) (caller : Environment) → KnowsEnvironment k g caller → (e : Outcome) (h : k.Point) → Fine k g e h → Obeys k (Fine k g) h (λ rs. back_in caller (refilled rs e))
  back_at_end g caller environment (Gives v u) h fine = Obeys.ends (Gives value.Null (record u { environment = caller })) (λ rs. refl)
      (record { same = fine.same; value = tt; environment = environment_later k g h (k.same_knows g h fine.same) caller environment })
  back_at_end g caller environment (Leaves v u) h fine = Obeys.ends (Gives v (record u { environment = caller })) (λ rs. refl)
      (record { same = fine.same; value = fine.value; environment = environment_later k g h (k.same_knows g h fine.same) caller environment })
  back_at_end g caller environment (Fails fault u) h fine = Obeys.ends (Fails fault (record u { environment = caller })) (λ rs. refl) fine
  back_at_end g caller environment Stopped h fine = Obeys.ends Stopped (λ rs. refl) tt
  back_at_end g caller environment (Wants q env) h fine = absurd fine
  back_at_end g caller environment (Hears r u) h fine = absurd fine
  back_at_end g caller environment Over h fine = absurd fine

  module _ (code : Code) (ways : MethodMeanings) (bodies : Bodies k code ways) where
    -- a part in the environment of a method
    part_callee : (g : k.Point) (this : Value) (vars : List Value) (m : Meaning) → KnowsValue k.HasText (k.Knows g) this → KnowsAll k.HasText (k.Knows g) vars → Part k g m → Part k g (in_callee this vars m)
    part_callee g this vars m this_known vars_known part = record {
      from = λ h u more environment. keeps_on k (Fine k h) (Fine k h) (back_in u.environment) (λ q env. refl)
          (part.from h (record u { environment = callee this vars u.environment }) more
          (environment_later k g h more.knows (callee this vars u.environment) (record { this = this_known; vars = vars_known })))
          (back_at_end h u.environment environment);
    }

    -- a part under a method's named lock, if it has one,
    part_under_name : (g : k.Point) (named : Option (ℕ × Grade)) (m : Meaning) → IfSome named (IsMethodLock shape) → Part k g m → Part k g (under_name named m)
    part_under_name g None m is part = part
    part_under_name g (Some lock) m is part = part_under_with k g [] (Name lock.0) lock.1 m tt is.there part

    -- and under its object's monitor, if it takes it
    part_under_monitor : (g : k.Point) (synced : Option Grade) (object : ℕ) (m : Meaning) → k.Knows g object → Part k g m → Part k g (under_monitor synced object m)
    part_under_monitor g None object m known part = part
    part_under_monitor g (Some grade) object m known part = part_under_with k g [] (Mon object) grade m known tt part

    -- a method of an object
    part_run : (g : k.Point) (m : ℕ) (method : Method) (object : ℕ) (args : List Value) → IfSome method.named (IsMethodLock shape) → k.Knows g object → KnowsAll k.HasText (k.Knows g) args → Part k g (run_method ways m method object args)
    part_run g m method object args lock known args_known = part_callee g (value.Ref object) (variables method.vars args) _ known (known_variables k.HasText (k.Knows g) method.vars args args_known)
        (part_under_name g method.named _ lock (part_under_monitor g method.synced object _ known (part_moving k g (ways m) (bodies.body m g))))

    -- a method that was found, if one more call may nest
    part_method : (g : k.Point) (m object class size count : ℕ) (args : List Value) (method : Option Method) → slice_get code.methods m ≡ method → IsCallee code count (class, m)
        → k.Knows g object → KnowsAll k.HasText (k.Knows g) args → k.Looked g object (Plain class) size → Part k g (call_method code ways m object args method)
    part_method g m object class size count args None is (inl of_code) known args_known looked = absurd (cc (sym is ∙ of_code.there))
    part_method g m object class size count args None is (inr of_map) known args_known looked = record {
      from = (part_call_map k g object class size (m - length code.methods) args (map_op (m - length code.methods) args) refl (bodies.maps class of_map.class).0 (bodies.maps class of_map.class).1 known args_known looked).from;
    }
    part_method g m object class size count args (Some method) is its known args_known looked = record {
      from = λ h u more environment. (part_choose k g (nat_lt 0 u.environment.depth_left) (run_method ways m method object args) (Fails StackOverflow)
          (λ may_nest. part_run g m method object args (bodies.locks m method is) known args_known) (part_fails k g StackOverflow)).from h u more environment;
    }

    -- the method of this number
    part_number : (g : k.Point) (object class size count : ℕ) (args : List Value) (number : Option ℕ) → ((m : ℕ) → number ≡ Some m → IsCallee code count (class, m)) → k.Knows g object
        → KnowsAll k.HasText (k.Knows g) args → k.Looked g object (Plain class) size → Part k g (call_number code ways object args number)
    part_number g object class size count args None its known args_known looked = part_fails k g NoSuchField
    part_number g object class size count args (Some m) its known args_known looked =
        part_method g m object class size count args (slice_get code.methods m) refl (its m refl) known args_known looked

    -- a call on an object of this class
    part_call_in : (g : k.Point) (callees : List (ℕ × ℕ)) (count object : ℕ) (args : List Value) (class : ClassId) (size : ℕ) → All (IsCallee code count) callees → k.Knows g object
        → KnowsAll k.HasText (k.Knows g) args → k.Looked g object class size → Part k g (call_in code ways callees args object class size)
    part_call_in g callees count object args (Plain class) size are known args_known looked =
        part_number g object class size count args (lookup callees class) (callee_there code count callees class are) known args_known looked
    part_call_in g callees count object args (Array kind) size are known args_known looked = part_fails k g NoSuchField
    part_call_in g callees count object args Roots size are known args_known looked = part_fails k g NoSuchField

    -- a call with its operands
    pub part_call : (g : k.Point) (callees : List (ℕ × ℕ)) (count : ℕ) (x : Value) (args : List Value) → AreCallees code count callees → KnowsValue k.HasText (k.Knows g) x
        → KnowsAll k.HasText (k.Knows g) args → Part k g (call_on code ways callees x args)
    part_call g callees count x args are known args_known = part_object k g (λ object. looking args (call_in code ways callees args object) object) x known
        (λ object object_known. part_looking k g args (call_in code ways callees args object) object object_known
        (λ h more class size looked. part_call_in h callees count object args class size are.there (more.knows object object_known) (all_later k g h more.knows args args_known) looked))

  -- ---- arguments

  -- each of the parts keeps to what may be asked
  abbrev pub Parts : k.Point → List Meaning → Type 0
  Parts g [] = Unit {0}
  Parts g (m ∷ ms) = Part k g m × Parts g ms

  -- so from a later point
  parts_later : (g h : k.Point) (ms : List Meaning) → More k g h → Parts g ms → Parts h ms
  parts_later g h [] more parts = tt
  parts_later g h (m ∷ ms) more parts = (part_later k g h m more parts.0, parts_later g h ms more parts.1)

  -- the arguments, and then what is made of their values
  pub part_arguments : (f : List Value → Meaning) (x : Value) (ms : List Meaning) (g : k.Point) (before : List Value) → Parts g ms → KnowsAll k.HasText (k.Knows g) before
      → ((vs : List Value) (h : k.Point) → More k g h → KnowsAll k.HasText (k.Knows h) vs → Part k h (f vs)) → Part k g (arguments f x ms before)
  part_arguments f x [] g before parts known then = record { from = λ h u more environment. (then before h more (all_later k g h more.knows before known)).from h u (more_itself k h more.awake) environment }
  part_arguments f x (m ∷ rest) g before parts known then = part_value k g (λ v. arguments f x rest (before ++ v ∷ [])) (holding (x ∷ before) m) (part_holding k g (x ∷ before) m parts.0)
      (λ v h more v_known. part_arguments f x rest h (before ++ v ∷ []) (parts_later g h rest more parts.1)
      (known_append k.HasText (k.Knows h) before (v ∷ []) (all_later k g h more.knows before known) (v_known, tt))
      (λ vs i further all. then vs i (more_then k g h i more further) all))

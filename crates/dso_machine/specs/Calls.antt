-- What a call means: the object and the arguments, the method, its locks, the environment of its body.
use Rattle.std.specs.Prelude.{ℕ, ◌-◌, cond, eqb, nat_lt, List, [], ◌∷◌, ◌++◌, length, replicate, slice_get, Option}
use Rattle.std.specs.Prelude.{None, Some}
use Rattle.dso_base.specs.declared.lock.Grade.{Grade}
use Rattle.dso_base.specs.declared.lock.LockName.TheVariants.{Mon, Name}
use Rattle.dso_base.specs.declared.request.Fault.TheVariants.{NoSuchField, StackOverflow}
use Rattle.dso_base.specs.declared.value.ClassId.{ClassId}
use Rattle.dso_base.specs.declared.value.ClassId.TheVariants.{Plain, Array, Roots}
use Rattle.dso_base.specs.declared.value.Value.{Value}
use Rattle.dso_base.specs.declared.value.Value.TheVariants as value
use Rattle.dso_map.specs.Calls.{map_op}
use Rattle.dso_machine.specs.declared.code.Code.{Code}
use Rattle.dso_machine.specs.declared.code.Method.{Method}
use Rattle.dso_machine.specs.Maps.{call_map}
use Rattle.dso_machine.specs.Outcome.{Environment, Outcome, Gives, Leaves, Fails, Meaning, choose, on_value, holding}
use Rattle.dso_machine.specs.Outcome.{looking, on_object, moving, under}

-- the number that the list has for the class, the first one
abbrev pub lookup : List (ℕ × ℕ) → ℕ → Option ℕ
lookup [] class = None
lookup (place ∷ places) class = cond (eqb place.0 class) (Some place.1) (lookup places class)

-- the number that the list has for the class of an object; arrays and object 0 have none
abbrev pub lookup_class : List (ℕ × ℕ) → ClassId → Option ℕ
lookup_class places (Plain class) = lookup places class
lookup_class places (Array kind) = None
lookup_class places Roots = None

-- so many variables: these values, and then nulls
abbrev pub variables : ℕ → List Value → List Value
variables count values = values ++ replicate (count - length values) value.Null

-- what the methods' bodies mean, by their numbers
abbrev pub MethodMeanings : Type 0
MethodMeanings = ℕ → Meaning

-- The environment of the caller is the thread's again, however the body ends. One that did not return gives null.
abbrev pub back_in : Environment → Outcome → Outcome
back_in caller (Gives v at) = Gives value.Null (record at { environment = caller })
back_in caller (Leaves v at) = Gives v (record at { environment = caller })
back_in caller (Fails fault at) = Fails fault (record at { environment = caller })
back_in caller o = o

-- what a body holds for what comes after a call in it
abbrev pub held_by : Environment → List Value
held_by caller = caller.this ∷ caller.vars ++ caller.outer

-- the environment of a method, in which one call less may nest than in its caller's, which is held
abbrev pub callee : Value → List Value → Environment → Environment
callee this vars caller = record {
  this = this;
  vars = vars;
  depth_left = caller.depth_left - 1;
  outer = held_by caller;
}

-- a part in the environment of a method that is called on this object, with these variables
abbrev pub in_callee : Value → List Value → Meaning → Meaning
in_callee this vars m at = back_in at.environment (m (record at { environment = callee this vars at.environment }))

-- a part under a method's named lock, if it has one
abbrev pub under_name : Option (ℕ × Grade) → Meaning → Meaning
under_name None m = m
under_name (Some lock) m = under (Name lock.0) lock.1 m

-- a part under the object's monitor, if the method takes it
abbrev pub under_monitor : Option Grade → ℕ → Meaning → Meaning
under_monitor None object m = m
under_monitor (Some grade) object m = under (Mon object) grade m

-- A method of an object: its locks, the named one first, and then its body, begun as a move. Its environment is there
-- before the first lock is entered, and until the last one is left.
abbrev pub run_method : MethodMeanings → ℕ → Method → ℕ → List Value → Meaning
run_method bodies m method object args = in_callee (value.Ref object) (variables method.vars args)
    (under_name method.named (under_monitor method.synced object (moving (bodies m))))

-- A method that was found, if one more call may nest. The numbers behind those of the code are those of the map's
-- methods.
abbrev pub call_method : Code → MethodMeanings → ℕ → ℕ → List Value → Option Method → Meaning
call_method code bodies m object args None at = call_map object args (map_op (m - length code.methods) args) at
call_method code bodies m object args (Some method) at =
    choose (nat_lt 0 at.environment.depth_left) (run_method bodies m method object args) (Fails StackOverflow) at

-- the method of the object's class
abbrev pub call_number : Code → MethodMeanings → ℕ → List Value → Option ℕ → Meaning
call_number code bodies object args None at = Fails NoSuchField at
call_number code bodies object args (Some m) at = call_method code bodies m object args (slice_get code.methods m) at

-- a call on an object of this class
abbrev pub call_in : Code → MethodMeanings → List (ℕ × ℕ) → List Value → ℕ → ClassId → ℕ → Meaning
call_in code bodies callees args object class size = call_number code bodies object args (lookup_class callees class)

-- a call with its operands
abbrev pub call_on : Code → MethodMeanings → List (ℕ × ℕ) → Value → List Value → Meaning
call_on code bodies callees x args =
    on_object (λ object. looking args (call_in code bodies callees args object) object) x

-- the arguments of a call on this value that are left, from the left, behind those before them
abbrev pub arguments : (List Value → Meaning) → Value → List Meaning → List Value → Meaning
arguments f x [] before at = f before at
arguments f x (m ∷ rest) before at =
    on_value (λ v. arguments f x rest (before ++ v ∷ [])) (holding (x ∷ before) m at)

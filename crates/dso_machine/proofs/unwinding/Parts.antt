-- Tidy parts: requests, moves, locks, calls, fields and elements, what is written.
use Rattle.std.proofs.Common.{◌≡◌, refl, ℕ, zero, suc, ◌+◌, ◌-◌, Bool, true, false, List, [], ◌∷◌, length, Option, None, Some}
use Rattle.std.specs.Prelude.{ℤ, pos, negsuc, nat_lt, nat_le, slice_get, Result, Ok, Err}
use Rattle.dso_base.specs.declared.lock.Grade.{Grade}
use Rattle.dso_base.specs.declared.lock.Grade.TheVariants as grade
use Rattle.dso_base.specs.declared.lock.LockName.{LockName}
use Rattle.dso_base.specs.declared.lock.LockName.TheVariants.{Mon, Name}
use Rattle.dso_base.specs.declared.op.Op.{Op}
use Rattle.dso_base.specs.declared.op.Op.TheVariants as op
use Rattle.dso_base.specs.declared.request.Fault.{Fault}
use Rattle.dso_base.specs.declared.request.Fault.TheVariants.{NullPointer, NoSuchField, BadValue, BadIndex, BadSize, StackOverflow}
use Rattle.dso_base.specs.declared.request.Reply.{Reply}
use Rattle.dso_base.specs.declared.request.Reply.TheVariants.{Done, Made, Seen, Val, Local, Refused}
use Rattle.dso_base.specs.declared.request.Request.{Request}
use Rattle.dso_base.specs.declared.request.Request.TheVariants as request
use Rattle.dso_base.specs.declared.shape.Shape.{Shape}
use Rattle.dso_base.specs.declared.value.ClassId.{ClassId}
use Rattle.dso_base.specs.declared.value.ClassId.TheVariants.{Plain, Array, Roots}
use Rattle.dso_base.specs.declared.value.Kind.{Kind}
use Rattle.dso_base.specs.declared.value.Kind.TheVariants as kind
use Rattle.dso_base.specs.declared.value.Value.{Value}
use Rattle.dso_base.specs.declared.value.Value.TheVariants as value
use Rattle.dso_base.specs.Shape.{kind_of}
use Rattle.dso_map.specs.declared.map_op.MapOp.{MapOp}
use Rattle.dso_map.specs.Calls.{map_op}
use Rattle.dso_map.specs.Fields.{MapField, place_of, field_takes}
use Rattle.dso_map.specs.Talk.{Talk, talk}
use Rattle.dso_map.specs.Talk.Talk.{Gets, Puts, Ends}
use Rattle.dso_machine.specs.declared.code.Code.{Code}
use Rattle.dso_machine.specs.declared.code.Method.{Method}
use Rattle.dso_machine.specs.declared.tree.FieldRef.{FieldRef}
use Rattle.dso_machine.specs.Calls.{lookup, lookup_class, callee, in_callee, under_name, under_monitor, run_method, call_method, call_number, call_in, call_on, variables, MethodMeanings}
use Rattle.dso_machine.specs.Expressions.{field_at, field_in, field_of, within, element_at, element_in, element_of, root, make, new_array, a_boolean, second}
use Rattle.dso_machine.specs.Limits.{most_elements, most_moves}
use Rattle.dso_machine.specs.Maps.{told, told_value, told_reply, grade_of, call_map}
use Rattle.dso_machine.specs.Outcome.{State, Gives, Fails, Meaning, choose, on_value, on_reply, result_of, asking, unwanted, done, made, got, seen, telling, tell, getting, get, put, looking, look, on_object, moved, paced, moving, holding, monitor_of, entered, under, under_with}
use Rattle.dso_machine.specs.Statements.{assign, put_fitting, put_field_at, put_field_in, put_field, put_element_at, put_element_in, put_element, bind_null, bind, put_root, sync, unless_woken, ticks, ticking, waiting, wait, on_count, timed_wait, branch, turn, spun}
use Rattle.dso_machine.specs.Unwinding.{with_replies}
use Rattle.dso_machine.specs.Values.{binary, takes}
use Rattle.dso_machine.proofs.unwinding.Tidy.{is_simple, Failing, Waits, ticked, Tidy, IsTidy, tidy_gives, tidy_fails, tidy_stopped, tidy_after, tidy_holding, tidy_back, tidy_leave}

-- one of two parts
tidy_choice : (b : Bool) (m k : Meaning) → IsTidy m → IsTidy k → IsTidy (choose b m k)
tidy_choice true m k s t = record { from = λ u. s.from u }
tidy_choice false m k s t = record { from = λ u. t.from u }

-- a value, or the fault in its place
pub tidy_result : (r : Result Value Fault) → IsTidy (result_of r)
tidy_result (Ok v) = tidy_gives v
tidy_result (Err fault) = tidy_fails fault

-- ---- requests

-- the state after a request
abbrev after_request : State → State
after_request u = record u { moves = 0 }

-- a refusal is its fault at once
at_once : (fault : Fault) (u : State) → Failing fault [] (λ rs. Fails fault (with_replies rs (after_request u)))
at_once fault u = record { context = []; held = refl; at = after_request u; comes = λ rs. refl }

-- a simple request, and what is done with its reply, where a refusal is its fault
pub tidy_request : (vs : List Value) (f : Reply → Meaning) (q : Request) → is_simple q ≡ true → ((fault : Fault) (at : State) → f (Refused fault) at ≡ Fails fault at) → ((r : Reply) → IsTidy (f r))
    → IsTidy (λ at. on_reply f (asking vs q at))
tidy_request vs f q simple refuses then = record {
  from = λ u. Tidy.asks q refl simple
      (λ fault. record { context = []; held = refl; at = after_request u; comes = λ rs. refuses fault (with_replies rs (after_request u)) })
      (λ r. (then r).from (after_request u));
}

-- a reply that is not wanted
pub tidy_unwanted : (r : Reply) → IsTidy (unwanted r)
tidy_unwanted (Refused fault) = tidy_fails fault
tidy_unwanted r = tidy_fails BadValue

-- the reply Done
pub tidy_done : (r : Reply) → IsTidy (done r)
tidy_done Done = tidy_gives value.Null
tidy_done r = tidy_unwanted r

-- the object that was made
pub tidy_made : (r : Reply) → IsTidy (made r)
tidy_made (Made object) = tidy_gives (value.Ref object)
tidy_made r = tidy_unwanted r

-- the value that was read
pub tidy_got : (r : Reply) → IsTidy (got r)
tidy_got (Val v) = tidy_gives v
tidy_got r = tidy_unwanted r

-- the class and the size that were seen
pub tidy_seen : (f : ClassId → ℕ → Meaning) → ((class : ClassId) (size : ℕ) → IsTidy (f class size)) → (r : Reply) → IsTidy (seen f r)
tidy_seen f g (Seen class size) = g class size
tidy_seen f g r = tidy_unwanted r

-- a simple request that is answered Done
pub tidy_telling : (vs : List Value) (q : Request) → is_simple q ≡ true → IsTidy (telling vs q)
tidy_telling vs q simple = tidy_request vs done q simple (λ fault at. refl) tidy_done

pub tidy_tell : (q : Request) → is_simple q ≡ true → IsTidy (tell q)
tidy_tell q simple = tidy_telling [] q simple

-- a field or an element is read
pub tidy_getting : (vs : List Value) (object place : ℕ) → IsTidy (getting vs object place)
tidy_getting vs object place = tidy_request vs got (request.Get object place) refl (λ fault at. refl) tidy_got

pub tidy_get : (object place : ℕ) → IsTidy (get object place)
tidy_get object place = tidy_getting [] object place

-- a new object
pub tidy_make : (class : ClassId) (size : ℕ) → IsTidy (make class size)
tidy_make class size = tidy_request [] made (request.New class size) refl (λ fault at. refl) tidy_made

-- an object is looked at, and what follows
pub tidy_looking : (vs : List Value) (f : ClassId → ℕ → Meaning) → ((class : ClassId) (size : ℕ) → IsTidy (f class size)) → (object : ℕ) → IsTidy (looking vs f object)
tidy_looking vs f g object = tidy_request vs (seen f) (request.Look object) refl (λ fault at. refl) (tidy_seen f g)

pub tidy_look : (f : ClassId → ℕ → Meaning) → ((class : ClassId) (size : ℕ) → IsTidy (f class size)) → (object : ℕ) → IsTidy (look f object)
tidy_look f g object = tidy_looking [] f g object

-- what is done with an object
pub tidy_object : (f : ℕ → Meaning) → ((object : ℕ) → IsTidy (f object)) → (v : Value) → IsTidy (on_object f v)
tidy_object f g value.Null = tidy_fails NullPointer
tidy_object f g (value.Ref object) = g object
tidy_object f g v = tidy_fails BadValue

-- ---- moves

-- a move is made
pub tidy_moved : (m : Meaning) → IsTidy m → IsTidy (moved m)
tidy_moved m s = record { from = λ u. s.from (record u { moves = u.moves + 1 }) }

-- a move, after a pause where one is due
tidy_paced : (few : Bool) (m : Meaning) → IsTidy m → IsTidy (paced few m)
tidy_paced true m s = record { from = λ u. (tidy_moved m s).from u }
tidy_paced false m s = record { from = λ u. (tidy_after (λ v. moved m) (tell request.Pause) (tidy_tell request.Pause refl) (λ v. tidy_moved m s)).from u }

-- a part is tidy behind a move
pub tidy_moving : (m : Meaning) → IsTidy m → IsTidy (moving m)
tidy_moving m s = record { from = λ u. (tidy_paced (nat_lt u.moves most_moves) m s).from u }

-- ---- locks

-- a part whose lock was not entered
tidy_outside : (l : LockName) (grade : Grade) (m : Meaning) → IsTidy m → (r : Reply) → (r ≡ Done → ⊥) → IsTidy (entered l grade m r)
tidy_outside l grade m s Done unlike = absurd (unlike refl)
tidy_outside l grade m s Local unlike = tidy_holding (monitor_of l) m s
tidy_outside l grade m s r unlike = tidy_unwanted r

-- a part under a lock
pub tidy_under_with : (vs : List Value) (l : LockName) (grade : Grade) (m : Meaning) → IsTidy m → IsTidy (under_with vs l grade m)
tidy_under_with vs l grade m s = record {
  from = λ u. Tidy.enters l grade refl (record { context = []; values = vs; part = m; at = u; comes = λ rs. refl }) (λ fault. at_once fault u)
      (tidy_leave l grade ((tidy_holding (monitor_of l) m s).from (after_request u)))
      (λ r unlike. (tidy_outside l grade m s r unlike).from (after_request u));
}

pub tidy_under : (l : LockName) (grade : Grade) (m : Meaning) → IsTidy m → IsTidy (under l grade m)
tidy_under l grade m s = tidy_under_with [] l grade m s

-- a thread that waits asks for the lock again,
resumes : (l : LockName) (more : Bool) (u : State) → Tidy (Waits l more) [] (λ rs. tell (request.Resume l) (with_replies rs u))
resumes l more u = Tidy.resumes l more refl ((tidy_gives value.Null).from (after_request u))

-- after a tick that told it that it was woken, and else after more ticks,
after_tick : (l : LockName) (n : ℕ) → ((u : State) → Tidy (Waits l true) [] (λ rs. ticking l n (with_replies rs u))) → (u : State) (woken : Bool)
    → Tidy (ticked l woken) [] (λ rs. on_value (λ v. tell (request.Resume l)) (unless_woken (ticks l n) (Val (value.Bool woken)) (with_replies rs u)))
after_tick l n go u true = resumes l false u
after_tick l n go u false = go u

-- and after its timeout
tidy_ticking : (l : LockName) (n : ℕ) (u : State) → Tidy (Waits l true) [] (λ rs. ticking l n (with_replies rs u))
tidy_ticking l zero u = Tidy.times_out l refl (resumes l false (after_request u)) (resumes l false (after_request u))
tidy_ticking l (suc n) u = Tidy.ticks l refl (after_tick l n (tidy_ticking l n) (after_request u))

-- a wait is tidy with and without a limit
tidy_waiting : (l : LockName) (n : ℕ) (u : State) → Tidy (Waits l true) [] (λ rs. waiting l n (with_replies rs u))
tidy_waiting l zero u = resumes l true u
tidy_waiting l (suc n) u = tidy_ticking l (suc n) u

-- a wait that was not answered Done
not_waited : (f : Value → Meaning) (r : Reply) → (r ≡ Done → ⊥) → IsTidy (λ at. on_value f (done r at))
not_waited f Done unlike = absurd (unlike refl)
not_waited f (Refused fault) unlike = tidy_fails fault
not_waited f r unlike = tidy_fails BadValue

-- a thread waits, and then asks for the lock again
pub tidy_wait : (n : ℕ) (l : LockName) → IsTidy (wait n l)
tidy_wait n l = record {
  from = λ u. Tidy.waits l refl (λ fault. at_once fault u) (tidy_waiting l n (after_request u)) (λ r unlike. (not_waited (λ v. waiting l n) r unlike).from (after_request u));
}

-- ---- calls

-- the methods' bodies are tidy
abbrev pub TidyMethods : MethodMeanings → Type 0
TidyMethods w = (m : ℕ) → IsTidy (w m)

-- a part in the environment of a method
tidy_callee : (this : Value) (vars : List Value) (m : Meaning) → IsTidy m → IsTidy (in_callee this vars m)
tidy_callee this vars m s = record { from = λ u. tidy_back u.environment (s.from (record u { environment = callee this vars u.environment })) }

-- a part under a method's named lock, if it has one
tidy_name : (named : Option (ℕ × Grade)) (m : Meaning) → IsTidy m → IsTidy (under_name named m)
tidy_name None m s = s
tidy_name (Some lock) m s = tidy_under (Name lock.0) lock.1 m s

-- a part under the object's monitor, if the method takes it
pub tidy_monitor : (synced : Option Grade) (object : ℕ) (m : Meaning) → IsTidy m → IsTidy (under_monitor synced object m)
tidy_monitor None object m s = s
tidy_monitor (Some grade) object m s = tidy_under (Mon object) grade m s

-- ---- maps

-- what is made of a value that was read of a map's field
tidy_value : (f : MapField) (m : Value → Meaning) → ((v : Value) → IsTidy (m v)) → (v : Value) → IsTidy (told_value f m v)
tidy_value f m s v = tidy_choice (field_takes f v) (m v) (Fails BadValue) (s v) (tidy_fails BadValue)

-- what a map's talk asks
pub tidy_told : (object : ℕ) (talk : Talk) → IsTidy (told object talk)
tidy_told object (Gets f then) = tidy_after (told_value f (λ v. told object (then v))) (get object (place_of f)) (tidy_get object (place_of f)) (tidy_value f (λ v. told object (then v)) (λ v. tidy_told object (then v)))
tidy_told object (Puts f v then) = tidy_after (λ x. told object then) (put object (place_of f) v) (tidy_tell (request.Put object (place_of f) v) refl) (λ x. tidy_told object then)
tidy_told object (Ends v) = tidy_gives v

-- and what it makes of a reply
pub tidy_told_reply : (object : ℕ) (talk : Talk) (r : Reply) → IsTidy (told_reply object talk r)
tidy_told_reply object (Gets f then) r = tidy_after (told_value f (λ v. told object (then v))) (got r) (tidy_got r) (tidy_value f (λ v. told object (then v)) (λ v. tidy_told object (then v)))
tidy_told_reply object (Puts f v then) r = tidy_after (λ x. told object then) (done r) (tidy_done r) (λ x. tidy_told object then)
tidy_told_reply object (Ends v) r = tidy_unwanted r

-- a call of a map
tidy_call_map : (object : ℕ) (args : List Value) (call : Option MapOp) → IsTidy (call_map object args call)
tidy_call_map object args None = tidy_fails BadValue
tidy_call_map object args (Some call) = record {
  from = λ u. (tidy_holding (value.Ref object ∷ args) (under (Mon object) (grade_of call) (told object (talk call)))
      (tidy_under (Mon object) (grade_of call) (told object (talk call)) (tidy_told object (talk call)))).from u;
}

module _ (c : Code) (w : MethodMeanings) (s : TidyMethods w) where
  -- a method of an object
  tidy_run : (m : ℕ) (method : Method) (object : ℕ) (args : List Value) → IsTidy (run_method w m method object args)
  tidy_run m method object args = tidy_callee (value.Ref object) (variables method.vars args) _ (tidy_name method.named _ (tidy_monitor method.synced object _ (tidy_moving (w m) (s m))))

  -- a method that was found
  tidy_method : (m object : ℕ) (args : List Value) (method : Option Method) → IsTidy (call_method c w m object args method)
  tidy_method m object args None = record { from = λ u. (tidy_call_map object args (map_op (m - length c.methods) args)).from u }
  tidy_method m object args (Some method) = record {
    from = λ u. (tidy_choice (nat_lt 0 u.environment.depth_left) (run_method w m method object args) (Fails StackOverflow) (tidy_run m method object args) (tidy_fails StackOverflow)).from u;
  }

  -- the method of the object's class
  tidy_number : (object : ℕ) (args : List Value) (number : Option ℕ) → IsTidy (call_number c w object args number)
  tidy_number object args None = tidy_fails NoSuchField
  tidy_number object args (Some m) = record { from = λ u. (tidy_method m object args (slice_get c.methods m)).from u }

  -- a call on an object of this class
  pub tidy_call_in : (callees : List (ℕ × ℕ)) (args : List Value) (object : ℕ) (class : ClassId) (size : ℕ) → IsTidy (call_in c w callees args object class size)
  tidy_call_in callees args object class size = tidy_number object args (lookup_class callees class)

  -- a call with its operands
  pub tidy_call : (callees : List (ℕ × ℕ)) (x : Value) (args : List Value) → IsTidy (call_on c w callees x args)
  tidy_call callees x args = tidy_object (λ object. looking args (call_in c w callees args object) object)
      (λ object. tidy_looking args (call_in c w callees args object) (tidy_call_in callees args object) object) x

-- ---- fields, elements, new arrays, operators

-- the field that was found
tidy_field_at : (object : ℕ) (place : Option ℕ) → IsTidy (field_at object place)
tidy_field_at object None = tidy_fails NoSuchField
tidy_field_at object (Some place) = tidy_get object place

-- a field of an object of this class
pub tidy_field_in : (f : FieldRef) (object : ℕ) (class : ClassId) (size : ℕ) → IsTidy (field_in f object class size)
tidy_field_in f object (Plain class) size = tidy_field_at object (lookup f.places class)
tidy_field_in f object (Array kind) size = tidy_choice f.length (Gives (value.Long (pos size))) (Fails NoSuchField) (tidy_gives (value.Long (pos size))) (tidy_fails NoSuchField)
tidy_field_in f object Roots size = tidy_fails NoSuchField

-- a field of a value
pub tidy_field : (f : FieldRef) (x : Value) → IsTidy (field_of f x)
tidy_field f x = tidy_object (λ object. look (field_in f object) object) (λ object. tidy_look (field_in f object) (tidy_field_in f object) object) x

-- the element that was found
tidy_element_at : (object : ℕ) (place : Option ℕ) → IsTidy (element_at object place)
tidy_element_at object None = tidy_fails BadIndex
tidy_element_at object (Some place) = tidy_get object place

-- an element of an object of this class
pub tidy_element_in : (i : ℤ) (object : ℕ) (class : ClassId) (size : ℕ) → IsTidy (element_in i object class size)
tidy_element_in i object (Array kind) size = tidy_element_at object (within i size)
tidy_element_in i object class size = tidy_fails BadValue

-- an element of a value
pub tidy_element : (x i : Value) → IsTidy (element_of x i)
tidy_element x (value.Long i) = tidy_object (λ object. look (element_in i object) object) (λ object. tidy_look (element_in i object) (tidy_element_in i object) object) x
tidy_element x i = tidy_object (λ object. Fails BadValue) (λ object. tidy_fails BadValue) x

-- a root is read, under its lock
pub tidy_root : (r : ℕ) → IsTidy (root r)
tidy_root r = tidy_under (Name r) grade.Read (get 0 r) (tidy_get 0 r)

-- a new array
pub tidy_array : (kind : Kind) (v : Value) → IsTidy (new_array kind v)
tidy_array kind (value.Long (pos n)) = tidy_choice (nat_le n most_elements) (make (Array kind) n) (Fails BadSize) (tidy_make (Array kind) n) (tidy_fails BadSize)
tidy_array kind (value.Long (negsuc n)) = tidy_fails BadSize
tidy_array kind v = tidy_fails BadValue

-- a value that is to be a boolean
pub tidy_boolean : (v : Value) → IsTidy (a_boolean v)
tidy_boolean (value.Bool b) = tidy_gives (value.Bool b)
tidy_boolean v = tidy_fails BadValue

-- the second operand
pub tidy_second : (o : Op) (m : Meaning) → IsTidy m → (v : Value) → IsTidy (second o m v)
tidy_second op.And m s (value.Bool true) = tidy_after a_boolean m s tidy_boolean
tidy_second op.And m s (value.Bool false) = tidy_gives (value.Bool false)
tidy_second op.And m s v = tidy_fails BadValue
tidy_second op.Or m s (value.Bool true) = tidy_gives (value.Bool true)
tidy_second op.Or m s (value.Bool false) = tidy_after a_boolean m s tidy_boolean
tidy_second op.Or m s v = tidy_fails BadValue
tidy_second o m s x = tidy_after (λ y. result_of (binary o x y)) (holding (x ∷ []) m) (tidy_holding (x ∷ []) m s) (λ y. tidy_result (binary o x y))

-- ---- what is written

-- a variable
pub tidy_assign : (i : ℕ) (v : Value) → IsTidy (assign i v)
tidy_assign i v = record { from = λ u. Tidy.ends (assign i v u) (λ rs. refl) tt }

-- a field or an element of this kind
tidy_fitting : (kind : Kind) (object place : ℕ) (v : Value) → IsTidy (put_fitting kind object place v)
tidy_fitting kind object place v = tidy_choice (takes kind v) (put object place v) (Fails BadValue) (tidy_tell (request.Put object place v) refl) (tidy_fails BadValue)

-- the field that was found
tidy_put_field_at : (shape : Shape) (class object : ℕ) (v : Value) (place : Option ℕ) → IsTidy (put_field_at shape class object v place)
tidy_put_field_at shape class object v None = tidy_fails NoSuchField
tidy_put_field_at shape class object v (Some place) = tidy_fitting (kind_of shape (Plain class) place) object place v

-- a field of an object of this class
pub tidy_put_field_in : (shape : Shape) (f : FieldRef) (v : Value) (object : ℕ) (class : ClassId) (size : ℕ) → IsTidy (put_field_in shape f v object class size)
tidy_put_field_in shape f v object (Plain class) size = tidy_put_field_at shape class object v (lookup f.places class)
tidy_put_field_in shape f v object class size = tidy_fails NoSuchField

-- a field of a value
pub tidy_put_field : (shape : Shape) (f : FieldRef) (x v : Value) → IsTidy (put_field shape f x v)
tidy_put_field shape f x v = tidy_object (λ object. looking (v ∷ []) (put_field_in shape f v object) object) (λ object. tidy_looking (v ∷ []) (put_field_in shape f v object) (tidy_put_field_in shape f v object) object) x

-- the element that was found
tidy_put_element_at : (kind : Kind) (object : ℕ) (v : Value) (place : Option ℕ) → IsTidy (put_element_at kind object v place)
tidy_put_element_at kind object v None = tidy_fails BadIndex
tidy_put_element_at kind object v (Some place) = tidy_fitting kind object place v

-- an element of an object of this class
pub tidy_put_element_in : (i : ℤ) (v : Value) (object : ℕ) (class : ClassId) (size : ℕ) → IsTidy (put_element_in i v object class size)
tidy_put_element_in i v object (Array kind) size = tidy_put_element_at kind object v (within i size)
tidy_put_element_in i v object class size = tidy_fails BadValue

-- an element of a value
pub tidy_put_element : (x i v : Value) → IsTidy (put_element x i v)
tidy_put_element x (value.Long i) v = tidy_object (λ object. looking (v ∷ []) (put_element_in i v object) object) (λ object. tidy_looking (v ∷ []) (put_element_in i v object) (tidy_put_element_in i v object) object) x
tidy_put_element x i v = tidy_object (λ object. Fails BadValue) (λ object. tidy_fails BadValue) x

-- a root, unless it is bound
pub tidy_bind_null : (r : ℕ) (v bound : Value) → IsTidy (bind_null r v bound)
tidy_bind_null r v value.Null = tidy_tell (request.Put 0 r v) refl
tidy_bind_null r v bound = tidy_gives value.Null

-- a root, under its lock
pub tidy_put_root : (r : ℕ) (v : Value) → IsTidy (put_root r v)
tidy_put_root r v = tidy_choice (takes kind.Ref v) (bind r v) (Fails BadValue)
    (tidy_under_with (v ∷ []) (Name r) grade.Write (λ at. on_value (bind_null r v) (getting (v ∷ []) 0 r at)) (tidy_after (bind_null r v) (getting (v ∷ []) 0 r) (tidy_getting (v ∷ []) 0 r) (tidy_bind_null r v))) (tidy_fails BadValue)

-- ---- monitors and what is run

-- statements under the monitor of a value
pub tidy_sync : (grade : Grade) (m : Meaning) → IsTidy m → (x : Value) → IsTidy (sync grade m x)
tidy_sync grade m s x = tidy_object (λ object. under (Mon object) grade m) (λ object. tidy_under (Mon object) grade m s) x

-- a wait for as many ticks as a value says
tidy_count : (f : ℕ → Meaning) → ((n : ℕ) → IsTidy (f n)) → (v : Value) → IsTidy (on_count f v)
tidy_count f g (value.Long (pos n)) = g n
tidy_count f g v = tidy_fails BadValue

-- on the monitor of another one
pub tidy_timed_wait : (x v : Value) → IsTidy (timed_wait x v)
tidy_timed_wait x v = tidy_object (λ object. on_count (λ n. wait n (Mon object)) v) (λ object. tidy_count (λ n. wait n (Mon object)) (λ n. tidy_wait n (Mon object)) v) x

-- one way or the other
pub tidy_branch : (a b : Meaning) → IsTidy a → IsTidy b → (v : Value) → IsTidy (branch a b v)
tidy_branch a b s t (value.Bool true) = s
tidy_branch a b s t (value.Bool false) = t
tidy_branch a b s t v = tidy_fails BadValue

-- a loop after its condition
pub tidy_turn : (again body : Meaning) → IsTidy again → IsTidy body → (v : Value) → IsTidy (turn again body v)
tidy_turn again body s t = tidy_branch (λ at. on_value (λ v. again) (body at)) (Gives value.Null) (tidy_after (λ v. again) body t (λ v. s)) (tidy_gives value.Null)

-- a loop from its condition, for any number of moves
pub tidy_spun : (test body : Meaning) → IsTidy test → IsTidy body → (k : ℕ) → IsTidy (spun test body k)
tidy_spun test body s t zero = record { from = λ u. tidy_stopped.from u }
tidy_spun test body s t (suc k) = tidy_after (turn (moving (spun test body k)) body) test s (tidy_turn (moving (spun test body k)) body (tidy_moving (spun test body k) (tidy_spun test body s t k)) t)

-- Parts that hold only what is known: requests, moves, locks, fields and elements, what is written.
use Rattle.std.proofs.Common.{◌≡◌, refl, ℕ, zero, suc, ◌+◌, Bool, true, false, inl, List, [], ◌∷◌, ◌++◌, Option, None, Some, subst, sym}
use Rattle.std.specs.Prelude.{ℤ, pos, negsuc, nat_lt, nat_le, Result, Ok, Err}
use Rattle.dso_base.specs.declared.lock.Grade.{Grade}
use Rattle.dso_base.specs.declared.lock.Grade.TheVariants as grade
use Rattle.dso_base.specs.declared.lock.LockName.{LockName}
use Rattle.dso_base.specs.declared.lock.LockName.TheVariants.{Mon, Name}
use Rattle.dso_base.specs.declared.op.Op.{Op}
use Rattle.dso_base.specs.declared.op.Op.TheVariants as op
use Rattle.dso_base.specs.declared.request.Fault.{Fault}
use Rattle.dso_base.specs.declared.request.Fault.TheVariants.{NullPointer, NoSuchField, BadValue, BadIndex, BadSize}
use Rattle.dso_base.specs.declared.request.Reply.{Reply}
use Rattle.dso_base.specs.declared.request.Reply.TheVariants.{Done, Made, Seen, Val, Local, Refused}
use Rattle.dso_base.specs.declared.request.Request.{Request}
use Rattle.dso_base.specs.declared.request.Request.TheVariants as request
use Rattle.dso_base.specs.declared.shape.Shape.{Shape}
use Rattle.dso_base.specs.declared.value.ClassId.{ClassId}
use Rattle.dso_base.specs.declared.value.ClassId.TheVariants.{Plain, Array, Roots}
use Rattle.dso_base.specs.declared.value.Kind.{Kind}
use Rattle.dso_base.specs.declared.value.Kind.TheVariants as kind
use Rattle.dso_base.specs.declared.value.Value.{Value}
use Rattle.dso_base.specs.declared.value.Value.TheVariants as value
use Rattle.dso_base.specs.Shape.{kind_of}
use Rattle.dso_machine.specs.declared.tree.FieldRef.{FieldRef}
use Rattle.dso_machine.specs.Calls.{lookup, arguments}
use Rattle.dso_machine.specs.Expressions.{field_at, field_in, field_of, within, element_at, element_in, element_of, root, make, new_array, a_boolean, second}
use Rattle.dso_machine.specs.Frames.{request_values}
use Rattle.dso_machine.specs.Limits.{most_elements, most_moves}
use Rattle.dso_machine.specs.Outcome.{Outcome, Wants, Gives, Leaves, Fails, Hears, Over, Stopped, Meaning, choose, on_value, on_reply, result_of, asking, unwanted, done, made, got, seen, telling, tell, getting, get, put, looking, look, on_object, moved, paced, moving, monitor_of, level_of, settling, leaving, leave, entered, under, under_with}
use Rattle.dso_machine.specs.Statements.{assign, put_fitting, put_field_at, put_field_in, put_field, put_element_at, put_element_in, put_element, bind_null, bind, put_root, sync, unless_woken, timed_out, ticks, ticking, waiting, wait, on_count, timed_wait, branch, turn, spun}
use Rattle.dso_machine.specs.Unwinding.{with_replies}
use Rattle.dso_machine.specs.Values.{binary, takes}
use Rattle.dso_machine.proofs.protocol.Expressions.{known_binary, known_set}
use Rattle.dso_machine.proofs.protocol.Parts.{refilled}
use Rattle.dso_machine.proofs.protocol.Requests.{KnowsResult}
use Rattle.dso_machine.proofs.frames.Held.{Objects, IsOne, AreOf, front, behind, both, told_by, EndsIn, HoldsOnly, Part, while_held, part_by, part_any, part_gives, part_plain, part_leaves, part_fails, part_stopped, part_value, part_beside, asked_with}

-- ---- requests

-- a request while values are held, and what is done with its reply, for which those and what the request names are known
pub part_request : (vs : List Value) (q : Request) (f : Reply → Meaning) → ((r : Reply) → Part (told_by r ++ (vs ++ request_values q)) (f r)) → Part (vs ++ request_values q) (λ at. on_reply f (asking vs q at))
part_request vs q f then = record {
  from = λ known kept u st all. asked_with known kept vs q u (λ rs. on_reply f (asking vs q (with_replies rs u))) st all refl
      (λ r k stands told. (then r).from k kept (record u { moves = 0 }) stands told);
}

-- the same, and then what is made of its value
pub part_request_then : (vs : List Value) (q : Request) (f : Reply → Meaning) (g : Value → Meaning) → ((r : Reply) → Part (told_by r ++ (vs ++ request_values q)) (λ at. on_value g (f r at)))
    → Part (vs ++ request_values q) (λ at. on_value g (on_reply f (asking vs q at)))
part_request_then vs q f g then = record {
  from = λ known kept u st all. asked_with known kept vs q u (λ rs. on_value g (on_reply f (asking vs q (with_replies rs u)))) st all refl
      (λ r k stands told. (then r).from k kept (record u { moves = 0 }) stands told);
}

-- a reply that is not wanted
pub part_unwanted : (vs : List Value) (r : Reply) → Part vs (unwanted r)
part_unwanted vs (Refused fault) = part_fails vs fault
part_unwanted vs r = part_fails vs BadValue

-- null is given
pub part_null : (vs : List Value) → Part vs (Gives value.Null)
part_null vs = part_any vs (part_plain value.Null (λ k. tt))

-- the reply Done
part_done : (vs : List Value) (r : Reply) → Part vs (done r)
part_done vs Done = part_null vs
part_done vs r = part_unwanted vs r

-- the object that was made
part_made : (vs : List Value) (r : Reply) → Part (told_by r ++ vs) (made r)
part_made vs (Made object) = part_by (value.Ref object ∷ vs) (λ k all. (all.0, tt)) (part_gives (value.Ref object))
part_made vs r = part_unwanted (told_by r ++ vs) r

-- the value that was read
part_got : (vs : List Value) (r : Reply) → Part (told_by r ++ vs) (got r)
part_got vs (Val v) = part_by (v ∷ vs) (λ k all. (all.0, tt)) (part_gives v)
part_got vs r = part_unwanted (told_by r ++ vs) r

-- the class and the size that were seen
part_seen : (vs : List Value) (f : ClassId → ℕ → Meaning) → ((class : ClassId) (size : ℕ) → Part vs (f class size)) → (r : Reply) → Part (told_by r ++ vs) (seen f r)
part_seen vs f then (Seen class size) = then class size
part_seen vs f then r = part_unwanted (told_by r ++ vs) r

-- a request that is answered Done
pub part_tell : (q : Request) → Part (request_values q) (tell q)
part_tell q = part_request [] q done (λ r. part_done (told_by r ++ request_values q) r)

-- what comes after it, where a refusal or another reply ends the part
done_then : (vs : List Value) (m : Meaning) → Part vs m → (r : Reply) → Part (told_by r ++ vs) (λ at. on_value (λ v. m) (done r at))
done_then vs m part Done = part
done_then vs m part (Refused fault) = part_fails vs fault
done_then vs m part r = part_fails (told_by r ++ vs) BadValue

-- such a request while values are held, and then a part that makes use of them
pub part_told : (vs : List Value) (q : Request) (m : Meaning) → Part (vs ++ request_values q) m → Part (vs ++ request_values q) (λ at. on_value (λ v. m) (telling vs q at))
part_told vs q m part = part_request_then vs q done (λ v. m) (done_then (vs ++ request_values q) m part)

-- the same, where the request names nothing
part_told_so : (vs : List Value) (q : Request) (m : Meaning) → request_values q ≡ [] → Part vs m → Part vs (λ at. on_value (λ v. m) (telling vs q at))
part_told_so vs q m none part = part_by vs (λ k all. both k vs (request_values q) all (subst (AreOf k) (sym none) tt))
    (part_told vs q m (part_by (vs ++ request_values q) (λ k all. front k vs (request_values q) all) part))

-- a field or an element is read
pub part_get : (object place : ℕ) → Part (value.Ref object ∷ []) (get object place)
part_get object place = part_request [] (request.Get object place) got (part_got (value.Ref object ∷ []))

-- a new object
pub part_make : (class : ClassId) (size : ℕ) → Part [] (make class size)
part_make class size = part_request [] (request.New class size) made (part_made [])

-- an object is looked at, and what follows
pub part_looking : (vs : List Value) (f : ClassId → ℕ → Meaning) (object : ℕ) → ((class : ClassId) (size : ℕ) → Part (vs ++ value.Ref object ∷ []) (f class size))
    → Part (vs ++ value.Ref object ∷ []) (looking vs f object)
part_looking vs f object then = part_request vs (request.Look object) (seen f) (part_seen (vs ++ value.Ref object ∷ []) f then)

-- what is done with an object
pub part_object : (vs : List Value) (f : ℕ → Meaning) → ((object : ℕ) → Part (value.Ref object ∷ vs) (f object)) → (v : Value) → Part (v ∷ vs) (on_object f v)
part_object vs f then value.Null = part_fails (value.Null ∷ vs) NullPointer
part_object vs f then (value.Ref object) = then object
part_object vs f then v = part_fails (v ∷ vs) BadValue

-- one of two parts
pub part_choose : (vs : List Value) (b : Bool) (m n : Meaning) → Part vs m → Part vs n → Part vs (choose b m n)
part_choose vs true m n part other = record { from = λ known kept u st all. part.from known kept u st all }
part_choose vs false m n part other = record { from = λ known kept u st all. other.from known kept u st all }

-- a value that is no object, or the fault in its place
pub part_result : (vs : List Value) (r : Result Value Fault) → ((k : Objects) → KnowsResult (λ t. Unit {0}) (IsOne k) r) → Part vs (result_of r)
part_result vs (Ok v) plain = part_any vs (part_plain v plain)
part_result vs (Err fault) plain = part_fails vs fault

-- ---- moves

part_moved : (m : Meaning) → Part [] m → Part [] (moved m)
part_moved m part = record { from = λ known kept u st all. part.from known kept (record u { moves = u.moves + 1 }) st all }

part_paced : (few : Bool) (m : Meaning) → Part [] m → Part [] (paced few m)
part_paced true m part = record { from = λ known kept u st all. (part_moved m part).from known kept u st all }
part_paced false m part = record { from = λ known kept u st all. (part_told_so [] request.Pause (moved m) refl (part_moved m part)).from known kept u st all }

-- a part behind a move
pub part_moving : (m : Meaning) → Part [] m → Part [] (moving m)
part_moving m part = record { from = λ known kept u st all. (part_paced (nat_lt u.moves most_moves) m part).from known kept u st all }

-- ---- locks

part_settling : (vs : List Value) (grade : Grade) (m : Meaning) → Part vs m → Part vs (settling vs grade m)
part_settling vs grade.Read m part = record { from = λ known kept u st all. part.from known kept u st all }
part_settling vs grade.Write m part = record { from = λ known kept u st all. part.from known kept u st all }
part_settling vs grade.Synchronous m part = record { from = λ known kept u st all. (part_told_so vs request.Settle m refl part).from known kept u st all }

part_leaving : (vs : List Value) (l : LockName) (grade : Grade) (m : Meaning) → Part vs m → Part (vs ++ monitor_of l) (leaving vs l grade m)
part_leaving vs l grade m part = part_told vs (request.Exit l) (settling vs grade m) (part_by (vs ++ monitor_of l) (λ k all. front k vs (monitor_of l) all) (part_settling vs grade m part))

-- a lock is left at an end, where its monitor is known
pub left_end : (l : LockName) (grade : Grade) (kept : List Value) (k : Objects) (e : Outcome) → EndsIn k kept e → AreOf k (monitor_of l) → HoldsOnly kept k (λ rs. leave l grade (refilled rs e))
left_end l grade kept k (Gives v u) end its = (part_leaving (v ∷ []) l grade (Gives v) (part_gives v)).from k kept u end.1 (end.0, its)
left_end l grade kept k (Leaves v u) end its = (part_leaving (v ∷ []) l grade (Leaves v) (part_leaves v)).from k kept u end.1 (end.0, its)
left_end l grade kept k (Fails fault u) end its = (part_leaving [] l grade (Fails fault) (part_fails [] fault)).from k kept u end its
left_end l grade kept k (Wants q env) end its = absurd end
left_end l grade kept k (Hears r u) end its = absurd end
left_end l grade kept k Over end its = absurd end
left_end l grade kept k Stopped end its = absurd end

-- a part whose lock was asked for
part_entered : (vs : List Value) (l : LockName) (grade : Grade) (m : Meaning) → ((k : Objects) → AreOf k vs → AreOf k (monitor_of l)) → Part vs m → (r : Reply) → Part (told_by r ++ vs) (entered l grade m r)
part_entered vs l grade m its part Done = record {
  from = λ known kept u st all. while_held (leave l grade) (record { wants = λ q env. refl; stopped = refl; over = refl }) (monitor_of l) m known kept u st (its known all)
      (λ more w inside within standing. part.from known more w standing all) (left_end l grade kept);
}
part_entered vs l grade m its part Local = record {
  from = λ known kept u st all. while_held (λ o. o) (record { wants = λ q env. refl; stopped = refl; over = refl }) (monitor_of l) m known kept u st (its known all)
      (λ more w inside within standing. part.from known more w standing all) (λ k e end known. HoldsOnly.ends e (λ rs. refl) end);
}
part_entered vs l grade m its part r = part_unwanted (told_by r ++ vs) r

-- a part under a lock, which is entered while values are held
pub part_under_with : (vs : List Value) (l : LockName) (grade : Grade) (m : Meaning) → Part vs m → Part (vs ++ monitor_of l) (under_with vs l grade m)
part_under_with vs l grade m part = part_request vs (request.Enter l (level_of grade)) (entered l grade m)
    (part_entered (vs ++ monitor_of l) l grade m (λ k all. behind k vs (monitor_of l) all) (part_by (vs ++ monitor_of l) (λ k all. front k vs (monitor_of l) all) part))

-- ---- fields, elements, roots, new arrays, operators

part_field_at : (object : ℕ) (place : Option ℕ) → Part (value.Ref object ∷ []) (field_at object place)
part_field_at object None = part_fails (value.Ref object ∷ []) NoSuchField
part_field_at object (Some place) = part_get object place

part_field_in : (f : FieldRef) (object : ℕ) (class : ClassId) (size : ℕ) → Part (value.Ref object ∷ []) (field_in f object class size)
part_field_in f object (Plain class) size = part_field_at object (lookup f.places class)
part_field_in f object (Array kind) size = part_choose (value.Ref object ∷ []) f.length (Gives (value.Long (pos size))) (Fails NoSuchField)
    (part_any (value.Ref object ∷ []) (part_plain (value.Long (pos size)) (λ k. tt))) (part_fails (value.Ref object ∷ []) NoSuchField)
part_field_in f object Roots size = part_fails (value.Ref object ∷ []) NoSuchField

-- a field of a value
pub part_field : (f : FieldRef) (x : Value) → Part (x ∷ []) (field_of f x)
part_field f x = part_object [] (λ object. look (field_in f object) object) (λ object. part_looking [] (field_in f object) object (part_field_in f object)) x

part_element_at : (object : ℕ) (place : Option ℕ) → Part (value.Ref object ∷ []) (element_at object place)
part_element_at object None = part_fails (value.Ref object ∷ []) BadIndex
part_element_at object (Some place) = part_get object place

part_element_in : (i : ℤ) (object : ℕ) (class : ClassId) (size : ℕ) → Part (value.Ref object ∷ []) (element_in i object class size)
part_element_in i object (Array kind) size = part_element_at object (within i size)
part_element_in i object class size = part_fails (value.Ref object ∷ []) BadValue

-- an element of a value
pub part_element : (x i : Value) → Part (x ∷ []) (element_of x i)
part_element x (value.Long i) = part_object [] (λ object. look (element_in i object) object) (λ object. part_looking [] (element_in i object) object (part_element_in i object)) x
part_element x i = part_object [] (λ object. Fails BadValue) (λ object. part_fails (value.Ref object ∷ []) BadValue) x

-- a root is read, under its lock
pub part_root : (r : ℕ) → Part [] (root r)
part_root r = part_under_with [] (Name r) grade.Read (get 0 r) (part_by [] (λ k all. (inl refl, tt)) (part_get 0 r))

-- a new array
pub part_array : (kind : Kind) (v : Value) → Part [] (new_array kind v)
part_array kind (value.Long (pos n)) = part_choose [] (nat_le n most_elements) (make (Array kind) n) (Fails BadSize) (part_make (Array kind) n) (part_fails [] BadSize)
part_array kind (value.Long (negsuc n)) = part_fails [] BadSize
part_array kind v = part_fails [] BadValue

part_boolean : (v : Value) → Part [] (a_boolean v)
part_boolean (value.Bool b) = part_plain (value.Bool b) (λ k. tt)
part_boolean v = part_fails [] BadValue

-- the second operand
pub part_second : (o : Op) (m : Meaning) → Part [] m → (v : Value) → Part (v ∷ []) (second o m v)
part_second op.And m part (value.Bool true) = part_any (value.Bool true ∷ []) (part_value [] a_boolean m part (λ v. part_any (v ∷ []) (part_boolean v)))
part_second op.And m part (value.Bool false) = part_gives (value.Bool false)
part_second op.And m part v = part_fails (v ∷ []) BadValue
part_second op.Or m part (value.Bool true) = part_gives (value.Bool true)
part_second op.Or m part (value.Bool false) = part_any (value.Bool false ∷ []) (part_value [] a_boolean m part (λ v. part_any (v ∷ []) (part_boolean v)))
part_second op.Or m part v = part_fails (v ∷ []) BadValue
part_second o m part x = part_beside (x ∷ []) (λ y. result_of (binary o x y)) m part (λ y. part_result (y ∷ x ∷ []) (binary o x y) (λ k. known_binary (λ t. Unit {0}) (IsOne k) o x y))

-- ---- what is written

-- a variable
pub part_assign : (i : ℕ) (v : Value) → Part (v ∷ []) (assign i v)
part_assign i v = record {
  from = λ known kept u st all. HoldsOnly.ends (assign i v u) (λ rs. refl)
      (tt, record { this = st.this; vars = known_set (λ t. Unit {0}) (IsOne known) u.environment.vars i v st.vars all.0; outer = st.outer; stays = st.stays });
}

part_fitting : (kind : Kind) (object place : ℕ) (v : Value) → Part (v ∷ value.Ref object ∷ []) (put_fitting kind object place v)
part_fitting kind object place v = part_choose (v ∷ value.Ref object ∷ []) (takes kind v) (put object place v) (Fails BadValue)
    (part_by (v ∷ value.Ref object ∷ []) (λ k all. (all.1.0, (all.0, tt))) (part_tell (request.Put object place v))) (part_fails (v ∷ value.Ref object ∷ []) BadValue)

part_put_field_at : (shape : Shape) (class object : ℕ) (v : Value) (place : Option ℕ) → Part (v ∷ value.Ref object ∷ []) (put_field_at shape class object v place)
part_put_field_at shape class object v None = part_fails (v ∷ value.Ref object ∷ []) NoSuchField
part_put_field_at shape class object v (Some place) = part_fitting (kind_of shape (Plain class) place) object place v

part_put_field_in : (shape : Shape) (f : FieldRef) (v : Value) (object : ℕ) (class : ClassId) (size : ℕ) → Part (v ∷ value.Ref object ∷ []) (put_field_in shape f v object class size)
part_put_field_in shape f v object (Plain class) size = part_put_field_at shape class object v (lookup f.places class)
part_put_field_in shape f v object class size = part_fails (v ∷ value.Ref object ∷ []) NoSuchField

-- an object, of which a value is put into a place
part_put_into : (v : Value) (f : ℕ → ClassId → ℕ → Meaning) → ((object : ℕ) (class : ClassId) (size : ℕ) → Part (v ∷ value.Ref object ∷ []) (f object class size)) → (x : Value)
    → Part (x ∷ v ∷ []) (on_object (λ object. looking (v ∷ []) (f object) object) x)
part_put_into v f then x = part_object (v ∷ []) (λ object. looking (v ∷ []) (f object) object)
    (λ object. part_by (value.Ref object ∷ v ∷ []) (λ k all. (all.1.0, (all.0, tt))) (part_looking (v ∷ []) (f object) object (then object))) x

-- a field of a value
pub part_put_field : (shape : Shape) (f : FieldRef) (x v : Value) → Part (x ∷ v ∷ []) (put_field shape f x v)
part_put_field shape f x v = part_put_into v (put_field_in shape f v) (part_put_field_in shape f v) x

part_put_element_at : (kind : Kind) (object : ℕ) (v : Value) (place : Option ℕ) → Part (v ∷ value.Ref object ∷ []) (put_element_at kind object v place)
part_put_element_at kind object v None = part_fails (v ∷ value.Ref object ∷ []) BadIndex
part_put_element_at kind object v (Some place) = part_fitting kind object place v

part_put_element_in : (i : ℤ) (v : Value) (object : ℕ) (class : ClassId) (size : ℕ) → Part (v ∷ value.Ref object ∷ []) (put_element_in i v object class size)
part_put_element_in i v object (Array kind) size = part_put_element_at kind object v (within i size)
part_put_element_in i v object class size = part_fails (v ∷ value.Ref object ∷ []) BadValue

-- an element of a value
pub part_put_element : (x i v : Value) → Part (x ∷ v ∷ []) (put_element x i v)
part_put_element x (value.Long i) v = part_put_into v (put_element_in i v) (part_put_element_in i v) x
part_put_element x i v = part_object (v ∷ []) (λ object. Fails BadValue) (λ object. part_fails (value.Ref object ∷ v ∷ []) BadValue) x

-- a root, unless it is bound
part_bind_null : (r : ℕ) (v bound : Value) → Part (bound ∷ v ∷ value.Ref 0 ∷ []) (bind_null r v bound)
part_bind_null r v value.Null = part_by (value.Null ∷ v ∷ value.Ref 0 ∷ []) (λ k all. (inl refl, (all.1.0, tt))) (part_tell (request.Put 0 r v))
part_bind_null r v bound = part_null (bound ∷ v ∷ value.Ref 0 ∷ [])

-- what was read of it
bound_read : (r : ℕ) (v : Value) (reply : Reply) → Part (told_by reply ++ v ∷ value.Ref 0 ∷ []) (λ at. on_value (bind_null r v) (got reply at))
bound_read r v (Val bound) = part_bind_null r v bound
bound_read r v (Refused fault) = part_fails (v ∷ value.Ref 0 ∷ []) fault
bound_read r v reply = part_fails (told_by reply ++ v ∷ value.Ref 0 ∷ []) BadValue

-- a root, under its lock
pub part_put_root : (r : ℕ) (v : Value) → Part (v ∷ []) (put_root r v)
part_put_root r v = part_choose (v ∷ []) (takes kind.Ref v) (bind r v) (Fails BadValue)
    (part_under_with (v ∷ []) (Name r) grade.Write (λ at. on_value (bind_null r v) (getting (v ∷ []) 0 r at))
    (part_by (v ∷ []) (λ k all. (all.0, (inl refl, tt))) (part_request_then (v ∷ []) (request.Get 0 r) got (bind_null r v) (bound_read r v))))
    (part_fails (v ∷ []) BadValue)

-- ---- monitors and what is run

-- statements under the monitor of a value
pub part_sync : (grade : Grade) (m : Meaning) → Part [] m → (x : Value) → Part (x ∷ []) (sync grade m x)
part_sync grade m part x = part_object [] (λ object. under (Mon object) grade m) (λ object. part_under_with [] (Mon object) grade m part) x

-- after a tick a thread that waits asks for the lock again, or goes on,
ticked : (l : LockName) (m : Meaning) → Part (monitor_of l) (λ at. on_value (λ v. tell (request.Resume l)) (m at)) → (r : Reply)
    → Part (told_by r ++ monitor_of l) (λ at. on_value (λ v. tell (request.Resume l)) (unless_woken m r at))
ticked l m part (Val (value.Bool true)) = part_by (value.Bool true ∷ monitor_of l) (λ k all. all.1) (part_tell (request.Resume l))
ticked l m part (Val (value.Bool false)) = part_by (value.Bool false ∷ monitor_of l) (λ k all. all.1) part
ticked l m part (Refused fault) = part_fails (monitor_of l) fault
ticked l m part r = part_fails (told_by r ++ monitor_of l) BadValue

-- and after its timeout too
ended_wait : (l : LockName) (r : Reply) → Part (told_by r ++ monitor_of l) (λ at. on_value (λ v. tell (request.Resume l)) (timed_out r at))
ended_wait l Done = part_tell (request.Resume l)
ended_wait l (Val (value.Bool true)) = part_by (value.Bool true ∷ monitor_of l) (λ k all. all.1) (part_tell (request.Resume l))
ended_wait l (Refused fault) = part_fails (monitor_of l) fault
ended_wait l r = part_fails (told_by r ++ monitor_of l) BadValue

part_ticking : (l : LockName) (n : ℕ) → Part (monitor_of l) (ticking l n)
part_ticking l zero = part_request_then [] (request.Timeout l) timed_out (λ v. tell (request.Resume l)) (ended_wait l)
part_ticking l (suc n) = part_request_then [] (request.Tick l) (unless_woken (ticks l n)) (λ v. tell (request.Resume l)) (ticked l (ticks l n) (part_ticking l n))

part_waiting : (l : LockName) (n : ℕ) → Part (monitor_of l) (waiting l n)
part_waiting l zero = part_tell (request.Resume l)
part_waiting l (suc n) = part_ticking l (suc n)

-- a thread waits, and then asks for the lock again
pub part_wait : (n : ℕ) (l : LockName) → Part (monitor_of l) (wait n l)
part_wait n l = part_told [] (request.Wait l) (waiting l n) (part_waiting l n)

-- a wait for as many ticks as a value says
part_count : (vs : List Value) (f : ℕ → Meaning) → ((n : ℕ) → Part vs (f n)) → (v : Value) → Part vs (on_count f v)
part_count vs f then (value.Long (pos n)) = then n
part_count vs f then v = part_fails vs BadValue

-- on the monitor of another one
pub part_timed_wait : (x v : Value) → Part (x ∷ []) (timed_wait x v)
part_timed_wait x v = part_object [] (λ object. on_count (λ n. wait n (Mon object)) v) (λ object. part_count (value.Ref object ∷ []) (λ n. wait n (Mon object)) (λ n. part_wait n (Mon object)) v) x

-- one way or the other
pub part_branch : (a b : Meaning) → Part [] a → Part [] b → (v : Value) → Part [] (branch a b v)
part_branch a b part other (value.Bool true) = part
part_branch a b part other (value.Bool false) = other
part_branch a b part other v = part_fails [] BadValue

-- a loop from its condition, for any number of moves
pub part_spun : (test body : Meaning) → Part [] test → Part [] body → (k : ℕ) → Part [] (spun test body k)
part_spun test body part other zero = record { from = λ known kept u st all. part_stopped.from known kept u st all }
part_spun test body part other (suc k) = part_value [] (turn (moving (spun test body k)) body) test part
    (λ v. part_any (v ∷ []) (part_branch (λ at. on_value (λ v. moving (spun test body k)) (body at)) (Gives value.Null)
    (part_value [] (λ v. moving (spun test body k)) body other (λ v. part_any (v ∷ []) (part_moving (spun test body k) (part_spun test body part other k)))) (part_null []) v))

-- ---- arguments

-- each of the parts holds only what is known
abbrev pub Parts : List Meaning → Type 0
Parts [] = Unit {0}
Parts (m ∷ ms) = Part [] m × Parts ms

-- the arguments that are left, and then what is made of all
pub part_arguments : (f : List Value → Meaning) (x : Value) → ((vs : List Value) → Part (x ∷ vs) (f vs)) → (ms : List Meaning) (before : List Value) → Parts ms
    → Part (x ∷ before) (arguments f x ms before)
part_arguments f x then [] before parts = record { from = λ known kept u st all. (then before).from known kept u st all }
part_arguments f x then (m ∷ ms) before parts = part_beside (x ∷ before) (λ v. arguments f x ms (before ++ v ∷ [])) m parts.0
    (λ v. part_by (v ∷ x ∷ before) (λ k all. (all.1.0, both k before (v ∷ []) all.1.1 (all.0, tt))) (part_arguments f x then ms (before ++ v ∷ []) parts.1))

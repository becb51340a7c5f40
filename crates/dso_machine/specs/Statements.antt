-- What a statement means, and what a thread's code comes to.
use Rattle.std.specs.Prelude.{ℕ, zero, suc, true, false, ℤ, pos, List, [], ◌∷◌, map, slice_get, slice_set, Option}
use Rattle.std.specs.Prelude.{None, Some}
use Rattle.dso_base.specs.declared.lock.Grade.{Grade}
use Rattle.dso_base.specs.declared.lock.Grade.TheVariants as grade
use Rattle.dso_base.specs.declared.lock.LockName.{LockName}
use Rattle.dso_base.specs.declared.lock.LockName.TheVariants.{Mon, Name}
use Rattle.dso_base.specs.declared.request.Fault.TheVariants.{NoSuchField, BadValue, BadIndex}
use Rattle.dso_base.specs.declared.request.Reply.{Reply}
use Rattle.dso_base.specs.declared.request.Reply.TheVariants.{Done, Val}
use Rattle.dso_base.specs.declared.request.Request.TheVariants as request
use Rattle.dso_base.specs.declared.shape.Shape.{Shape}
use Rattle.dso_base.specs.declared.value.ClassId.{ClassId}
use Rattle.dso_base.specs.declared.value.ClassId.TheVariants.{Plain, Array}
use Rattle.dso_base.specs.declared.value.Kind.{Kind}
use Rattle.dso_base.specs.declared.value.Kind.TheVariants as kind
use Rattle.dso_base.specs.declared.value.Value.{Value}
use Rattle.dso_base.specs.declared.value.Value.TheVariants as value
use Rattle.dso_base.specs.Shape.{kind_of}
use Rattle.dso_machine.specs.declared.code.Code.{Code}
use Rattle.dso_machine.specs.declared.code.Method.{Method}
use Rattle.dso_machine.specs.declared.tree.FieldRef.{FieldRef}
use Rattle.dso_machine.specs.declared.tree.Expr.{Expr}
use Rattle.dso_machine.specs.declared.tree.Stmt.{Stmt, Stmt-F, fold-Stmt}
use Rattle.dso_machine.specs.declared.tree.Stmt.TheOpen as s
use Rattle.dso_machine.specs.Calls.{lookup, MethodMeanings}
use Rattle.dso_machine.specs.Expressions.{within, expr}
use Rattle.dso_machine.specs.Outcome.{Gives, Leaves, Fails, Stopped, Meaning, choose, on_value, on_reply, on_next}
use Rattle.dso_machine.specs.Outcome.{on_next_beside, ask, unwanted, tell, getting, put, looking, on_object, moving}
use Rattle.dso_machine.specs.Outcome.{under, under_with}
use Rattle.dso_machine.specs.Values.{takes}

-- ---- what is written

-- a variable is given a value
abbrev pub assign : ℕ → Value → Meaning
assign i v at =
    Gives value.Null (record at { environment = record at.environment { vars = slice_set at.environment.vars i v } })

-- a field or an element of this kind is given a value
abbrev pub put_fitting : Kind → ℕ → ℕ → Value → Meaning
put_fitting kind object place v at = choose (takes kind v) (put object place v) (Fails BadValue) at

-- the field that was found, in an object of this class
abbrev pub put_field_at : Shape → ℕ → ℕ → Value → Option ℕ → Meaning
put_field_at shape class object v None at = Fails NoSuchField at
put_field_at shape class object v (Some place) at = put_fitting (kind_of shape (Plain class) place) object place v at

-- a field of an object of this class: an array has none
abbrev pub put_field_in : Shape → FieldRef → Value → ℕ → ClassId → ℕ → Meaning
put_field_in shape f v object (Plain class) size at = put_field_at shape class object v (lookup f.places class) at
put_field_in shape f v object class size at = Fails NoSuchField at

-- a field of a value
abbrev pub put_field : Shape → FieldRef → Value → Value → Meaning
put_field shape f x v = on_object (λ object. looking (v ∷ []) (put_field_in shape f v object) object) x

-- the element that was found
abbrev pub put_element_at : Kind → ℕ → Value → Option ℕ → Meaning
put_element_at kind object v None at = Fails BadIndex at
put_element_at kind object v (Some place) at = put_fitting kind object place v at

-- an element of an object of this class, which is to be an array
abbrev pub put_element_in : ℤ → Value → ℕ → ClassId → ℕ → Meaning
put_element_in i v object (Array kind) size at = put_element_at kind object v (within i size) at
put_element_in i v object class size at = Fails BadValue at

-- an element of a value, at an index that is to be a long
abbrev pub put_element : Value → Value → Value → Meaning
put_element x (value.Long i) v = on_object (λ object. looking (v ∷ []) (put_element_in i v object) object) x
put_element x i v = on_object (λ object. Fails BadValue) x

-- the first assignment binds a root: one that is bound stays
abbrev pub bind_null : ℕ → Value → Value → Meaning
bind_null r v value.Null at = put 0 r v at
bind_null r v bound at = Gives value.Null at

-- a root is bound, under its lock
abbrev pub bind : ℕ → Value → Meaning
bind r v = under_with (v ∷ []) (Name r) grade.Write (λ at. on_value (bind_null r v) (getting (v ∷ []) 0 r at))

-- a root is given a value
abbrev pub put_root : ℕ → Value → Meaning
put_root r v at = choose (takes kind.Ref v) (bind r v) (Fails BadValue) at

-- ---- monitors

-- statements under the monitor of a value
abbrev pub sync : Grade → Meaning → Value → Meaning
sync grade m = on_object (λ object. under (Mon object) grade m)

-- a tick told the thread whether it was woken: then its ticks are over, else it goes on
abbrev pub unless_woken : Meaning → Reply → Meaning
unless_woken m (Val (value.Bool woken)) at = choose woken (Gives value.Null) m at
unless_woken m r at = unwanted r at

-- the wait is over: it timed out, or the thread was woken before
abbrev pub timed_out : Reply → Meaning
timed_out Done at = Gives value.Null at
timed_out (Val (value.Bool true)) at = Gives value.Null at
timed_out r at = unwanted r at

-- a thread that waits asks, up to so many times, whether it was woken; where it never was, the wait times out
abbrev pub ticks : LockName → ℕ → Meaning
ticks l zero at = on_reply timed_out (ask (request.Timeout l) at)
ticks l (suc n) at = on_reply (unless_woken (ticks l n)) (ask (request.Tick l) at)

-- after at most so many ticks a thread that waits has the lock again
abbrev pub ticking : LockName → ℕ → Meaning
ticking l n at = on_value (λ v. tell (request.Resume l)) (ticks l n at)

-- a thread that waits has the lock again, after at most so many ticks; 0 stands for no limit
abbrev pub waiting : LockName → ℕ → Meaning
waiting l zero at = tell (request.Resume l) at
waiting l (suc n) at = ticking l (suc n) at

-- a thread waits for a notification, or for at most so many ticks, and then has the lock again; 0 stands for no limit
abbrev pub wait : ℕ → LockName → Meaning
wait n l at = on_value (λ v. waiting l n) (tell (request.Wait l) at)

-- the value is to be a long that isn't negative
abbrev pub on_count : (ℕ → Meaning) → Value → Meaning
on_count f (value.Long (pos n)) at = f n at
on_count f v at = Fails BadValue at

-- a thread waits on the monitor of a value, for as many ticks as the other one says
abbrev pub timed_wait : Value → Value → Meaning
timed_wait x v = on_object (λ object. on_count (λ n. wait n (Mon object)) v) x

-- ---- what is run

-- one after the other
abbrev pub seq : List Meaning → Meaning
seq [] at = Gives value.Null at
seq (m ∷ ms) at = on_value (λ v. seq ms) (m at)

-- one way or the other, by a value that is to be a boolean
abbrev pub branch : Meaning → Meaning → Value → Meaning
branch a b (value.Bool true) at = a at
branch a b (value.Bool false) at = b at
branch a b v at = Fails BadValue at

-- a loop after its condition: the body and the loop again, or its end
abbrev pub turn : Meaning → Meaning → Value → Meaning
turn again body = branch (λ at. on_value (λ v. again) (body at)) (Gives value.Null)

-- the evaluation of a loop's condition, which a move has started, and what follows, for at most so many moves
abbrev pub spun : Meaning → Meaning → ℕ → Meaning
spun test body zero at = Stopped
spun test body (suc k) at = on_value (turn (moving (spun test body k)) body) (test at)

-- ---- all forms

-- a body is left with a value, or with null
abbrev pub returned : Code → MethodMeanings → Option Expr → Meaning
returned code bodies None at = Leaves value.Null at
returned code bodies (Some a) at = on_value Leaves (expr code bodies a at)

-- What a statement means, by what the statements in it mean, for at most n moves. Nobody looks at the value that it
-- gives.
abbrev pub stmt_step : Code → MethodMeanings → ℕ → Stmt-F Meaning → Meaning
stmt_step code bodies n (s.Assign i a) at = on_value (assign i) (expr code bodies a at)
stmt_step code bodies n (s.PutField a f b) at =
    on_value (on_next (put_field code.shape f) (expr code bodies b)) (expr code bodies a at)
stmt_step code bodies n (s.PutElem a b c) at =
    on_value (on_next (λ x. on_next_beside (x ∷ []) (put_element x) (expr code bodies c)) (expr code bodies b))
    (expr code bodies a at)
stmt_step code bodies n (s.PutRoot r a) at = on_value (put_root r) (expr code bodies a at)
stmt_step code bodies n (s.Eval a) at = expr code bodies a at
stmt_step code bodies n (s.If a yes_block no_block) at =
    on_value (branch (seq yes_block) (seq no_block)) (expr code bodies a at)
stmt_step code bodies n (s.While a body) at = moving (spun (expr code bodies a) (seq body) n) at
stmt_step code bodies n (s.Sync a grade body) at = on_value (sync grade (seq body)) (expr code bodies a at)
stmt_step code bodies n (s.Wait a) at = on_value (on_object (λ object. wait 0 (Mon object))) (expr code bodies a at)
stmt_step code bodies n (s.TimedWait a b) at = on_value (on_next timed_wait (expr code bodies b))
    (expr code bodies a at)
stmt_step code bodies n (s.Notify a) at =
    on_value (on_object (λ object. tell (request.Notify (Mon object)))) (expr code bodies a at)
stmt_step code bodies n (s.NotifyAll a) at =
    on_value (on_object (λ object. tell (request.NotifyAll (Mon object)))) (expr code bodies a at)
stmt_step code bodies n (s.Print a) at = on_value (λ v. tell (request.Print v)) (expr code bodies a at)
stmt_step code bodies n (s.Return a) at = returned code bodies a at

-- what a statement means
abbrev pub stmt : Code → MethodMeanings → ℕ → Stmt → Meaning
stmt code bodies n = fold-Stmt Meaning (stmt_step code bodies n)

-- what statements mean, one after the other
abbrev pub block : Code → MethodMeanings → ℕ → List Stmt → Meaning
block code bodies n ss = seq (map (stmt code bodies n) ss)

-- the statements of a method
abbrev pub statements_of : Option Method → List Stmt
statements_of None = []
statements_of (Some method) = method.body

-- what the methods mean, for at most n moves one inside another
abbrev pub methods : Code → ℕ → MethodMeanings
methods code zero = λ m at. Stopped
methods code (suc n) = λ m at. block code (methods code n) n (statements_of (slice_get code.methods m)) at

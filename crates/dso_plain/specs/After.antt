-- What an event leaves: what it writes into each part of the state.
use Rattle.std.specs.Prelude.{ℕ, zero, suc, ◌-◌, Bool, true, false, cond, eqb, ltb, ◌&&◌, ◌||◌, is_some, pos}
use Rattle.std.specs.Prelude.{Option, Some, None, List, [], ◌∷◌, length}
use Rattle.dso_base.specs.declared.lock.Level.{Level}
use Rattle.dso_base.specs.declared.lock.Level.TheVariants.{Write}
use Rattle.dso_base.specs.declared.lock.LockName.{LockName}
use Rattle.dso_base.specs.declared.lock.ThreadId.{ThreadId}
use Rattle.dso_base.specs.declared.request.Event.{Event}
use Rattle.dso_base.specs.declared.request.Event.TheVariants.{Act, Lost}
use Rattle.dso_base.specs.declared.request.Fault.{Fault}
use Rattle.dso_base.specs.declared.request.Reply.{Reply}
use Rattle.dso_base.specs.declared.request.Reply.TheVariants.{Done, Made, Val}
use Rattle.dso_base.specs.declared.request.Request.{Request}
use Rattle.dso_base.specs.declared.request.Request.TheVariants.{New, Look, Get, Put, Enter, Exit, Wait, Tick, Timeout}
use Rattle.dso_base.specs.declared.request.Request.TheVariants.{Resume, Notify, NotifyAll, Print, End, Pause, Settle}
use Rattle.dso_base.specs.declared.shape.Shape.{Shape}
use Rattle.dso_base.specs.declared.value.ClassId.{ClassId}
use Rattle.dso_base.specs.declared.value.Value.{Value}
use Rattle.dso_base.specs.declared.value.Value.TheVariants as value
use Rattle.dso_base.specs.Block.{opening_value}
use Rattle.dso_base.specs.Shape.{kind_of}
use Rattle.dso_base.specs.Reach.{reach}
use Rattle.dso_base.specs.Following.{is_thread}
use Rattle.dso_plain.specs.KeyTests.{is_lock, is_field, is_place, is_view}
use Rattle.dso_lookup.specs.Maps.{writes, nowhere, written}
use Rattle.dso_plain.specs.State.{Object, Hold, PlainState, is_mine, is_shared, size_of, hold_on_guard}

-- What an event writes: for each part of the state the new value at each key, None where it writes nothing there.
pub record Change : Type 0 where
  pub objects : ℕ → Option (Option Object)
  pub made : ThreadId → Option (List ℕ)
  pub heap : ℕ × ℕ → Option (Option Value)
  pub past : ℕ × ℕ → Option (List Value)
  pub seen : ThreadId × ℕ × ℕ → Option ℕ
  pub monitors : LockName × ThreadId → Option (Option Hold)
  pub asleep : LockName × ThreadId → Option (Option ℕ)
  pub marked : LockName × ThreadId → Option Bool
  pub output : ThreadId → Option (List Value)
  pub ended : ThreadId → Option (Option (Option Fault))
  pub lost : ℕ → Option Bool
  pub unguarded : Bool  -- whether it is an unguarded read

-- nothing is written
abbrev pub nothing : Change
nothing = record {
  objects = nowhere;
  made = nowhere;
  heap = nowhere;
  past = nowhere;
  seen = nowhere;
  monitors = nowhere;
  asleep = nowhere;
  marked = nowhere;
  output = nowhere;
  ended = nowhere;
  lost = nowhere;
  unguarded = false;
}

-- the opening value of a field of a new object of this class and size, None where it has no such field
abbrev pub opening_field : Shape → ClassId → ℕ → ℕ → Option Value
opening_field shape class n f = cond (ltb f n) (Some (opening_value (kind_of shape class f))) None

-- an object of this class and size, private to the thread
abbrev pub new_object : ThreadId → ClassId → ℕ → Object
new_object t class n = record { class = class; size = n; owner = Some t }

-- New: the object stands in the heap with opening values, private to the thread.
abbrev pub made_new : Shape → ThreadId → ClassId → ℕ → ℕ → PlainState → Change
made_new shape t class n o s = record nothing {
  objects = writes (λ key. eqb key o) (λ key. Some (new_object t class n));
  made = writes (is_thread t) (λ key. o ∷ s.made t);
  heap = writes (λ key. eqb key.0 o) (λ key. opening_field shape class n key.1);
}

-- Get: nothing for an object with an owner; under the guard the thread has seen the last place of the past; without
-- it the count of unguarded reads goes up.
abbrev pub read_shared : ThreadId → ℕ → ℕ → Option Hold → PlainState → Change
read_shared t o f None s = record nothing { unguarded = true }
read_shared t o f (Some hold) s = record nothing { seen = writes (is_view t o f) (λ key. length (s.past (o, f)) - 1) }

-- of a shared object so, of any other nothing
abbrev pub read : Shape → ThreadId → ℕ → ℕ → Bool → PlainState → Change
read shape t o f true s = read_shared t o f (hold_on_guard shape t o f s) s
read shape t o f false s = nothing

-- whether the field of this object holds a reference to o
abbrev pub holds_reference : ℕ → Option Value → Bool
holds_reference o (Some (value.Ref named)) = eqb named o
holds_reference o v = false

-- whether one of the first n fields of object a holds a reference to o
abbrev pub names_below : (ℕ × ℕ → Option Value) → ℕ → ℕ → ℕ → Bool
names_below heap zero a o = false
names_below heap (suc n) a o = holds_reference o (heap (a, n)) || names_below heap n a o

-- whether a field of object a holds a reference to o
abbrev pub names : PlainState → ℕ → ℕ → Bool
names s a o = names_below s.heap (size_of (s.objects a)) a o

-- Publishing: the objects private to the thread that are found from the value.
abbrev pub published : ThreadId → Value → PlainState → ℕ → Bool
published t v s o = reach (is_mine t s) (names s) (s.made t) v o

-- the object without its owner
abbrev pub shared : Option Object → Option Object
shared None = None
shared (Some object) = Some (record object { owner = None })

-- the past that a field has as its object becomes shared: its present value alone, and none where there is no field
abbrev pub present : Option Value → List Value
present None = []
present (Some v) = v ∷ []

-- Put: the value is the heap's. In a shared object it also ends the field's past, the thread has seen that place,
-- and what is found from the value becomes shared, each field of it with its present value as its past.
abbrev pub put : ThreadId → ℕ → ℕ → Value → Bool → PlainState → Change
put t o f v true s = record nothing {
  objects = writes (published t v s) (λ key. shared (s.objects key));
  heap = writes (is_field o f) (λ key. Some v);
  past = λ key. cond (is_field o f key) (Some (v ∷ s.past (o, f)))
      (writes (λ key. published t v s key.0) (λ key. present (s.heap key)) key);
  seen = writes (is_view t o f) (λ key. length (s.past (o, f)));
}
put t o f v false s = record nothing { heap = writes (is_field o f) (λ key. Some v) }

-- the hold after one more entry: the count goes up, or a new hold at that level begins with 1
abbrev pub entered : Level → Option Hold → Option Hold
entered level None = Some (record { level = level; count = 1 })
entered level (Some hold) = Some (record { level = hold.level; count = suc hold.count })

-- the hold after one exit: the count goes down, and at 0 the hold is gone
abbrev pub exited : Option Hold → Option Hold
exited None = None
exited (Some hold) = cond (eqb hold.count 1) None (Some (record { level = hold.level; count = hold.count - 1 }))

-- the count of a hold
abbrev pub count_of : Option Hold → ℕ
count_of None = 0
count_of (Some hold) = hold.count

-- the hold that a waiter has again: at Write, with its count
abbrev pub resumed : Option ℕ → Option Hold
resumed None = None
resumed (Some count) = Some (record { level = Write; count = count })

-- Wait: the hold goes to the waits with its count, unmarked.
abbrev pub waits : ThreadId → LockName → PlainState → Change
waits t l s = record nothing {
  monitors = writes (is_place l t) (λ key. None);
  asleep = writes (is_place l t) (λ key. Some (count_of (s.monitors (l, t))));
  marked = writes (is_place l t) (λ key. false);
}

-- Timeout: the thread is marked in the waits of the lock.
abbrev pub times_out : ThreadId → LockName → Change
times_out t l = record nothing { marked = writes (is_place l t) (λ key. true) }

-- Resume: the thread holds the lock at Write with that count, and leaves the waits.
abbrev pub resumes : ThreadId → LockName → PlainState → Change
resumes t l s = record nothing {
  monitors = writes (is_place l t) (λ key. resumed (s.asleep (l, t)));
  asleep = writes (is_place l t) (λ key. None);
  marked = writes (is_place l t) (λ key. false);
}

-- Notify: the one woken is marked.
abbrev pub notifies : LockName → Option ThreadId → Change
notifies l None = nothing
notifies l (Some w) = record nothing { marked = writes (is_place l w) (λ key. true) }

-- NotifyAll: all waiters of the lock are marked.
abbrev pub notifies_all : LockName → PlainState → Change
notifies_all l s = record nothing { marked = writes (λ key. is_lock l key.0 && is_some (s.asleep key)) (λ key. true) }

-- what an act writes, by its request and reply; what no line writes stays as it is
abbrev pub change_of : Shape → ThreadId → Request → Reply → Option ThreadId → PlainState → Change
change_of shape t (New class n) (Made o) woken s = made_new shape t class n o s
change_of shape t (New class n) reply woken s = nothing
change_of shape t (Look o) reply woken s = nothing
change_of shape t (Get o f) (Val v) woken s = read shape t o f (is_shared (s.objects o)) s
change_of shape t (Get o f) reply woken s = nothing
change_of shape t (Put o f v) Done woken s = put t o f v (is_shared (s.objects o)) s
change_of shape t (Put o f v) reply woken s = nothing
change_of shape t (Enter l level) Done woken s = record nothing
    { monitors = writes (is_place l t) (λ key. entered level (s.monitors (l, t))) }
change_of shape t (Enter l level) reply woken s = nothing
change_of shape t (Exit l) Done woken s = record nothing
    { monitors = writes (is_place l t) (λ key. exited (s.monitors (l, t))) }
change_of shape t (Exit l) reply woken s = nothing
change_of shape t (Wait l) Done woken s = waits t l s
change_of shape t (Wait l) reply woken s = nothing
change_of shape t (Tick l) reply woken s = nothing
change_of shape t (Timeout l) Done woken s = times_out t l
change_of shape t (Timeout l) reply woken s = nothing
change_of shape t (Resume l) Done woken s = resumes t l s
change_of shape t (Resume l) reply woken s = nothing
change_of shape t (Notify l) Done woken s = notifies l woken
change_of shape t (Notify l) reply woken s = nothing
change_of shape t (NotifyAll l) Done woken s = notifies_all l s
change_of shape t (NotifyAll l) reply woken s = nothing
change_of shape t (Print v) Done woken s = record nothing { output = writes (is_thread t) (λ key. v ∷ s.output t) }
change_of shape t (Print v) reply woken s = nothing
change_of shape t (End fault) Done woken s = record nothing { ended = writes (is_thread t) (λ key. Some fault) }
change_of shape t (End fault) reply woken s = nothing
change_of shape t Pause reply woken s = nothing
change_of shape t Settle reply woken s = nothing

-- The loss of a client: its threads leave the monitors and the waits.
abbrev pub loses : ℕ → Change
loses client = record nothing {
  monitors = writes (λ key. eqb key.1.client client) (λ key. None);
  asleep = writes (λ key. eqb key.1.client client) (λ key. None);
  marked = writes (λ key. eqb key.1.client client) (λ key. false);
  lost = writes (λ key. eqb key client) (λ key. true);
}

-- what an event writes
abbrev pub change : Shape → Event → PlainState → Change
change shape (Act t request reply woken) s = change_of shape t request reply woken s
change shape (Lost client) s = loses client

-- one more where the test holds
abbrev pub counted : Bool → ℕ → ℕ
counted true n = suc n
counted false n = n

-- the state with the change written into each part
abbrev pub apply : Change → PlainState → PlainState
apply c s = record {
  objects = written c.objects s.objects;
  made = written c.made s.made;
  heap = written c.heap s.heap;
  past = written c.past s.past;
  seen = written c.seen s.seen;
  monitors = written c.monitors s.monitors;
  asleep = written c.asleep s.asleep;
  marked = written c.marked s.marked;
  output = written c.output s.output;
  ended = written c.ended s.ended;
  lost = written c.lost s.lost;
  unguarded = counted c.unguarded s.unguarded;
}

-- the state after an event
abbrev pub after : Shape → Event → PlainState → PlainState
after shape e s = apply (change shape e s) s

-- The state of one heap with plain monitors: look-ups by key.
use Rattle.std.specs.Prelude.{ℕ, ◌<◌, ◌≡◌, ◌≢◌, Bool, true, false, cond, eqb, ltb, ◌&&◌, is_none, Option, Some, None}
use Rattle.std.specs.Prelude.{List, [], ◌∷◌}
use Rattle.dso_base.specs.declared.lock.Level.{Level}
use Rattle.dso_base.specs.declared.lock.LockName.{LockName}
use Rattle.dso_base.specs.declared.lock.LockName.TheVariants.{Mon}
use Rattle.dso_base.specs.declared.lock.ThreadId.{ThreadId}
use Rattle.dso_base.specs.declared.request.Fault.{Fault}
use Rattle.dso_base.specs.declared.shape.Shape.{Shape}
use Rattle.dso_base.specs.declared.value.ClassId.{ClassId}
use Rattle.dso_base.specs.declared.value.ClassId.TheVariants as class
use Rattle.dso_base.specs.declared.value.Value.{Value}
use Rattle.dso_base.specs.declared.value.Value.TheVariants as value
use Rattle.dso_base.specs.Shape.{guard_of}
use Rattle.dso_base.specs.Following.{is_thread}

-- an object: its class, the number of its fields or elements, and the thread it is private to; None is shared
pub record Object : Type 0 where
  pub class : ClassId
  pub size : ℕ
  pub owner : Option ThreadId

-- how a thread holds a lock: at the level of its first entry, and how often it entered
pub record Hold : Type 0 where
  pub level : Level
  pub count : ℕ

-- One heap, its monitors and its threads. Each part is a look-up by key; a thread that waits has its part in two
-- look-ups, since it writes the one and others write the other.
pub record PlainState : Type 0 where
  pub objects : ℕ → Option Object  -- by id; None where there is no such object
  pub made : ThreadId → List ℕ  -- the objects that the thread made, the newest first
  pub heap : ℕ × ℕ → Option Value  -- object and field; None where the object has no such field
  pub past : ℕ × ℕ → List Value  -- the values of a shared object's field since it is shared, the newest first
  pub seen : ThreadId × ℕ × ℕ → ℕ  -- the place in the past that the thread has seen, counted from the oldest, 0
  pub monitors : LockName × ThreadId → Option Hold  -- None where the thread does not hold the lock
  pub asleep : LockName × ThreadId → Option ℕ  -- the count of the hold that a waiting thread is to have again
  pub marked : LockName × ThreadId → Bool  -- whether the waiting thread was notified or has timed out
  pub output : ThreadId → List Value  -- what the thread printed, the newest first
  pub ended : ThreadId → Option (Option Fault)  -- None where it has not ended; else its fault, if any
  pub lost : ℕ → Bool  -- the lost clients
  pub unguarded : ℕ  -- how many unguarded reads there were

-- a root's field of object 0
abbrev pub is_root : Shape → ℕ × ℕ → Bool
is_root shape key = eqb key.0 0 && ltb key.1 shape.roots

-- object 0: of class Roots, with one field for each root, shared
abbrev pub roots_object : Shape → Object
roots_object shape = record { class = class.Roots; size = shape.roots; owner = None }

-- Before the first step: object 0 of class Roots, shared, with one null field for each root, and nothing else.
abbrev pub opening : Shape → PlainState
opening shape = record {
  objects = λ o. cond (eqb o 0) (Some (roots_object shape)) None;
  made = λ t. [];
  heap = λ key. cond (is_root shape key) (Some value.Null) None;
  past = λ key. cond (is_root shape key) (value.Null ∷ []) [];
  seen = λ key. 0;
  monitors = λ key. None;
  asleep = λ key. None;
  marked = λ key. false;
  output = λ t. [];
  ended = λ t. None;
  lost = λ c. false;
  unguarded = 0;
}

-- whether the thread is the owner
abbrev pub is_owner : ThreadId → Option ThreadId → Bool
is_owner t None = false
is_owner t (Some owner) = is_thread t owner

-- whether the object is there and private to the thread
abbrev pub is_private_to : ThreadId → Option Object → Bool
is_private_to t None = false
is_private_to t (Some object) = is_owner t object.owner

-- whether the object of this id is private to the thread
abbrev pub is_mine : ThreadId → PlainState → ℕ → Bool
is_mine t s o = is_private_to t (s.objects o)

-- whether the object is there and shared
abbrev pub is_shared : Option Object → Bool
is_shared None = false
is_shared (Some object) = is_none object.owner

-- how many fields or elements the object has, 0 where there is none
abbrev pub size_of : Option Object → ℕ
size_of None = 0
size_of (Some object) = object.size

-- the object is private to the thread
abbrev pub IsPrivate : ThreadId → ℕ → PlainState → Type 0
IsPrivate t o s = is_private_to t (s.objects o) ≡ true

-- the object is shared
abbrev pub IsShared : ℕ → PlainState → Type 0
IsShared o s = is_shared (s.objects o) ≡ true

-- the object has the field
abbrev pub HasField : ℕ → ℕ → PlainState → Type 0
HasField o f s = f < size_of (s.objects o)

-- the level of a hold, if there is one
abbrev pub level_of : Option Hold → Option Level
level_of None = None
level_of (Some hold) = Some hold.level

-- the lock that guards a field of an object: what its class says, and the object's monitor where there is no object
abbrev pub guard_of_object : Shape → Option Object → ℕ → ℕ → LockName
guard_of_object shape None o f = Mon o
guard_of_object shape (Some object) o f = guard_of shape object.class o f

-- the lock that guards a field in this state
abbrev pub guard_in : Shape → PlainState → ℕ → ℕ → LockName
guard_in shape s o f = guard_of_object shape (s.objects o) o f

-- how the thread holds the guard of a field, None where it does not
abbrev pub hold_on_guard : Shape → ThreadId → ℕ → ℕ → PlainState → Option Hold
hold_on_guard shape t o f s = s.monitors (guard_in shape s o f, t)

-- the thread holds the guard of the field
abbrev pub HoldsGuard : Shape → ThreadId → ℕ → ℕ → PlainState → Type 0
HoldsGuard shape t o f s = hold_on_guard shape t o f s ≢ None

-- the thread holds no lock
abbrev pub HoldsNothing : ThreadId → PlainState → Type 0
HoldsNothing t s = (l : LockName) → s.monitors (l, t) ≡ None

-- What a thread can tell of the heap by its own events: its locks, classes that it saw, objects that are surely shared, and
-- objects that are surely its own still.
use Rattle.std.proofs.Common.{◌≡◌, ◌⊎◌, inl, inr, refl, ℕ, ◌≤◌, Bool, true, false, cond, eqb, ◌||◌, ◌&&◌, Option, None, Some, sym, ap, ◌∙◌}
use Rattle.dso_base.specs.declared.lock.Level.{Level}
use Rattle.dso_base.specs.declared.lock.Level.TheVariants.{Read, Write}
use Rattle.dso_base.specs.declared.lock.LockName.{LockName}
use Rattle.dso_base.specs.declared.lock.LockName.TheVariants.{Mon, Name}
use Rattle.dso_base.specs.declared.request.Reply.{Reply}
use Rattle.dso_base.specs.declared.request.Reply.TheVariants.{Done, Seen, Val, Local}
use Rattle.dso_base.specs.declared.request.Request.{Request}
use Rattle.dso_base.specs.declared.request.Request.TheVariants.{New, Look, Get, Put, Enter, Exit, Wait, Tick, Timeout, Resume, Notify, NotifyAll, Print, End, Pause, Settle}
use Rattle.dso_base.specs.declared.shape.Shape.{Shape}
use Rattle.dso_base.specs.declared.value.ClassId.{ClassId}
use Rattle.dso_base.specs.declared.value.ClassId.TheVariants.{Roots}
use Rattle.dso_base.specs.declared.value.Value.{Value}
use Rattle.dso_base.specs.declared.value.Value.TheVariants as value
use Rattle.dso_base.specs.Following.{IsListed}
use Rattle.dso_base.specs.Shape.{guard_of}
use Rattle.dso_plain.specs.KeyTests.{is_lock}
use Rattle.dso_plain.specs.State.{Hold, level_of}
use Rattle.dso_plain.specs.After.{entered, exited, resumed, count_of}

pub record View : Type 0 where
  pub holds : LockName → Option Hold
  pub asleep : LockName → Option ℕ
  pub class : ℕ → Option ClassId
  pub shared : ℕ → Bool
  pub own : ℕ → Bool

-- at first it holds nothing and knows the roots' object
abbrev pub first : View
first = record { holds = λ l. None; asleep = λ l. None; class = λ o. cond (eqb o 0) (Some Roots) None; shared = λ o. eqb o 0; own = λ o. false }

-- a function with another value where the test holds
abbrev pub set : {K V : Type 0} → (K → Bool) → V → (K → V) → K → V
set test v old key = cond (test key) v (old key)

-- a lock that was entered is a monitor of a shared object, or a name
abbrev pub shared_by : LockName → (ℕ → Bool) → ℕ → Bool
shared_by (Mon o) shared k = eqb k o || shared k
shared_by (Name n) shared k = shared k

abbrev pub own_by : LockName → (ℕ → Bool) → ℕ → Bool
own_by (Mon o) own k = eqb k o || own k
own_by (Name n) own k = own k

-- what is read from a shared object is shared
abbrev pub shared_read : ℕ → Value → (ℕ → Bool) → ℕ → Bool
shared_read o (value.Ref p) shared k = (eqb k p && shared o) || shared k
shared_read o v shared k = shared k

-- a reference that is stored may publish what was the thread's own, unless it is stored in what is surely its own
abbrev pub own_stored : ℕ → Value → (ℕ → Bool) → ℕ → Bool
own_stored o (value.Ref p) own k = own o && own k
own_stored o v own k = own k

-- the view after a request and its reply
abbrev pub viewed : Request → Reply → View → View
viewed (Enter l level) Done g = record g { holds = set (is_lock l) (entered level (g.holds l)) g.holds; shared = shared_by l g.shared }
viewed (Enter l level) Local g = record g { own = own_by l g.own }
viewed (Enter l level) r g = g
viewed (Exit l) Done g = record g { holds = set (is_lock l) (exited (g.holds l)) g.holds }
viewed (Exit l) r g = g
viewed (Wait l) Done g = record g { holds = set (is_lock l) None g.holds; asleep = set (is_lock l) (Some (count_of (g.holds l))) g.asleep }
viewed (Wait l) r g = g
viewed (Resume l) Done g = record g { holds = set (is_lock l) (resumed (g.asleep l)) g.holds; asleep = set (is_lock l) None g.asleep }
viewed (Resume l) r g = g
viewed (Look o) (Seen class n) g = record g { class = set (λ k. eqb k o) (Some class) g.class }
viewed (Look o) r g = g
viewed (Get o f) (Val v) g = record g { shared = shared_read o v g.shared }
viewed (Get o f) r g = g
viewed (Put o f v) Done g = record g { own = own_stored o v g.own }
viewed (Put o f v) r g = g
viewed (New class n) r g = g
viewed (Tick l) r g = g
viewed (Timeout l) r g = g
viewed (Notify l) r g = g
viewed (NotifyAll l) r g = g
viewed (Print v) r g = g
viewed (End fault) r g = g
viewed Pause r g = g
viewed Settle r g = g

-- the lock is held, and for a write at Write
pub record Held (g : View) (l : LockName) (write : Bool) : Type 0 where
  pub hold : Hold
  pub there : g.holds l ≡ Some hold
  pub allows : write ≡ true → hold.level ≡ Write

-- the field's guard is held so, or the object is surely the thread's own
abbrev pub Guarded : Shape → View → ℕ → ℕ → Bool → Type 0
Guarded shape g o f write = (g.own o ≡ true) ⊎ ((class : ClassId) × (g.class o ≡ Some class) × Held g (guard_of shape class o f) write)

-- the lock isn't held at Read
abbrev pub NotRead : View → LockName → Type 0
NotRead g l = level_of (g.holds l) ≡ Some Read → ⊥

abbrev pub EntersSafely : View → LockName → Level → Type 0
EntersSafely g l Read = Unit {0}
EntersSafely g l Write = NotRead g l

-- the request can't be refused by one of the four faults, nor read without guard
abbrev pub Safe : Shape → View → Request → Type 0
Safe shape g (Get o f) = Guarded shape g o f false
Safe shape g (Put o f v) = Guarded shape g o f true
Safe shape g (Enter l level) = EntersSafely g l level
Safe shape g q = Unit {0}

-- a wait that is answered Done is of a lock that is held at Write
abbrev pub WaitsHeld : View → Request → Reply → Type 0
WaitsHeld g (Wait l) Done = level_of (g.holds l) ≡ Some Write
WaitsHeld g q r = Unit {0}

-- an object that was seen is of the class that it was of
abbrev pub SeesSame : View → Request → Reply → Type 0
SeesSame g (Look o) (Seen class n) = (other : ClassId) → g.class o ≡ Some other → other ≡ class
SeesSame g q r = Unit {0}

-- what is private is the monitor of an object that isn't shared
abbrev pub LocalIsOwn : View → Request → Reply → Type 0
LocalIsOwn g (Enter (Name n) level) Local = ⊥
LocalIsOwn g (Enter (Mon o) level) Local = g.shared o ≡ true → ⊥
LocalIsOwn g q r = Unit {0}

-- a hold counts its entries
abbrev pub Counts : Option Hold → Type 0
Counts None = Unit {0}
Counts (Some hold) = 1 ≤ hold.count

-- the reply may come
pub record MayCome (g : View) (q : Request) (r : Reply) : Type 0 where
  pub listed : IsListed q r
  pub waits : WaitsHeld g q r
  pub sees : SeesSame g q r
  pub own : LocalIsOwn g q r

-- the same locks, and no less is known; `quiet`: nothing was published
pub record Later (quiet : Type 0) (g h : View) : Type 0 where
  pub holds : (l : LockName) → h.holds l ≡ g.holds l
  pub class : (o : ℕ) (class : ClassId) → g.class o ≡ Some class → h.class o ≡ Some class
  pub shared : (o : ℕ) → g.shared o ≡ true → h.shared o ≡ true
  pub own : quiet → (o : ℕ) → g.own o ≡ true → h.own o ≡ true

pub later_itself : (quiet : Type 0) (g : View) → Later quiet g g
later_itself quiet g = record { holds = λ l. refl; class = λ o c is. is; shared = λ o is. is; own = λ q o is. is }

pub later_then : (quiet : Type 0) (g h i : View) → Later quiet g h → Later quiet h i → Later quiet g i
later_then quiet g h i a b = record {
  holds = λ l. b.holds l ∙ a.holds l;
  class = λ o c is. b.class o c (a.class o c is);
  shared = λ o is. b.shared o (a.shared o is);
  own = λ q o is. b.own q o (a.own q o is);
}

-- what was quiet is later in any case
pub later_any : (quiet more : Type 0) (g h : View) → (quiet → more) → Later more g h → Later quiet g h
later_any quiet more g h so a = record { holds = a.holds; class = a.class; shared = a.shared; own = λ q. a.own (so q) }

pub held_later : (quiet : Type 0) (g h : View) → Later quiet g h → (l : LockName) (write : Bool) → Held g l write → Held h l write
held_later quiet g h a l write held = record { hold = held.hold; there = a.holds l ∙ held.there; allows = held.allows }

pub not_read_later : (quiet : Type 0) (g h : View) → Later quiet g h → (l : LockName) → NotRead g l → NotRead h l
not_read_later quiet g h a l free = λ is. free (ap level_of (sym (a.holds l)) ∙ is)

-- ---- values

-- an object, where it is one, is surely shared
abbrev pub Shared : View → Value → Type 0
Shared g (value.Ref o) = g.shared o ≡ true
Shared g v = Unit {0}

pub shared_later : (quiet : Type 0) (g h : View) → Later quiet g h → (v : Value) → Shared g v → Shared h v
shared_later quiet g h a (value.Ref o) is = a.shared o is
shared_later quiet g h a value.Null is = tt
shared_later quiet g h a (value.Long n) is = tt
shared_later quiet g h a (value.Bool b) is = tt
shared_later quiet g h a (value.Text t) is = tt

-- the object's monitor is held so; or, where nothing is published, the object is surely the thread's own
abbrev pub Covered : Type 0 → View → ℕ → Bool → Type 0
Covered quiet g o write = Held g (Mon o) write ⊎ (quiet × (g.own o ≡ true))

-- the value is such an object
abbrev pub Covers : Type 0 → View → Value → Bool → Type 0
Covers quiet g v write = (o : ℕ) × (v ≡ value.Ref o) × Covered quiet g o write

pub covered_later : (quiet : Type 0) (g h : View) → Later quiet g h → (o : ℕ) (write : Bool) → Covered quiet g o write → Covered quiet h o write
covered_later quiet g h a o write (inl held) = inl (held_later quiet g h a (Mon o) write held)
covered_later quiet g h a o write (inr own) = inr (own.0, a.own own.0 o own.1)

pub covers_later : (quiet : Type 0) (g h : View) → Later quiet g h → (v : Value) (write : Bool) → Covers quiet g v write → Covers quiet h v write
covers_later quiet g h a v write covers = (covers.0, covers.1, covered_later quiet g h a covers.0 write covers.2)

-- What an event has to do with the locks, with ids and with threads: what decides whether two runs get on together.
use Rattle.std.specs.List.{AllByRecursion}
use Rattle.std.specs.Prelude.{ℕ, ◌≡◌, ◌≢◌, ◌⊎◌, Some, List, [], ◌∷◌}
use Rattle.dso_base.specs.declared.lock.Level.{Level}
use Rattle.dso_base.specs.declared.lock.Level.TheVariants.{Read, Write}
use Rattle.dso_base.specs.declared.lock.LockName.{LockName}
use Rattle.dso_base.specs.declared.lock.ThreadId.{ThreadId}
use Rattle.dso_base.specs.declared.request.Event.{Event}
use Rattle.dso_base.specs.declared.request.Event.TheVariants.{Act, Lost}
use Rattle.dso_base.specs.declared.request.Reply.{Reply}
use Rattle.dso_base.specs.declared.request.Reply.TheVariants.{Done, Made}
use Rattle.dso_base.specs.declared.request.Request.{Request}
use Rattle.dso_base.specs.declared.request.Request.TheVariants.{New, Look, Get, Put, Enter, Exit, Wait, Tick, Timeout}
use Rattle.dso_base.specs.declared.request.Request.TheVariants.{Resume, Notify, NotifyAll, Print, End, Pause, Settle}
use Rattle.dso_base.specs.declared.shape.Shape.{Shape}
use Rattle.dso_plain.specs.State.{PlainState, level_of}
use Rattle.dso_plain.specs.After.{after}

-- the act takes the lock at this level: a done Enter, or a Resume, which takes it at Write
abbrev pub Takes : Request → Reply → LockName → Level → Type 0
Takes (Enter l level) Done key x = (key ≡ l) × (x ≡ level)
Takes (Enter l level) reply key x = ⊥
Takes (Resume l) Done key x = (key ≡ l) × (x ≡ Write)
Takes (Resume l) reply key x = ⊥
Takes (New class n) reply key x = ⊥
Takes (Look o) reply key x = ⊥
Takes (Get o f) reply key x = ⊥
Takes (Put o f v) reply key x = ⊥
Takes (Exit l) reply key x = ⊥
Takes (Wait l) reply key x = ⊥
Takes (Tick l) reply key x = ⊥
Takes (Timeout l) reply key x = ⊥
Takes (Notify l) reply key x = ⊥
Takes (NotifyAll l) reply key x = ⊥
Takes (Print v) reply key x = ⊥
Takes (End fault) reply key x = ⊥
Takes Pause reply key x = ⊥
Takes Settle reply key x = ⊥

-- the act touches the lock at this level: its thread holds it so before, or takes it so
abbrev pub ActTouches : ThreadId → Request → Reply → PlainState → LockName → Level → Type 0
ActTouches t request reply s l x = (level_of (s.monitors (l, t)) ≡ Some x) ⊎ Takes request reply l x

-- the event touches the lock at this level; a loss touches none
abbrev pub Touches : Event → PlainState → LockName → Level → Type 0
Touches (Act t request reply woken) s l x = ActTouches t request reply s l x
Touches (Lost client) s l x = ⊥

-- some event of the run touches the lock at this level
abbrev pub TouchesIn : Shape → List Event → PlainState → LockName → Level → Type 0
TouchesIn shape [] s l x = ⊥
TouchesIn shape (e ∷ es) s l x = Touches e s l x ⊎ TouchesIn shape es (after shape e s) l x

-- the act makes the object of this id
abbrev pub ActMakes : Request → Reply → ℕ → Type 0
ActMakes (New class n) (Made o) id = id ≡ o
ActMakes request reply id = ⊥

-- the event makes the object of this id
abbrev pub Makes : Event → ℕ → Type 0
Makes (Act t request reply woken) id = ActMakes request reply id
Makes (Lost client) id = ⊥

-- some event makes the object of this id
abbrev pub MakesIn : List Event → ℕ → Type 0
MakesIn [] id = ⊥
MakesIn (e ∷ es) id = Makes e id ⊎ MakesIn es id

-- the event is an act of the thread
abbrev pub IsActOf : ThreadId → Event → Type 0
IsActOf t (Act thread request reply woken) = thread ≡ t
IsActOf t (Lost client) = ⊥

-- the event is an act of another thread
abbrev pub IsActOfOther : ThreadId → Event → Type 0
IsActOfOther t (Act thread request reply woken) = thread ≢ t
IsActOfOther t (Lost client) = ⊥

-- each of the events is an act of the thread
abbrev pub AreActsOf : ThreadId → List Event → Type 0
AreActsOf t [] = Unit {0}
AreActsOf t (e ∷ es) = IsActOf t e × AreActsOf t es

-- each of the events is an act of some other thread
abbrev pub AreActsOfOthers : ThreadId → List Event → Type 0
AreActsOfOthers t [] = Unit {0}
AreActsOfOthers t (e ∷ es) = IsActOfOther t e × AreActsOfOthers t es

-- the event is a timeout that comes in time: it marks its thread under no lock
abbrev pub TimesOut : Event → Type 0
TimesOut (Act t (Timeout l) Done woken) = Unit {0}
TimesOut e = ⊥

-- no event is a timeout that comes in time
abbrev pub NobodyTimesOut : List Event → Type 0
NobodyTimesOut es = AllByRecursion (λ e. TimesOut e → ⊥) es

-- two ways to touch locks do not conflict: where both touch a lock, both do at Read
abbrev pub NoClash : (LockName → Level → Type 0) → (LockName → Level → Type 0) → Type 0
NoClash touched other = (l : LockName) (x y : Level) → touched l x → other l y → (x ≡ Read) × (y ≡ Read)

-- no id is made by both
abbrev pub NoCommonId : (ℕ → Type 0) → (ℕ → Type 0) → Type 0
NoCommonId makes other = (id : ℕ) → makes id → other id → ⊥

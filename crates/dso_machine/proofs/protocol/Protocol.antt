-- What may be asked of a program, in abstract form: points of a thread's run, what may be asked there, what is known there;
-- and which texts may be named.
use Rattle.std.proofs.Common.{◌≡◌, ℕ, ◌<◌, ◌≤◌, Bool, true, false, List, [], ◌∷◌, ◌++◌, length, Option, Some}
use Rattle.dso_base.specs.declared.lock.Level.{Level}
use Rattle.dso_base.specs.declared.lock.LockName.{LockName}
use Rattle.dso_base.specs.declared.lock.LockName.TheVariants.{Mon, Name}
use Rattle.dso_base.specs.declared.lock.ThreadId.{ThreadId}
use Rattle.dso_base.specs.declared.request.Event.{Event}
use Rattle.dso_base.specs.declared.request.Event.TheVariants.{Act, Lost}
use Rattle.dso_base.specs.declared.request.Fault.{Fault}
use Rattle.dso_base.specs.declared.request.Reply.{Reply}
use Rattle.dso_base.specs.declared.request.Reply.TheVariants.{Done, Made, Seen, Val}
use Rattle.dso_base.specs.declared.request.Request.{Request}
use Rattle.dso_base.specs.declared.request.Request.TheVariants.{New, Look, Get, Put, Enter, Exit, Wait, Tick, Timeout, Resume, Notify, NotifyAll, Print, End, Pause, Settle}
use Rattle.dso_base.specs.declared.shape.Shape.{Shape}
use Rattle.dso_base.specs.declared.value.ClassId.{ClassId}
use Rattle.dso_base.specs.declared.value.ClassId.TheVariants.{Plain, Array}
use Rattle.dso_base.specs.declared.value.Kind.{Kind}
use Rattle.dso_base.specs.declared.value.Kind.TheVariants as kind
use Rattle.dso_base.specs.declared.value.Value.{Value}
use Rattle.dso_base.specs.declared.value.Value.TheVariants as value
use Rattle.dso_base.specs.Following.{IsListed}
use Rattle.dso_base.specs.Shape.{HasField, fields_at, kind_of}
use Rattle.dso_base.specs.Value.{Fits}
use Rattle.dso_machine.specs.declared.code.Code.{Code}
use Rattle.dso_machine.specs.Limits.{most_elements}
use Rattle.dso_machine.specs.Next.{next_request}

-- the object or the text that the value names, if it names one, is known
abbrev pub KnowsValue : (ℕ → Type 0) → (ℕ → Type 0) → Value → Type 0
KnowsValue has_text knows (value.Ref object) = knows object
KnowsValue has_text knows (value.Text t) = has_text t
KnowsValue has_text knows v = Unit {0}

-- the object whose monitor it is, if it is a monitor, is known
abbrev pub KnowsLock : (ℕ → Type 0) → LockName → Type 0
KnowsLock knows (Mon object) = knows object
KnowsLock knows (Name name) = Unit {0}

-- a name is one that the shape has
abbrev pub HasLock : Shape → LockName → Type 0
HasLock shape (Mon object) = Unit {0}
HasLock shape (Name name) = name < shape.names

-- an object of this class and size has the place: the elements of an array are below its size
abbrev pub HasPlace : Shape → ClassId → ℕ → ℕ → Type 0
HasPlace shape (Array kind) size place = place < size
HasPlace shape class size place = HasField shape class place

-- the requests that leave the locks as they are, whatever the reply, and end nothing
abbrev pub is_plain : Request → Bool
is_plain (Enter l level) = false
is_plain (Exit l) = false
is_plain (Wait l) = false
is_plain (Tick l) = false
is_plain (Timeout l) = false
is_plain (Resume l) = false
is_plain (End fault) = false
is_plain request = true

-- Points of a thread's run: which replies may come there, what the thread may ask there, which objects it knows there, and
-- what a request with its reply makes of a point; and, the same at all points, which texts may be named.
pub record Keeper (shape : Shape) : Type 1 where
  pub Point : Type 0
  pub start : Point
  pub after : Request → Reply → Point → Point
  pub Asks : Point → Request → Type 0
  pub IsReply : Point → Request → Reply → Type 0
  pub Knows : Point → ℕ → Type 0
  pub Looked : Point → ℕ → ClassId → ℕ → Type 0  -- the thread looked at the object there, and saw it to be of this class and size
  pub HasText : ℕ → Type 0  -- the text of this number is one that may be named
  pub Awake : Point → Type 0  -- it neither waits nor has ended (with all else that is always so where a thread goes on)
  pub Asleep : Point → LockName → Point → Type 0  -- at the second one it waits on the lock since the first one, and may still ask for ticks and its timeout
  pub Roused : Point → LockName → Point → Type 0  -- it waits on it since then, and may ask for it again
  pub Same : Point → Point → Type 0  -- at the second one it holds the same locks as at the first, is as awake, and knows no less
  -- replies are listed ones
  pub listed : (g : Point) (q : Request) (r : Reply) → IsReply g q r → IsListed q r
  pub start_awake : Awake start
  -- what is known stays known, and an object that is made or read is known
  pub still_known : (g : Point) (q : Request) (r : Reply) (object : ℕ) → Knows g object → Knows (after q r g) object
  pub made_known : (g : Point) (q : Request) (object : ℕ) → IsReply g q (Made object) → Knows (after q (Made object) g) object
  pub read_known : (g : Point) (q : Request) (object : ℕ) → IsReply g q (Val (value.Ref object)) → Knows (after q (Val (value.Ref object)) g) object
  -- so is the class that is seen, and it stays so
  pub still_looked : (g : Point) (q : Request) (r : Reply) (object : ℕ) (class : ClassId) (size : ℕ) → Looked g object class size → Looked (after q r g) object class size
  pub seen_looked : (g : Point) (object : ℕ) (class : ClassId) (size : ℕ) → IsReply g (Look object) (Seen class size) → Looked (after (Look object) (Seen class size) g) object class size
  -- a text of the program's own may be named, and so a text that is read
  pub literal_text : (t : ℕ) → t < shape.texts → HasText t
  pub read_text : (g : Point) (q : Request) (t : ℕ) → IsReply g q (Val (value.Text t)) → HasText t
  -- the same locks
  pub same_itself : (g : Point) → Same g g
  pub same_then : (g h i : Point) → Same g h → Same h i → Same g i
  pub same_awake : (g h : Point) → Same g h → Awake g → Awake h
  pub same_knows : (g h : Point) → Same g h → (object : ℕ) → Knows g object → Knows h object
  pub same_looked : (g h : Point) → Same g h → (object : ℕ) (class : ClassId) (size : ℕ) → Looked g object class size → Looked h object class size
  -- what leaves them as they are: plain requests, and an entry or a wait that is not answered Done
  pub plain_same : (g : Point) (q : Request) (r : Reply) → Awake g → is_plain q ≡ true → IsReply g q r → Same g (after q r g)
  pub enter_same : (g : Point) (l : LockName) (level : Level) (r : Reply) → Awake g → IsReply g (Enter l level) r → (r ≡ Done → ⊥) → Same g (after (Enter l level) r g)
  pub wait_same : (g : Point) (l : LockName) (r : Reply) → Awake g → IsReply g (Wait l) r → (r ≡ Done → ⊥) → Same g (after (Wait l) r g)
  -- an entry answered Done: the thread is awake, may leave the lock wherever it holds the same again, and holds then what it held before
  pub enter_awake : (g : Point) (l : LockName) (level : Level) → Awake g → IsReply g (Enter l level) Done → Awake (after (Enter l level) Done g)
  pub exit_asked : (g h : Point) (l : LockName) (level : Level) → Awake g → IsReply g (Enter l level) Done → Same (after (Enter l level) Done g) h → Asks h (Exit l)
  pub exit_same : (g h : Point) (l : LockName) (level : Level) → Awake g → IsReply g (Enter l level) Done → Same (after (Enter l level) Done g) h → Same g (after (Exit l) Done h)
  -- a wait answered Done: ticks may be asked for until one tells that the thread was woken, and one timeout after them
  pub wait_asleep : (g : Point) (l : LockName) → Awake g → IsReply g (Wait l) Done → Asleep g l (after (Wait l) Done g)
  pub tick_asked : (g h : Point) (l : LockName) → Asleep g l h → Asks h (Tick l)
  pub tick_asleep : (g h : Point) (l : LockName) → Asleep g l h → IsReply h (Tick l) (Val (value.Bool false)) → Asleep g l (after (Tick l) (Val (value.Bool false)) h)
  pub tick_roused : (g h : Point) (l : LockName) → Asleep g l h → IsReply h (Tick l) (Val (value.Bool true)) → Roused g l (after (Tick l) (Val (value.Bool true)) h)
  pub timeout_asked : (g h : Point) (l : LockName) → Asleep g l h → Asks h (Timeout l)
  pub timeout_roused : (g h : Point) (l : LockName) (r : Reply) → Asleep g l h → IsReply h (Timeout l) r → Roused g l (after (Timeout l) r h)
  -- with or without them the thread may go on, and holds then what it held before
  pub asleep_roused : (g h : Point) (l : LockName) → Asleep g l h → Roused g l h
  pub roused_knows : (g h : Point) (l : LockName) → Roused g l h → (object : ℕ) → Knows g object → Knows h object
  pub resume_asked : (g h : Point) (l : LockName) → Roused g l h → Asks h (Resume l)
  pub resume_same : (g h : Point) (l : LockName) → Roused g l h → IsReply h (Resume l) Done → Same g (after (Resume l) Done h)
  -- the end, where the thread holds what it held at its start
  pub end_asked : (g : Point) (fault : Option Fault) → Same start g → Asks g (End fault)
  -- all else that may be asked of values that are known, of places of objects that were looked at, of roots and locks that are there
  pub class_asked : (g : Point) (class : ℕ) → Awake g → class < length shape.classes → Asks g (New (Plain class) (length (fields_at shape class)))
  pub array_asked : (g : Point) (kind : Kind) (size : ℕ) → Awake g → size ≤ most_elements → Asks g (New (Array kind) size)
  pub look_asked : (g : Point) (object : ℕ) → Awake g → Knows g object → Asks g (Look object)
  pub get_asked : (g : Point) (object place : ℕ) (class : ClassId) (size : ℕ) → Awake g → Knows g object → Looked g object class size → HasPlace shape class size place → Asks g (Get object place)
  pub put_asked : (g : Point) (object place : ℕ) (v : Value) (class : ClassId) (size : ℕ) → Awake g → Knows g object → KnowsValue HasText (Knows g) v
      → Looked g object class size → HasPlace shape class size place → Fits (kind_of shape class place) v → Asks g (Put object place v)
  pub get_root_asked : (g : Point) (r : ℕ) → Awake g → r < shape.roots → Asks g (Get 0 r)
  pub put_root_asked : (g : Point) (r : ℕ) (v : Value) → Awake g → KnowsValue HasText (Knows g) v → r < shape.roots → Fits kind.Ref v → Asks g (Put 0 r v)
  pub enter_asked : (g : Point) (l : LockName) (level : Level) → Awake g → KnowsLock (Knows g) l → HasLock shape l → Asks g (Enter l level)
  pub wait_asked : (g : Point) (object : ℕ) → Awake g → Knows g object → Asks g (Wait (Mon object))
  pub notify_asked : (g : Point) (object : ℕ) → Awake g → Knows g object → Asks g (Notify (Mon object))
  pub notify_all_asked : (g : Point) (object : ℕ) → Awake g → Knows g object → Asks g (NotifyAll (Mon object))
  pub print_asked : (g : Point) (v : Value) → Awake g → KnowsValue HasText (Knows g) v → Asks g (Print v)
  pub pause_asked : (g : Point) → Awake g → Asks g Pause
  pub settle_asked : (g : Point) → Awake g → Asks g Settle

module _ {shape : Shape} (k : Keeper shape) where
  -- the point after events, by the one before them
  abbrev pub through : k.Point → List Event → k.Point
  through g [] = g
  through g (Act thread q r woken ∷ events) = through (k.after q r g) events
  through g (Lost client ∷ events) = through g events

  -- each event is an act with the thread's next request after the events before it, and a reply that may come there
  abbrev pub FollowsAt : (List Event → Option Request) → List Event → k.Point → List Event → Type 0
  FollowsAt next before g [] = Unit {0}
  FollowsAt next before g (Act thread q r woken ∷ events) = (next before ≡ Some q) × k.IsReply g q r × FollowsAt next (before ++ Act thread q r woken ∷ []) (k.after q r g) events
  FollowsAt next before g (Lost client ∷ events) = ⊥

-- the thread keeps to what may be asked: wherever its events follow its code, its next request may be asked
abbrev pub KeepsTo : (code : Code) → Keeper code.shape → ThreadId → Type 0
KeepsTo code k t = (events : List Event) (q : Request) → FollowsAt k (next_request code t) [] k.start events → next_request code t events ≡ Some q → k.Asks (through k k.start events) q

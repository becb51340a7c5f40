-- The class and the size of an object never change: whatever tells of them tells those with which it was made.
use Rattle.std.specs.List.{AllByRecursion}
use Rattle.std.specs.Prelude.{ℕ, ◌≡◌, cond, eqb, Option, Some, None, List, [], ◌∷◌, length}
use Rattle.dso_base.specs.declared.journal.Entry.{Entry}
use Rattle.dso_base.specs.declared.journal.Node.TheVariants.{Server, Client}
use Rattle.dso_base.specs.declared.lock.ThreadId.{ThreadId}
use Rattle.dso_base.specs.declared.message.Down.{Down}
use Rattle.dso_base.specs.declared.message.Down.TheVariants as down
use Rattle.dso_base.specs.declared.message.Up.{Up}
use Rattle.dso_base.specs.declared.message.Up.TheVariants as up
use Rattle.dso_base.specs.declared.record.Body.{Body}
use Rattle.dso_base.specs.declared.request.Event.{Event}
use Rattle.dso_base.specs.declared.request.Event.TheVariants.{Act, Lost}
use Rattle.dso_base.specs.declared.request.Reply.{Reply}
use Rattle.dso_base.specs.declared.request.Reply.TheVariants.{Made, Seen}
use Rattle.dso_base.specs.declared.request.Request.{Request}
use Rattle.dso_base.specs.declared.request.Request.TheVariants.{New, Look, Get, Put, Enter, Exit, Wait, Tick, Timeout}
use Rattle.dso_base.specs.declared.request.Request.TheVariants.{Resume, Notify, NotifyAll, Print, End, Pause, Settle}
use Rattle.dso_base.specs.declared.shape.Shape.{Shape}
use Rattle.dso_base.specs.declared.value.ClassId.{ClassId}
use Rattle.dso_base.specs.declared.value.ClassId.TheVariants.{Roots}
use Rattle.dso_law.specs.Settings.{Settings}
use Rattle.dso_law.specs.Entries.{entries_of, by_event, events_in}
use Rattle.dso_law.specs.Channels.{up_in_flight, down_in_flight}
use Rattle.dso_law.specs.Copies.{class_held}
use Rattle.dso_law.specs.ServerReadings.{counted}
use Rattle.dso_law.specs.Store.{stored}
use Rattle.dso_law.specs.Threads.{work_of}
use Rattle.dso_legal.specs.Agreement.{messages}
use Rattle.dso_legal.specs.Lawful.{AllFollow}

-- the class and the size of the new object that a request asks for
abbrev pub class_asked : Request → Option (ClassId × ℕ)
class_asked (New class n) = Some (class, n)
class_asked (Look o) = None
class_asked (Get o f) = None
class_asked (Put o f v) = None
class_asked (Enter l level) = None
class_asked (Exit l) = None
class_asked (Wait l) = None
class_asked (Tick l) = None
class_asked (Timeout l) = None
class_asked (Resume l) = None
class_asked (Notify l) = None
class_asked (NotifyAll l) = None
class_asked (Print v) = None
class_asked (End fault) = None
class_asked Pause = None
class_asked Settle = None

-- what a reply tells of the object's making: where it made it, the class and the size are those asked for
abbrev pub class_by_reply : ℕ → Request → Reply → Option (ClassId × ℕ) → Option (ClassId × ℕ)
class_by_reply o request (Made made) before = cond (eqb made o) (class_asked request) before
class_by_reply o request reply before = before

-- what an event tells of it
abbrev pub class_by : ℕ → Event → Option (ClassId × ℕ) → Option (ClassId × ℕ)
class_by o (Act t request reply woken) before = class_by_reply o request reply before
class_by o (Lost client) before = before

-- the class and the size with which the object was made, by any thread of the journal; object 0 has the roots from
-- the start
abbrev pub class_made : Shape → ℕ → List Entry → Option (ClassId × ℕ)
class_made shape o [] = cond (eqb o 0) (Some (Roots, shape.roots)) None
class_made shape o (e ∷ es) = by_event (class_by o) e.event (class_made shape o es)

-- the body has the class and the size with which its object was made
abbrev pub IsAsMade : Shape → List Entry → Body → Type 0
IsAsMade shape es body = class_made shape body.object es ≡ Some (body.class, length body.values)

-- each body that a message carries has those of its object
abbrev pub CarriesUpAsMade : Shape → List Entry → Up → Type 0
CarriesUpAsMade shape es (up.Commit txn) = AllByRecursion (IsAsMade shape es) txn.news
CarriesUpAsMade shape es m = Unit {0}

abbrev pub CarriesDownAsMade : Shape → List Entry → Down → Type 0
CarriesDownAsMade shape es (down.Object body) = IsAsMade shape es body
CarriesDownAsMade shape es m = Unit {0}

-- what a look saw is the class and the size with which its object was made
abbrev pub SawAsMade : Shape → List Entry → Request → Reply → Type 0
SawAsMade shape es (Look o) (Seen class n) = class_made shape o es ≡ Some (class, n)
SawAsMade shape es request reply = Unit {0}

abbrev pub LooksAsMade : Shape → List Entry → Event → Type 0
LooksAsMade shape es (Act t request reply woken) = SawAsMade shape es request reply
LooksAsMade shape es (Lost client) = Unit {0}

-- Of each object, those with which it was made are told by all that threads have in hand and that they saw, by the
-- copies, by what is in flight, and by the server's graph.
pub record KeepsClasses (shape : Shape) (es : List Entry) : Type 0 where
  pub privates : (t : ThreadId)
      → AllByRecursion (IsAsMade shape es) (work_of shape t (entries_of (Client t.client) es)).privates
  pub news : (t : ThreadId)
      → AllByRecursion (IsAsMade shape es) (work_of shape t (entries_of (Client t.client) es)).news
  pub seen : (t : ThreadId) → AllByRecursion (LooksAsMade shape es) (events_in t (entries_of (Client t.client) es))
  pub copies : (c o : ℕ) (class : ClassId) (size : ℕ) → class_held o (entries_of (Client c) es) ≡ Some (class, size)
      → class_made shape o es ≡ Some (class, size)
  pub ups : (c : ℕ) → AllByRecursion (CarriesUpAsMade shape es) (messages (up_in_flight c es))
  pub downs : (c : ℕ) → AllByRecursion (CarriesDownAsMade shape es) (messages (down_in_flight c es))
  pub graph : (o : ℕ) (body : Body) → stored shape o (counted (entries_of Server es)) ≡ Some body
      → IsAsMade shape es body

-- Classes are kept, after entries each of which follows those before it, for lost clients too.
abbrev pub ClassesAreKept : Type 0
ClassesAreKept = (p : Settings) (next : ThreadId → List Event → Option Request) (es : List Entry)
    → AllFollow p next es → KeepsClasses p.shape es

-- Values are fine: each fits the field that it stands in, what it names was made, and its text is one of the
-- program's.
use Rattle.std.specs.List.{AllByRecursion}
use Rattle.std.specs.Prelude.{ℕ, ◌<◌, ◌≡◌, ◌≢◌, Option, Some, None, List, slice_get}
use Rattle.dso_base.specs.declared.journal.Entry.{Entry}
use Rattle.dso_base.specs.declared.journal.Node.TheVariants.{Server, Client}
use Rattle.dso_base.specs.declared.lock.ThreadId.{ThreadId}
use Rattle.dso_base.specs.declared.message.Down.{Down}
use Rattle.dso_base.specs.declared.message.Down.TheVariants as down
use Rattle.dso_base.specs.declared.message.Up.{Up}
use Rattle.dso_base.specs.declared.message.Up.TheVariants as up
use Rattle.dso_base.specs.declared.record.Body.{Body}
use Rattle.dso_base.specs.declared.record.Set.{Set}
use Rattle.dso_base.specs.declared.record.Txn.{Txn}
use Rattle.dso_base.specs.declared.request.Event.{Event}
use Rattle.dso_base.specs.declared.request.Event.TheVariants.{Act, Lost}
use Rattle.dso_base.specs.declared.request.Reply.{Reply}
use Rattle.dso_base.specs.declared.request.Reply.TheVariants.{Made, Val}
use Rattle.dso_base.specs.declared.request.Request.{Request}
use Rattle.dso_base.specs.declared.shape.Shape.{Shape}
use Rattle.dso_base.specs.declared.value.ClassId.{ClassId}
use Rattle.dso_base.specs.declared.value.Value.{Value}
use Rattle.dso_base.specs.declared.value.Value.TheVariants as value
use Rattle.dso_base.specs.Block.{Work}
use Rattle.dso_base.specs.Shape.{kind_of}
use Rattle.dso_base.specs.Value.{Fits}
use Rattle.dso_law.specs.Settings.{Settings}
use Rattle.dso_law.specs.Entries.{entries_of, events_in}
use Rattle.dso_law.specs.Channels.{up_in_flight, down_in_flight}
use Rattle.dso_law.specs.Copies.{value_held}
use Rattle.dso_law.specs.FitsDown.{HasSize}
use Rattle.dso_law.specs.ServerReadings.{counted}
use Rattle.dso_law.specs.Store.{stored}
use Rattle.dso_law.specs.Threads.{work_of}
use Rattle.dso_legal.specs.Agreement.{messages}
use Rattle.dso_legal.specs.ClassesKept.{class_made}
use Rattle.dso_legal.specs.Lawful.{AllFollow}
use Rattle.dso_legal.specs.SoundProgram.{AsksSoundly, GivesKnownTexts}
use Rattle.dso_legal.specs.WithinShape.{HasPlace, StaysWithinShape}

-- the value is fine: an object that it names was made and is not object 0, a text is one of the program's
abbrev pub IsFine : Shape → List Entry → Value → Type 0
IsFine shape es (value.Ref o) = (o ≢ 0) × (class_made shape o es ≢ None)
IsFine shape es (value.Text t) = t < shape.texts
IsFine shape es v = Unit {0}

-- the value may stand in the field: the object was made so that it has the field, and the value is fine and fits
-- the field
pub record FitsField (shape : Shape) (es : List Entry) (o f : ℕ) (v : Value) : Type 0 where
  pub class : ClassId
  pub size : ℕ
  pub made : class_made shape o es ≡ Some (class, size)
  pub there : HasPlace shape class size f
  pub fits : Fits (kind_of shape class f) v
  pub fine : IsFine shape es v

-- each value of the body may stand where it does, and so may the set's
abbrev pub IsFineBody : Shape → List Entry → Body → Type 0
IsFineBody shape es body = (f : ℕ) (v : Value) → slice_get body.values f ≡ Some v → FitsField shape es body.object f v

abbrev pub IsFineSet : Shape → List Entry → Set → Type 0
IsFineSet shape es set = FitsField shape es set.object set.field set.value

-- so all that a thread has in hand
pub record IsFineWork (shape : Shape) (es : List Entry) (work : Work) : Type 0 where
  pub privates : AllByRecursion (IsFineBody shape es) work.privates
  pub news : AllByRecursion (IsFineBody shape es) work.news
  pub sets : AllByRecursion (IsFineSet shape es) work.sets
  pub outs : AllByRecursion (IsFine shape es) work.outs

-- and all that a message carries
pub record IsFineRecord (shape : Shape) (es : List Entry) (txn : Txn) : Type 0 where
  pub news : AllByRecursion (IsFineBody shape es) txn.news
  pub sets : AllByRecursion (IsFineSet shape es) txn.sets
  pub outs : AllByRecursion (IsFine shape es) txn.outs

abbrev pub CarriesUpFine : Shape → List Entry → Up → Type 0
CarriesUpFine shape es (up.Commit txn) = IsFineRecord shape es txn
CarriesUpFine shape es m = Unit {0}

abbrev pub CarriesDownFine : Shape → List Entry → Down → Type 0
CarriesDownFine shape es (down.Object body) = IsFineBody shape es body
CarriesDownFine shape es (down.Changes sets) = AllByRecursion (IsFineSet shape es) sets
CarriesDownFine shape es m = Unit {0}

-- a reply tells only of what is fine
abbrev pub TellsFine : Shape → List Entry → Reply → Type 0
TellsFine shape es (Made o) = IsFine shape es (value.Ref o)
TellsFine shape es (Val v) = IsFine shape es v
TellsFine shape es reply = Unit {0}

abbrev pub EventTellsFine : Shape → List Entry → Event → Type 0
EventTellsFine shape es (Act t request reply woken) = TellsFine shape es reply
EventTellsFine shape es (Lost client) = Unit {0}

-- So is all that threads have in hand and were told, all copies, all that is in flight, and the server's graph; and
-- each object was made as the shape allows.
pub record KeepsValues (shape : Shape) (es : List Entry) : Type 0 where
  pub sizes : (o : ℕ) (class : ClassId) (size : ℕ) → class_made shape o es ≡ Some (class, size)
      → HasSize shape class size
  pub works : (t : ThreadId) → IsFineWork shape es (work_of shape t (entries_of (Client t.client) es))
  pub told : (t : ThreadId) → AllByRecursion (EventTellsFine shape es) (events_in t (entries_of (Client t.client) es))
  pub copies : (c o f : ℕ) (v : Value) → value_held o f (entries_of (Client c) es) ≡ Some v → FitsField shape es o f v
  pub ups : (c : ℕ) → AllByRecursion (CarriesUpFine shape es) (messages (up_in_flight c es))
  pub downs : (c : ℕ) → AllByRecursion (CarriesDownFine shape es) (messages (down_in_flight c es))
  pub graph : (o : ℕ) (body : Body) → stored shape o (counted (entries_of Server es)) ≡ Some body
      → IsFineBody shape es body

-- Values are fine: after entries each of which follows those before it, of a sound program that gives only known
-- texts and stays within its shape, for lost clients too.
abbrev pub ValuesAreFine : Type 0
ValuesAreFine = (p : Settings) (next : ThreadId → List Event → Option Request) → AsksSoundly p.shape next
    → GivesKnownTexts p.shape next → StaysWithinShape p.shape next
    → (es : List Entry) → AllFollow p next es → KeepsValues p.shape es

-- What comes fits the shape: bodies their class, values their fields.
use Rattle.std.specs.List.{AllByRecursion}
use Rattle.std.specs.Prelude.{ℕ, ◌<◌, ◌≡◌, ◌≢◌, ◌↔◌, Option, Some, List, ◌++◌, length}
use Rattle.dso_base.specs.declared.journal.Entry.{Entry}
use Rattle.dso_base.specs.declared.journal.Node.TheVariants.{Server, Client}
use Rattle.dso_base.specs.declared.lock.ThreadId.{ThreadId}
use Rattle.dso_base.specs.declared.message.Down.{Down}
use Rattle.dso_base.specs.declared.message.Down.TheVariants as down
use Rattle.dso_base.specs.declared.message.Up.{Up}
use Rattle.dso_base.specs.declared.message.Up.TheVariants as up
use Rattle.dso_base.specs.declared.record.Body.{Body}
use Rattle.dso_base.specs.declared.record.Set.{Set}
use Rattle.dso_base.specs.declared.record.Txn.{Txn}
use Rattle.dso_base.specs.declared.request.Event.{Event}
use Rattle.dso_base.specs.declared.request.Request.{Request}
use Rattle.dso_base.specs.declared.shape.Shape.{Shape}
use Rattle.dso_base.specs.declared.value.ClassId.TheVariants.{Roots}
use Rattle.dso_base.specs.Shape.{kind_of}
use Rattle.dso_base.specs.Value.{Fits}
use Rattle.dso_law.specs.Settings.{Settings}
use Rattle.dso_law.specs.Entries.{entries_of}
use Rattle.dso_law.specs.Channels.{up_in_flight, down_in_flight, IsFirst}
use Rattle.dso_law.specs.FitsDown.{FitsShape, FitsChange}
use Rattle.dso_law.specs.FitsUp.{IsPrinted, IsLiteral, stored_values}
use Rattle.dso_law.specs.ServerReadings.{counted}
use Rattle.dso_law.specs.Store.{stored}
use Rattle.dso_legal.specs.Lawful.{AllFollow}
use Rattle.dso_legal.specs.SoundProgram.{AsksSoundly, GivesKnownTexts}
use Rattle.dso_legal.specs.WithinShape.{StaysWithinShape}

-- a body published is of no roots, and its class and values fit the shape
abbrev pub IsShapedNews : Shape → Body → Type 0
IsShapedNews shape body = (body.class ≢ Roots) × FitsShape shape body

-- of a stored object the set names a field, and its value fits it
abbrev pub FitsStoredField : Shape → List Entry → Set → Type 0
FitsStoredField shape server set = (body : Body) → stored shape set.object server ≡ Some body
    → (set.field < length body.values) × Fits (kind_of shape body.class set.field) set.value

-- what a record publishes and sets fits so, what it prints was given out, and its texts are literals
pub record FitsValues (p : Settings) (server : List Entry) (txn : Txn) : Type 0 where
  pub news : AllByRecursion (IsShapedNews p.shape) txn.news
  pub sets : AllByRecursion (FitsStoredField p.shape server) txn.sets
  pub printed : AllByRecursion (IsPrinted server) txn.outs
  pub texts : AllByRecursion (IsLiteral p) (stored_values txn ++ txn.outs)

abbrev pub ValuesFitUp : Settings → List Entry → Up → Type 0
ValuesFitUp p server (up.Commit txn) = FitsValues p server txn
ValuesFitUp p server m = Unit {0}

-- an object is of the roots exactly where it is object 0, and fits the shape; each change of a resident object fits
-- its field
abbrev pub ValuesFitDown : Settings → List Entry → Down → Type 0
ValuesFitDown p client (down.Object body) = ((body.class ≡ Roots) ↔ (body.object ≡ 0)) × FitsShape p.shape body
ValuesFitDown p client (down.Changes sets) = AllByRecursion (FitsChange p.shape client) sets
ValuesFitDown p client m = Unit {0}

-- so the first message in flight of the client in each direction
pub record ValuesFirst (p : Settings) (c : ℕ) (es : List Entry) : Type 0 where
  pub ups : (m : Up) → IsFirst m (up_in_flight c es) → ValuesFitUp p (counted (entries_of Server es)) m
  pub downs : (m : Down) → IsFirst m (down_in_flight c es) → ValuesFitDown p (entries_of (Client c) es) m

-- Values fit: after entries each of which follows those before it, of a sound program that gives only known texts
-- and stays within its shape, what comes fits the shape, of each client and to each, a lost one too.
abbrev pub ValuesFit : Type 0
ValuesFit = (p : Settings) (next : ThreadId → List Event → Option Request) → AsksSoundly p.shape next
    → GivesKnownTexts p.shape next → StaysWithinShape p.shape next
    → (es : List Entry) → AllFollow p next es → (c : ℕ) → ValuesFirst p c es

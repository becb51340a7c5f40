-- Names are out: what a client's message names, the server has, as it comes.
use Rattle.std.specs.List.{AllByRecursion}
use Rattle.std.specs.Prelude.{List, None, Option, Some, false, ℕ, ◌≡◌, ◌≢◌}
use Rattle.dso_base.specs.declared.journal.Entry.{Entry}
use Rattle.dso_base.specs.declared.journal.Node.TheVariants.{Server}
use Rattle.dso_base.specs.declared.lock.ThreadId.{ThreadId}
use Rattle.dso_base.specs.declared.message.Up.{Up}
use Rattle.dso_base.specs.declared.message.Up.TheVariants as up
use Rattle.dso_base.specs.declared.record.Body.{Body}
use Rattle.dso_base.specs.declared.request.Event.{Event}
use Rattle.dso_base.specs.declared.request.Request.{Request}
use Rattle.dso_base.specs.declared.value.Value.{Value}
use Rattle.dso_base.specs.declared.value.Value.TheVariants as value
use Rattle.dso_law.specs.Channels.{IsFirst, up_in_flight}
use Rattle.dso_law.specs.Entries.{entries_of}
use Rattle.dso_law.specs.FitsUp.{IsNamed, stored_values}
use Rattle.dso_law.specs.ServerReadings.{counted, is_lost}
use Rattle.dso_law.specs.Settings.{Settings}
use Rattle.dso_law.specs.Store.{stored}
use Rattle.dso_legal.specs.Lawful.{AllFollow}
use Rattle.dso_legal.specs.SoundProgram.{GivesKnownTexts, AsksSoundly}
use Rattle.dso_legal.specs.WithinShape.{StaysWithinShape}

-- the object that a fault asks for is in the graph; each object that a record names in what it publishes and sets
-- is in the graph or among the news
abbrev pub NamesWhatIsOut : Settings → List Entry → Up → Type 0
NamesWhatIsOut p server (up.Fault o) = stored p.shape o server ≢ None
NamesWhatIsOut p server (up.Commit txn) = AllByRecursion (IsNamed p txn.news server) (stored_values txn)
NamesWhatIsOut p server m = Unit {0}

-- the value is no object, or one that is in the graph
abbrev pub IsInGraph : Settings → List Entry → Value → Type 0
IsInGraph p server (value.Ref o) = stored p.shape o server ≢ None
IsInGraph p server v = Unit {0}

-- So the first message in flight of each client that isn't lost; and each object that the graph names is in it.
pub record KeepsNamesOut (p : Settings) (es : List Entry) : Type 0 where
  pub ups : (c : ℕ) → is_lost c (entries_of Server es) ≡ false → (m : Up) → IsFirst m (up_in_flight c es)
      → NamesWhatIsOut p (counted (entries_of Server es)) m
  pub graph : (o : ℕ) (body : Body) → stored p.shape o (counted (entries_of Server es)) ≡ Some body
      → AllByRecursion (IsInGraph p (counted (entries_of Server es))) body.values

-- Names are out: after entries each of which follows those before it, of a sound program that gives only known
-- texts and stays within its shape.
abbrev pub NamesAreOut : Type 0
NamesAreOut = (p : Settings) (next : ThreadId → List Event → Option Request)
    → AsksSoundly p.shape next → GivesKnownTexts p.shape next → StaysWithinShape p.shape next
    → (es : List Entry) → AllFollow p next es → KeepsNamesOut p es

-- A record that comes publishes objects that the server doesn't know yet.
use Rattle.std.specs.List.{AllByRecursion}
use Rattle.std.specs.Prelude.{ℕ, ◌≡◌, true, Option, None, List}
use Rattle.dso_base.specs.declared.journal.Entry.{Entry}
use Rattle.dso_base.specs.declared.journal.Node.TheVariants.{Server}
use Rattle.dso_base.specs.declared.lock.ThreadId.{ThreadId}
use Rattle.dso_base.specs.declared.message.Up.{Up}
use Rattle.dso_base.specs.declared.message.Up.TheVariants as up
use Rattle.dso_base.specs.declared.record.Body.{Body}
use Rattle.dso_base.specs.declared.request.Event.{Event}
use Rattle.dso_base.specs.declared.request.Request.{Request}
use Rattle.dso_law.specs.Settings.{Settings}
use Rattle.dso_law.specs.Entries.{entries_of}
use Rattle.dso_law.specs.Channels.{up_in_flight, IsFirst}
use Rattle.dso_law.specs.ServerReadings.{counted, is_given_to}
use Rattle.dso_law.specs.Store.{stored}
use Rattle.dso_legal.specs.Lawful.{IsLawful}

-- the object's id was given to the client, and the object isn't in the graph
pub record IsUnknown (p : Settings) (c : ℕ) (server : List Entry) (body : Body) : Type 0 where
  pub given : is_given_to c body.object server ≡ true
  pub new : stored p.shape body.object server ≡ None

-- each object that the client's message publishes is so
abbrev pub PublishesUnknown : Settings → ℕ → Up → List Entry → Type 0
PublishesUnknown p c (up.Commit txn) server = AllByRecursion (IsUnknown p c server) txn.news
PublishesUnknown p c m server = Unit {0}

-- In a lawful journal the first message in flight to the server of each client, of a lost one too, publishes only
-- such objects.
abbrev pub NewsAreNew : Type 0
NewsAreNew = (p : Settings) (next : ThreadId → List Event → Option Request) (es : List Entry) → IsLawful p next es
    → (c : ℕ) (m : Up) → IsFirst m (up_in_flight c es) → PublishesUnknown p c m (counted (entries_of Server es))

-- A client that is lost is told nothing more, and nothing that it says is heard.
use Rattle.std.specs.List.{AllByRecursion}
use Rattle.std.specs.Prelude.{List, Option, true, ℕ, [], ◌∷◌, ◌≡◌, ◌≢◌}
use Rattle.dso_base.specs.declared.journal.Entry.{Entry}
use Rattle.dso_base.specs.declared.journal.Input.TheVariants as input
use Rattle.dso_base.specs.declared.journal.Node.TheVariants.{Server}
use Rattle.dso_base.specs.declared.journal.Sent.{Sent}
use Rattle.dso_base.specs.declared.journal.Sent.TheVariants.{ToClient, ToServer}
use Rattle.dso_base.specs.declared.lock.ThreadId.{ThreadId}
use Rattle.dso_base.specs.declared.message.Up.{Up}
use Rattle.dso_base.specs.declared.request.Event.{Event}
use Rattle.dso_base.specs.declared.request.Request.{Request}
use Rattle.dso_law.specs.Entries.{entries_of}
use Rattle.dso_law.specs.ServerReadings.{is_lost, counted}
use Rattle.dso_law.specs.Settings.{Settings}
use Rattle.dso_legal.specs.Committed.{committed}
use Rattle.dso_legal.specs.Lawful.{AllFollow}

-- the message doesn't go to the client
abbrev pub IsNotTo : ℕ → Sent → Type 0
IsNotTo c (ToServer m) = Unit {0}
IsNotTo c (ToClient d m) = d ≢ c

-- Lost clients are told nothing: of entries each of which follows those before it, none that the server makes as it
-- loses a client, or later, sends a message to the client.
abbrev pub LostAreToldNothing : Type 0
LostAreToldNothing = (p : Settings) (next : ThreadId → List Event → Option Request) (e : Entry) (es : List Entry)
    → AllFollow p next (e ∷ es)
    → e.node ≡ Server → (c : ℕ) → is_lost c (entries_of Server (e ∷ es)) ≡ true → AllByRecursion (IsNotTo c) e.sent

-- the entry sends nothing, and counts neither in the server's readings nor in the history
pub record IsUnheard (e : Entry) (es : List Entry) : Type 0 where
  pub silent : e.sent ≡ []
  pub readings : counted (entries_of Server (e ∷ es)) ≡ counted (entries_of Server es)
  pub history : committed (e ∷ es) ≡ committed es

-- Lost clients are unheard: of entries each of which follows those before it, one that takes a message of a client that
-- was lost before changes nothing and is answered by nothing.
abbrev pub LostAreUnheard : Type 0
LostAreUnheard = (p : Settings) (next : ThreadId → List Event → Option Request) (e : Entry) (es : List Entry)
    → AllFollow p next (e ∷ es)
    → e.node ≡ Server → (c : ℕ) (m : Up) → e.input ≡ input.TookUp c m → is_lost c (entries_of Server es) ≡ true
    → IsUnheard e es

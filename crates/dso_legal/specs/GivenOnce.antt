-- Each id is given to one client, and a client's new objects have ids that were given to it.
use Rattle.std.specs.Prelude.{ℕ, ◌≡◌, true, false, Option, Some, List}
use Rattle.dso_base.specs.declared.journal.Entry.{Entry}
use Rattle.dso_base.specs.declared.journal.Node.TheVariants.{Server, Client}
use Rattle.dso_base.specs.declared.lock.ThreadId.{ThreadId}
use Rattle.dso_base.specs.declared.request.Event.{Event}
use Rattle.dso_base.specs.declared.request.Request.{Request}
use Rattle.dso_law.specs.Settings.{Settings}
use Rattle.dso_law.specs.Entries.{entries_of}
use Rattle.dso_law.specs.ServerReadings.{is_lost, counted, is_given_to}
use Rattle.dso_law.specs.Records.{next_id}
use Rattle.dso_legal.specs.Lawful.{IsLawful}

-- In a lawful journal the server gives no id to two clients.
abbrev pub IdsAreGivenOnce : Type 0
IdsAreGivenOnce = (p : Settings) (next : ThreadId → List Event → Option Request) (es : List Entry) → IsLawful p next es
    → (c d o : ℕ) → is_given_to c o (counted (entries_of Server es)) ≡ true
    → is_given_to d o (counted (entries_of Server es)) ≡ true → c ≡ d

-- In a lawful journal, for each client that isn't lost, the id that its next new object gets was given to it. So the
-- objects that two clients make have different ids.
abbrev pub IdsAreOfBatches : Type 0
IdsAreOfBatches = (p : Settings) (next : ThreadId → List Event → Option Request) (es : List Entry) → IsLawful p next es
    → (c o : ℕ) → is_lost c (entries_of Server es) ≡ false → next_id (entries_of (Client c) es) ≡ Some o
    → is_given_to c o (counted (entries_of Server es)) ≡ true

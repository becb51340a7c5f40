-- That the server's answers hold of whatever entries it stands for.
use Rattle.std.specs.Prelude.{ℕ, ◌≡◌, ◌↔◌, Bool, false, IsTrue, Option, List}
use Rattle.dso_base.specs.declared.journal.Entry.{Entry}
use Rattle.dso_base.specs.declared.message.Up.{Up}
use Rattle.dso_base.specs.declared.message.Up.TheVariants as up
use Rattle.dso_base.specs.declared.record.Body.{Body}
use Rattle.dso_base.specs.declared.shape.Shape.{Shape}
use Rattle.dso_law.specs.ServerReadings.{counted}
use Rattle.dso_law.specs.Settings.{Settings}
use Rattle.dso_locks.specs.Locks.{waits}
use Rattle.dso_locks.specs.LockRows.{locks_in}
use Rattle.dso_server.specs.declared.server.Server.{Server}
use Rattle.dso_server.specs.ServerStands.{ServerStands}
use Rattle.dso_store.specs.Graph.{body_in}

-- the server's own graph: the body of each object that it has
abbrev pub graph_in : Server → ℕ → Option Body
graph_in server = body_in server.store

-- The value is that of the reading, over the entries that count, for each list of entries that the server stands for.
abbrev pub Knows : {V : Type 0} → Server → V → (Settings → List Entry → V) → Type 0
Knows server value reading = (p : Settings) (es : List Entry) → ServerStands p server es
    → value ≡ reading p (counted es)

-- The answer tells whether the fact holds of the entries that count, for each list that the server stands for.
abbrev pub Tells : Server → Bool → (Settings → List Entry → Type 0) → Type 0
Tells server answer Fact = (p : Settings) (es : List Entry) → ServerStands p server es
    → IsTrue answer ↔ Fact p (counted es)

-- The same in each cluster of this shape.
abbrev pub TellsIn : Shape → Server → Bool → (Settings → List Entry → Type 0) → Type 0
TellsIn shape server answer Fact = (p : Settings) (es : List Entry) → p.shape ≡ shape → ServerStands p server es
    → IsTrue answer ↔ Fact p (counted es)

-- A request is of a lock that the client has no request of, as the table of locks requires.
abbrev pub IsFree : ℕ → Up → Server → Type 0
IsFree c (up.Request l level) server = waits c (locks_in server.locks l) ≡ false
IsFree c m server = Unit {0}

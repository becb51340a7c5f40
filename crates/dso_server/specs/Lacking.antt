-- What a server has of the objects that are stored. It may lack bodies: those of objects that no thread can come to any
-- longer.
use Rattle.std.specs.Prelude.{ℕ, ◌≡◌, ◌≢◌, true, false, None, List}
use Rattle.dso_base.specs.declared.journal.Entry.{Entry}
use Rattle.dso_base.specs.declared.message.Up.{Up}
use Rattle.dso_base.specs.Naming.{up_names}
use Rattle.dso_law.specs.ServerReadings.{counted, is_lost}
use Rattle.dso_law.specs.Settings.{Settings}
use Rattle.dso_law.specs.Store.{stored}
use Rattle.dso_server.specs.declared.server.Server.{Server}
use Rattle.dso_store.specs.Graph.{body_in}

-- the object is stored and the server has no body of it
abbrev pub Lacks : Settings → Server → List Entry → ℕ → Type 0
Lacks p server es o = (stored p.shape o (counted es) ≢ None) × (body_in server.store o ≡ None)

-- the server's body of each object is the stored one
abbrev pub LacksNothing : Settings → Server → List Entry → Type 0
LacksNothing p server es = (o : ℕ) → body_in server.store o ≡ stored p.shape o (counted es)

-- so of each object that the message names, where its client isn't lost
abbrev pub KnowsNamed : Settings → Server → ℕ → Up → List Entry → Type 0
KnowsNamed p server c m es = is_lost c es ≡ false → (o : ℕ) → up_names m o ≡ true
    → body_in server.store o ≡ stored p.shape o (counted es)

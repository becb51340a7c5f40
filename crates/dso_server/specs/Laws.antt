-- That what the calls make are entries of the server rule, which entries change nothing, which servers lack nothing.
use Rattle.std.specs.Prelude.{ℕ, ◌≡◌, true, false, List, ◌∷◌}
use Rattle.dso_base.specs.declared.journal.Entry.{Entry}
use Rattle.dso_base.specs.declared.journal.Sent.{Sent}
use Rattle.dso_base.specs.declared.message.Down.{Down}
use Rattle.dso_base.specs.declared.message.Up.{Up}
use Rattle.dso_law.specs.ServerReadings.{is_break_due, is_loss_due, is_lost}
use Rattle.dso_law.specs.ServerStep.{ServerStep}
use Rattle.dso_law.specs.Settings.{Settings}
use Rattle.dso_locks.specs.Locks.{IsClient}
use Rattle.dso_server.specs.declared.server.Server.{Server}
use Rattle.dso_server.specs.declared.taken.Taken.{Taken}
use Rattle.dso_server.specs.Answering.{IsLost, IsTaken, WasTaken}
use Rattle.dso_server.specs.Lacking.{KnowsNamed, Lacks, LacksNothing}
use Rattle.dso_server.specs.Sending.{broke, lost, rejoined, sent_of, took}
use Rattle.dso_server.specs.ServerStands.{ServerStands}

-- A message that is taken and fits, or that is of a lost client, makes an entry by the server rule, where neither a
-- loss of its client nor a break of the connection is due.
abbrev pub TakenByRule : Type 0
TakenByRule = (p : Settings) (clock c : ℕ) (m : Up) (taken : Taken) (messages : List (ℕ × Down)) (old new : Server)
    (es : List Entry) → WasTaken taken → IsTaken p c m taken messages old new es → IsClient p c
    → is_loss_due p c es ≡ false → is_break_due p c es ≡ false → ServerStep p (took clock c m (sent_of messages)) es

-- A loss makes an entry by the server rule, where it is due.
abbrev pub LostByRule : Type 0
LostByRule = (p : Settings) (clock c : ℕ) (messages : List (ℕ × Down)) (old new : Server) (es : List Entry)
    → IsLost p c messages old new es → IsClient p c → is_loss_due p c es ≡ true
    → ServerStep p (lost clock c (sent_of messages)) es

-- A break of a connection changes nothing.
abbrev pub BreaksChangeNothing : Type 0
BreaksChangeNothing = (p : Settings) (server : Server) (clock c : ℕ) (es : List Entry) → ServerStands p server es
    → ServerStands p server (broke clock c ∷ es)

-- Nor does a rejoin.
abbrev pub RejoinsChangeNothing : Type 0
RejoinsChangeNothing = (p : Settings) (server : Server) (clock c : ℕ) (es : List Entry) → ServerStands p server es
    → ServerStands p server (rejoined clock c ∷ es)

-- Nor does a message of a client that was lost before.
abbrev pub LostChangeNothing : Type 0
LostChangeNothing = (p : Settings) (server : Server) (clock c : ℕ) (m : Up) (sent : List Sent) (es : List Entry)
    → is_lost c es ≡ true → ServerStands p server es → ServerStands p server (took clock c m sent ∷ es)

-- A server that lacks nothing has what any message names.
abbrev pub NamedIsKnown : Type 0
NamedIsKnown = (p : Settings) (server : Server) (c : ℕ) (m : Up) (es : List Entry) → LacksNothing p server es
    → KnowsNamed p server c m es

-- It lacks nothing of later entries either, where what it lacks of those it lacked before.
abbrev pub NothingIsLackedLater : Type 0
NothingIsLackedLater = (p : Settings) (old new : Server) (es later : List Entry) → ServerStands p new later
    → ((o : ℕ) → Lacks p new later o → Lacks p old es o) → LacksNothing p old es → LacksNothing p new later

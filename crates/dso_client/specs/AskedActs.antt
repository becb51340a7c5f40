-- What an act that only asks makes of a client.
use Rattle.std.specs.List.{list_any}
use Rattle.std.specs.Prelude.{◌≡◌, ℕ, true, false, Some, None, List, ◌∷◌}
use Rattle.dso_base.specs.declared.journal.Entry.{Entry}
use Rattle.dso_base.specs.declared.message.Up.{Up}
use Rattle.dso_base.specs.declared.message.Up.TheVariants as up
use Rattle.dso_base.specs.declared.request.Request.{Request}
use Rattle.dso_base.specs.Following.{is_thread}
use Rattle.dso_law.specs.Settings.{Settings, threads_of}
use Rattle.dso_law.specs.Copies.{is_resident, is_object_asked}
use Rattle.dso_law.specs.Leases.{leased, is_asked_for}
use Rattle.dso_machine.specs.declared.code.Code.{Code}
use Rattle.dso_client.specs.declared.client_state.ClientState.{ClientState}
use Rattle.dso_client.specs.ClientStands.{ClientStands, point}
use Rattle.dso_client.specs.Entries.{asked_entry}
use Rattle.dso_client.specs.Openings.{thread_at}
use Rattle.dso_client.specs.RunPoints.{RunPoint}
use Rattle.dso_client.specs.Turns.{Asks}

-- the point once the thread of this index asked with this message
abbrev pub asked : ℕ → ℕ → Up → RunPoint → RunPoint
asked clock index m at = record at { entries = asked_entry clock at.client index m ∷ at.entries }

-- the message asks for something that the client neither has nor asked for before
abbrev pub IsMissing : List Entry → Up → Type 0
IsMissing es up.IdAsk = Unit {0}
IsMissing es (up.Fault o) = (is_resident o es ≡ false) × (is_object_asked o es ≡ false)
IsMissing es (up.Request l level) = (leased l es ≡ None) × (is_asked_for l es ≡ false)
IsMissing es m = ⊥

-- Whatever entries the client stood for, where the turn of its thread of this index is to ask with the message: it
-- stands for them with the entry that asks, which follows them by the client rule.
abbrev pub HasAsked : ℕ → Up → ClientState → ClientState → Type 0
HasAsked index m old new = (code : Code) (p : Settings) (c clock : ℕ) (es : List Entry) (request : Request)
    → ClientStands code p c old es
    → list_any (is_thread (thread_at c index)) (threads_of p c) ≡ true
    → (point code p c es).next (thread_at c index) ≡ Some request
    → Asks (point code p c es) (thread_at c index) request m
    → ClientStands code p c new (asked_entry clock c index m ∷ es)

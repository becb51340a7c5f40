-- What an act that is answered makes of a client.
use Rattle.std.specs.List.{list_any}
use Rattle.std.specs.Prelude.{◌≡◌, ◌++◌, ℕ, true, is_some, Bool, Option, Some, List, ◌∷◌}
use Rattle.dso_base.specs.declared.journal.Entry.{Entry}
use Rattle.dso_base.specs.declared.lock.Level.TheVariants.{Write}
use Rattle.dso_base.specs.declared.lock.LockName.{LockName}
use Rattle.dso_base.specs.declared.lock.ThreadId.{ThreadId}
use Rattle.dso_base.specs.declared.message.Up.{Up}
use Rattle.dso_base.specs.declared.record.Txn.{Txn}
use Rattle.dso_base.specs.declared.request.Request.{Request}
use Rattle.dso_base.specs.declared.request.Request.TheVariants.{Enter}
use Rattle.dso_base.specs.declared.shape.Shape.{Shape}
use Rattle.dso_base.specs.Following.{is_thread}
use Rattle.dso_law.specs.ClientStep.{asks_again, commits, returns}
use Rattle.dso_law.specs.Closing.{is_closing}
use Rattle.dso_law.specs.Leases.{leased}
use Rattle.dso_law.specs.Settings.{Settings, threads_of}
use Rattle.dso_machine.specs.declared.code.Code.{Code}
use Rattle.dso_client.specs.declared.answered.Answered.{Answered}
use Rattle.dso_client.specs.declared.client_state.ClientState.{ClientState}
use Rattle.dso_client.specs.ClientStands.{ClientStands, point}
use Rattle.dso_client.specs.StateStands.{StateStands, ClientPartsStand}
use Rattle.dso_client.specs.ActEffects.{acting, acting_entry, event_of, applied}
use Rattle.dso_client.specs.RunPoints.{RunPoint}
use Rattle.dso_client.specs.LeaseReturns.{record_sent}
use Rattle.dso_client.specs.Turns.{AnswersNext}

-- The client stands, of which the act's thread is one, and the act answers its request by the rule: its needs are met.
pub record IsAnswering (at : RunPoint) (shape : Shape) (act : Answered) (old : ClientState) : Type 0 where
  pub stands : StateStands at old
  pub shape_is : at.settings.shape ≡ shape
  pub mine : act.thread.client ≡ at.client
  pub its : list_any (is_thread act.thread) (threads_of at.settings at.client) ≡ true
  pub answers : AnswersNext at act.thread act.request act.reply act.woken

-- all that is kept stands for the act, before anything is sent; this record, if there is one, is what the rule sends
pub record StandsApplied (clock : ℕ) (at : RunPoint) (act : Answered) (txn : Option Txn) (new : ClientState)
    : Type 0 where
  pub parts : ClientPartsStand (applied clock act at) new
  pub commits : record_sent txn ≡ commits at.settings act.thread (event_of act) at.entries

-- the record is sent, if there is one, and all that is kept stands with it
pub record StandsHandedIn (clock : ℕ) (at : RunPoint) (act : Answered) (txn : Option Txn) (sent : List Up)
    (new : ClientState)
    : Type 0 where
  pub sends : sent ≡ record_sent txn
  pub parts : ClientPartsStand (acting clock act (record_sent txn) at.next at) new

-- it tells whether the lease of the lock is closing that this request enters at Write, where there is a lease of it
abbrev pub TellsClosing : RunPoint → Option Request → Bool → Type 0
TellsClosing at next closing = (l : LockName) → next ≡ Some (Enter l Write) → is_some (leased l at.entries) ≡ true
    → closing ≡ is_closing at.settings at.client at.next l at.entries

-- behind the record what the rule has the act send is sent, and all that is kept stands with it
pub record StandsSent (clock : ℕ) (at : RunPoint) (act : Answered) (txn : Option Txn) (later : ThreadId
    → Option Request)
    (sent : List Up) (new : ClientState) : Type 0 where
  pub sends : sent ≡ record_sent txn ++ returns at.settings at.client later (applied clock act at).entries
      ++ asks_again at.settings at.client at.next later (later act.thread) (applied clock act at).entries at.entries
  pub parts : ClientPartsStand (acting clock act sent later at) new

-- Whatever entries the client stood for, where the act answers the next request of a thread of its own by the rule: it
-- stands for them with the entry that acts and sends these, which follows them by the client rule.
abbrev pub HasAnswered : Code → Answered → ClientState → ClientState → List Up → Type 0
HasAnswered code act old new sent = (p : Settings) (clock : ℕ) (es : List Entry)
    → ClientStands code p act.thread.client old es
    → list_any (is_thread act.thread) (threads_of p act.thread.client) ≡ true
    → (point code p act.thread.client es).next act.thread ≡ Some act.request
    → AnswersNext (point code p act.thread.client es) act.thread act.request act.reply act.woken
    → ClientStands code p act.thread.client new (acting_entry clock act.thread.client act sent ∷ es)

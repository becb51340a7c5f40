-- What a thread's turn comes to.
use Rattle.std.specs.Option.{option_and_then}
use Rattle.std.specs.Prelude.{◌≡◌, ℕ, Bool, true, false, is_some, Option, Some, None}
use Rattle.dso_base.specs.declared.lock.ThreadId.{ThreadId}
use Rattle.dso_base.specs.declared.message.Up.{Up}
use Rattle.dso_base.specs.declared.request.Reply.{Reply}
use Rattle.dso_base.specs.declared.request.Request.{Request}
use Rattle.dso_base.specs.declared.request.Request.TheVariants.{New, Look, Get, Put}
use Rattle.dso_base.specs.Following.{IsListed}
use Rattle.dso_law.specs.ClientStep.{can_act}
use Rattle.dso_law.specs.Replies.{reply_of, woken_by}
use Rattle.dso_law.specs.RequestNeeds.{Need, unmet, ask_for}
use Rattle.dso_client.specs.declared.cause.Cause.{Cause}
use Rattle.dso_client.specs.declared.cause.Cause.TheVariants as cause
use Rattle.dso_client.specs.declared.unmet_need.UnmetNeed.{UnmetNeed}
use Rattle.dso_client.specs.declared.unmet_need.UnmetNeed.TheVariants as unmet_need
use Rattle.dso_client.specs.declared.thread_context.ThreadContext.{ThreadContext}
use Rattle.dso_client.specs.declared.turn.Turn.{Turn}
use Rattle.dso_client.specs.declared.turn.Turn.TheVariants as turn
use Rattle.dso_client.specs.UnmetNeeds.{TellsNeed}
use Rattle.dso_client.specs.RunPoints.{RunPoint}

-- the cause that is told of what is lacking
abbrev pub cause_of : UnmetNeed → Cause
cause_of unmet_need.Id = cause.Ids
cause_of (unmet_need.Object o) = cause.Object o
cause_of (unmet_need.Class o) = cause.Object o
cause_of (unmet_need.Mark l) = cause.Wake l
cause_of (unmet_need.Lease l level) = cause.Lease l
cause_of (unmet_need.OthersOut l level other) = cause.LocalHolder other
cause_of (unmet_need.Ack seq) = cause.Ack seq

-- the cause is that of the need, and names the right ones
pub record NamesNeed (at : RunPoint) (t : ThreadId) (need : Need) (told : Cause) : Type 0 where
  pub lacking : UnmetNeed
  pub tells : TellsNeed at t (Some need) (Some lacking)
  pub told_so : told ≡ cause_of lacking

-- the request is a Get or a Put of the object that the cause names
abbrev pub NamesAccessed : Request → Cause → Type 0
NamesAccessed (Get o f) told = told ≡ cause.Object o
NamesAccessed (Put o f v) told = told ≡ cause.Object o
NamesAccessed request told = ⊥

-- The cause is that of the first need that isn't met. Where all are met and there is no reply, the request reads or
-- writes a field that its object doesn't have, and the cause is that object; no sound program makes such a request.
abbrev pub IsCause : RunPoint → ThreadId → Request → Option Need → Cause → Type 0
IsCause at t request None told = NamesAccessed request told
IsCause at t request (Some need) told = NamesNeed at t need told

-- all needs of the request are met: this is the reply, and whom the act wakes
pub record AnswersNext (at : RunPoint) (t : ThreadId) (request : Request) (reply : Reply) (woken : Option ThreadId)
    : Type 0 where
  pub met : unmet at.settings at.client at.next t request at.entries ≡ None
  pub replied : reply_of at.settings t request at.entries ≡ Some reply
  pub wakes : woken ≡ woken_by request reply at.entries

-- a need isn't met, and this message asks for it
pub record Asks (at : RunPoint) (t : ThreadId) (request : Request) (message : Up) : Type 0 where
  pub need : Need
  pub lacks : unmet at.settings at.client at.next t request at.entries ≡ Some need
  pub asked : ask_for need at.entries ≡ Some message

-- the client rule has no act of the thread, for this cause
pub record Waits (at : RunPoint) (t : ThreadId) (request : Request) (told : Cause) : Type 0 where
  pub closed : can_act at.settings at.client at.next t (Some request) at.entries ≡ false
  pub of_need : IsCause at t request (unmet at.settings at.client at.next t request at.entries) told

-- what the turn comes to with this request
abbrev pub IsTurn : RunPoint → ThreadId → Request → Turn → Type 0
IsTurn at t request (turn.AnswersNext reply woken) = AnswersNext at t request reply woken
IsTurn at t request (turn.Asks message) = Asks at t request message
IsTurn at t request (turn.Waits told) = Waits at t request told

-- the request has a reply, where its needs are met
abbrev pub IsAnswerable : RunPoint → ThreadId → Request → Type 0
IsAnswerable at t request = unmet at.settings at.client at.next t request at.entries ≡ None
    → is_some (reply_of at.settings t request at.entries) ≡ true

-- a need of the request isn't met, and the cause is that of the first such
pub record IsOfNeed (at : RunPoint) (t : ThreadId) (request : Request) (told : Cause) : Type 0 where
  pub need : Need
  pub lacks : unmet at.settings at.client at.next t request at.entries ≡ Some need
  pub names : NamesNeed at t need told

-- the request makes, looks at, reads or writes an object
abbrev pub is_of_object : Request → Bool
is_of_object (New class n) = true
is_of_object (Look o) = true
is_of_object (Get o f) = true
is_of_object (Put o f v) = true
is_of_object request = false

-- the reply that the turn comes to, where it is one, is listed for the request
abbrev pub IsListedTurn : Request → Turn → Type 0
IsListedTurn request (turn.AnswersNext reply woken) = IsListed request reply
IsListedTurn request (turn.Asks message) = Unit {0}
IsListedTurn request (turn.Waits told) = Unit {0}

-- the turn with a field of this object, by the reply: where there is none, the thread waits for the object
abbrev pub field_turn : ℕ → Option Reply → Turn
field_turn o None = turn.Waits (cause.Object o)
field_turn o (Some reply) = turn.AnswersNext reply None

-- The thread's next request, and what its turn comes to with it; None where it has none.
abbrev pub IsTurnOf : RunPoint → ThreadId → Option (Request × Turn) → Type 0
IsTurnOf at t None = at.next t ≡ None
IsTurnOf at t (Some (request, turn)) = (at.next t ≡ Some request) × IsTurn at t request turn

-- the request is the next one that is kept of the thread, and the reply is listed for it
abbrev pub IsTurnOfContext : Option ThreadContext → Option (Request × Turn) → Type 0
IsTurnOfContext context None = Unit {0}
IsTurnOfContext context (Some (request, turn)) = (option_and_then (λ context. context.next) context ≡ Some request)
    × IsListedTurn request turn

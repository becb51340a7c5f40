-- For which events a thread stands.
use Rattle.std.specs.Prelude.{◌≡◌, ℕ, ◌+◌, ◌*◌, ◌≤◌, List, ◌++◌, length, Option, None, Some}
use Rattle.dso_base.specs.declared.lock.ThreadId.{ThreadId}
use Rattle.dso_base.specs.declared.request.Event.{Event}
use Rattle.dso_base.specs.declared.request.Reply.{Reply}
use Rattle.dso_base.specs.declared.request.Request.{Request}
use Rattle.dso_base.specs.declared.request.Request.TheVariants as request
use Rattle.dso_machine.specs.declared.code.Code.{Code}
use Rattle.dso_machine.specs.declared.code.ThreadBody.{ThreadBody}
use Rattle.dso_machine.specs.declared.machine.Core.{Core}
use Rattle.dso_machine.specs.declared.continuation.Now.{Now}
use Rattle.dso_machine.specs.declared.continuation.Now.TheVariants as now
use Rattle.dso_machine.specs.declared.continuation.OnReply.{OnReply}
use Rattle.dso_machine.specs.declared.thread.Due.{Due}
use Rattle.dso_machine.specs.declared.thread.Due.TheVariants as due
use Rattle.dso_machine.specs.declared.thread.Thread.{Thread}
use Rattle.dso_machine.specs.Limits.{most_moves}
use Rattle.dso_machine.specs.Next.{body_of, replies_in, whole}
use Rattle.dso_machine.specs.Outcome.{Outcome, Over}
use Rattle.dso_machine.specs.Continuation.{Fuel, Completes, StandsAt, heard, standing}

-- what is done with the reply that is there, and what is left after that, comes to o
pub record MeansHeard (code : Code) (N : ℕ) (r : Reply) (on : OnReply) (core : Core) (rs : List Reply)
    (o : Outcome) : Type 0 where
  pub fuel : Fuel N
  pub rest : Completes code N core.tasks (heard code fuel.n fuel.k on r (standing core rs)) o

-- What is done with the reply that is there comes to what all of the code comes to after these replies, of which it
-- is the last, and any that are still to come: with so many moves as were made, of which there are not more than
-- those replies allow.
pub record HearsAt (code : Code) (body : ThreadBody) (r : Reply) (on : OnReply) (core : Core)
    (past : List Reply) : Type 0 where
  pub made : ℕ
  pub bounded : made ≤ most_moves * length past
  pub rested : core.moves ≡ 0
  pub means : (N : ℕ) (rs : List Reply) → MeansHeard code N r on core rs (whole code body (made + N) (past ++ rs))

-- All of the code has come to its end: there is nothing that it comes to but that.
pub record IsEnded (code : Code) (body : ThreadBody) (past : List Reply) : Type 0 where
  pub made : ℕ
  pub bounded : made ≤ most_moves * length past + most_moves
  pub over : (N : ℕ) → whole code body (made + N) past ≡ Over

-- where a thread stands after these replies
abbrev pub StandsFor : Code → ThreadBody → Due → Core → List Reply → Type 0
StandsFor code body (due.Going a) core past = StandsAt code body a core past
StandsFor code body (due.Heard r on) core past = HearsAt code body r on core past
StandsFor code body due.Over core past = IsEnded code body past

-- The thread stands for these events, the first of them first: it is one of the program's, and stands where its code
-- comes to by the replies in them.
pub record ThreadStands (code : Code) (t : ThreadId) (thread : Thread) (events : List Event) : Type 0 where
  pub body : ThreadBody
  pub its : body_of t code.bodies ≡ Some body
  pub stands : StandsFor code body thread.due thread.core (replies_in events)

-- the request that is out, if one is
abbrev pub asked_by : Now → Option Request
asked_by (now.Ask q on) = Some q
asked_by (now.End fault) = Some (request.End fault)
asked_by a = None

-- the request that is out where a thread stands, if one is
abbrev pub asked_at : Due → Option Request
asked_at (due.Going a) = asked_by a
asked_at other = None

-- the request that a thread has out, if it has one
abbrev pub asked : Thread → Option Request
asked thread = asked_at thread.due

-- where a thread stands, it has ended
abbrev pub is_over : Due → Type 0
is_over due.Over = Unit {0}
is_over other = ⊥

-- the thread has ended
abbrev pub IsOver : Thread → Type 0
IsOver thread = is_over thread.due

-- what stood for replies does so still, where the thread is about to do this
pub record Resumes (code : Code) (d : Due) (core : Core) (a : Now) (next : Core) : Type 0 where
  pub resumes : (body : ThreadBody) (past : List Reply) → StandsFor code body d core past →
      StandsAt code body a next past

-- after a reply a thread that asked is at what it does with it, and one that ended is over
abbrev pub IsAnswered : Due → Reply → Due → Type 0
IsAnswered (due.Going (now.Ask q on)) r d = d ≡ due.Heard r on
IsAnswered (due.Going (now.End fault)) r d = d ≡ due.Over
IsAnswered other r d = ⊥

-- The next request of a thread, after its events so far.
use Rattle.std.specs.Prelude.{ℕ, suc, ◌+◌, ◌-◌, ◌*◌, cond, List, [], ◌∷◌, length, Option, None, Some}
use Rattle.dso_base.specs.declared.lock.ThreadId.{ThreadId}
use Rattle.dso_base.specs.declared.request.Event.{Event}
use Rattle.dso_base.specs.declared.request.Event.TheVariants.{Act, Lost}
use Rattle.dso_base.specs.declared.request.Reply.{Reply}
use Rattle.dso_base.specs.declared.request.Request.{Request}
use Rattle.dso_base.specs.declared.request.Request.TheVariants.{End}
use Rattle.dso_base.specs.declared.value.Value.TheVariants as value
use Rattle.dso_base.specs.Following.{is_thread}
use Rattle.dso_machine.specs.declared.code.Code.{Code}
use Rattle.dso_machine.specs.declared.code.ThreadBody.{ThreadBody}
use Rattle.dso_machine.specs.Calls.{variables}
use Rattle.dso_machine.specs.Limits.{most_frames, most_moves}
use Rattle.dso_machine.specs.Outcome.{State, Outcome, Wants, Gives, Leaves, Fails, Hears, Over, Stopped, on_reply, ask}
use Rattle.dso_machine.specs.Statements.{block, methods}

-- ---- the whole of a thread

-- The end of a thread's code is asked for; what the reply is makes no difference. A return ends the code as its last
-- statement does.
abbrev pub finish : Outcome → Outcome
finish (Gives v at) = on_reply (λ r at. Over) (ask (End None) at)
finish (Leaves v at) = on_reply (λ r at. Over) (ask (End None) at)
finish (Fails fault at) = on_reply (λ r at. Over) (ask (End (Some fault)) at)
finish (Hears r at) = Over
finish (Wants q env) = Wants q env
finish Over = Over
finish Stopped = Stopped

-- Where a thread stands before its first statement: the environment of its body has no object and so many variables.
-- The body is one of the frames, and the rest are calls that may nest in it.
abbrev pub opening : ℕ → List Reply → State
opening vars replies = record {
  environment = record { this = value.Null; vars = variables vars []; depth_left = most_frames - 1; outer = [] };
  moves = 0;
  replies = replies;
}

-- what a thread's code comes to after these replies, for at most n moves
abbrev pub whole : Code → ThreadBody → ℕ → List Reply → Outcome
whole code body n replies = finish (block code (methods code n) n body.body (opening body.vars replies))

-- No thread makes so many moves with these replies: for each of them the most moves that may be made without a
-- request, and those before the first.
abbrev pub enough_for : List Reply → ℕ
enough_for replies = most_moves * length replies + suc most_moves

-- ---- the next request

-- what a part wants, if it wants something
abbrev pub request_of : Outcome → Option Request
request_of (Wants q env) = Some q
request_of other = None

-- the replies of a thread's events
abbrev pub replies_in : List Event → List Reply
replies_in [] = []
replies_in (Act thread request reply woken ∷ events) = reply ∷ replies_in events
replies_in (Lost client ∷ events) = replies_in events

-- what the thread runs, if it is there
abbrev pub body_of : ThreadId → List ThreadBody → Option ThreadBody
body_of t [] = None
body_of t (body ∷ bodies) = cond (is_thread t body.thread) (Some body) (body_of t bodies)

-- the request after these replies
abbrev pub next_of : Code → List Reply → Option ThreadBody → Option Request
next_of code replies None = None
next_of code replies (Some body) = request_of (whole code body (enough_for replies) replies)

-- The next request of a thread after its events, the first of them first; None after its end, and where there is no
-- such thread.
abbrev pub next_request : Code → ThreadId → List Event → Option Request
next_request code t events = next_of code (replies_in events) (body_of t code.bodies)

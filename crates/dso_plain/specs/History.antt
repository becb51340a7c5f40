-- Runs of events from a state, and legal histories.
use Rattle.std.specs.Prelude.{Bool, false, cond, Option, List, [], ◌∷◌}
use Rattle.dso_base.specs.declared.lock.ThreadId.{ThreadId}
use Rattle.dso_base.specs.declared.request.Event.{Event}
use Rattle.dso_base.specs.declared.request.Event.TheVariants.{Act, Lost}
use Rattle.dso_base.specs.declared.request.Reply.{Reply}
use Rattle.dso_base.specs.declared.request.Request.{Request}
use Rattle.dso_base.specs.declared.shape.Shape.{Shape}
use Rattle.dso_base.specs.Following.{is_thread, FollowsProgram}
use Rattle.dso_plain.specs.State.{PlainState, opening}
use Rattle.dso_plain.specs.Possible.{May, MayButMarks, FitsMarks}
use Rattle.dso_plain.specs.After.{after}

-- the events, the first of them first, are possible one after the other from this state
abbrev pub Runs : Shape → List Event → PlainState → Type 0
Runs shape [] s = Unit {0}
Runs shape (e ∷ es) s = May shape e s × Runs shape es (after shape e s)

-- so whatever is marked
abbrev pub RunsButMarks : Shape → List Event → PlainState → Type 0
RunsButMarks shape [] s = Unit {0}
RunsButMarks shape (e ∷ es) s = MayButMarks shape e s × RunsButMarks shape es (after shape e s)

-- each of the events finds the marks that it asks for, one after the other
abbrev pub ChoicesFit : Shape → List Event → PlainState → Type 0
ChoicesFit shape [] s = Unit {0}
ChoicesFit shape (e ∷ es) s = FitsMarks e s × ChoicesFit shape es (after shape e s)

-- the state at the end of the events
abbrev pub end_of : Shape → List Event → PlainState → PlainState
end_of shape [] s = s
end_of shape (e ∷ es) s = end_of shape es (after shape e s)

-- the last state after a history
abbrev pub last_state : Shape → List Event → PlainState
last_state shape h = end_of shape h (opening shape)

-- whether the event is an act of the thread
abbrev pub is_act_of : ThreadId → Event → Bool
is_act_of t (Act thread request reply woken) = is_thread t thread
is_act_of t (Lost client) = false

-- the thread's events in their order
abbrev pub events_of : ThreadId → List Event → List Event
events_of t [] = []
events_of t (e ∷ es) = cond (is_act_of t e) (e ∷ events_of t es) (events_of t es)

-- A program tells the next request of a thread after its events so far (None after its end), and which replies are
-- listed for that request.
module _ (next : ThreadId → List Event → Option Request) (Listed : ThreadId → List Event → Reply → Type 0) where
  -- A legal history: a run of plain steps from the opening state, in which each thread follows the program.
  pub record IsLegal (shape : Shape) (h : List Event) : Type 0 where
    pub runs : Runs shape h (opening shape)
    pub follows : (t : ThreadId) → FollowsProgram next Listed t (events_of t h)

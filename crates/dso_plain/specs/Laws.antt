-- The laws of one heap with plain monitors.
use Rattle.std.specs.Prelude.{◌≡◌, ◌↔◌, Bool, true, Option, List, ◌++◌}
use Rattle.dso_base.specs.declared.lock.Level.{Level}
use Rattle.dso_base.specs.declared.lock.LockName.{LockName}
use Rattle.dso_base.specs.declared.lock.ThreadId.{ThreadId}
use Rattle.dso_base.specs.declared.request.Event.{Event}
use Rattle.dso_base.specs.declared.request.Reply.{Reply}
use Rattle.dso_base.specs.declared.request.Request.{Request}
use Rattle.dso_base.specs.declared.shape.Shape.{Shape}
use Rattle.dso_base.specs.Following.{FollowsFrom}
use Rattle.dso_plain.specs.State.{PlainState, opening}
use Rattle.dso_plain.specs.History.{Runs, RunsButMarks, ChoicesFit, end_of, last_state, events_of, IsLegal}
use Rattle.dso_plain.specs.Monitors.{KeepsMonitors}
use Rattle.dso_plain.specs.Past.{KeepsPast, PastsGrow}
use Rattle.dso_plain.specs.Touches.{TouchesIn, MakesIn, AreActsOf, AreActsOfOthers, NobodyTimesOut, NoClash, NoCommonId}

-- Two kinds: a run is a run whatever is marked, in which each event finds the marks that it asks for.
abbrev pub RunsAreChoices : Type 0
RunsAreChoices = (shape : Shape) (es : List Event) (s : PlainState)
    → Runs shape es s ↔ (RunsButMarks shape es s × ChoicesFit shape es s)

-- Two runs from one state that have nothing to do with each other, whatever is marked: the second is one thread's, the
-- first is of threads other than that one; their locks do not clash, and they make no common id.
pub record AreApart (shape : Shape) (t : ThreadId) (others own : List Event) (s : PlainState) : Type 0 where
  pub others_act : AreActsOfOthers t others
  pub own_acts : AreActsOf t own
  pub others_run : RunsButMarks shape others s
  pub own_runs : RunsButMarks shape own s
  pub locks : NoClash (TouchesIn shape others s) (TouchesIn shape own s)
  pub ids : NoCommonId (MakesIn others) (MakesIn own)

-- each run can follow the other, whatever is marked, both orders end in the same state, and neither run touches more
-- than it did
pub record CanSwap (shape : Shape) (others own : List Event) (s : PlainState) : Type 0 where
  pub own_after : RunsButMarks shape own (end_of shape others s)
  pub others_after : RunsButMarks shape others (end_of shape own s)
  pub same_end : end_of shape own (end_of shape others s) ≡ end_of shape others (end_of shape own s)
  pub own_touches : (l : LockName) (x : Level) → TouchesIn shape own (end_of shape others s) l x
      → TouchesIn shape own s l x
  pub others_touch : (l : LockName) (x : Level) → TouchesIn shape others (end_of shape own s) l x
      → TouchesIn shape others s l x

-- Diamond: two runs that are apart can swap, be the first of one thread or of several.
abbrev pub Diamond : Type 0
Diamond = (shape : Shape) (t : ThreadId) (others own : List Event) (s : PlainState) → AreApart shape t others own s
    → CanSwap shape others own s

-- Choices: where two runs are apart and nobody times out in them, each finds behind the other the marks that it asks
-- for. A timeout marks its thread under no lock, and a notification of the other run could have chosen that thread.
abbrev pub ChoicesSwap : Type 0
ChoicesSwap = (shape : Shape) (t : ThreadId) (others own : List Event) (s : PlainState)
    → AreApart shape t others own s → NobodyTimesOut others → NobodyTimesOut own → Runs shape others s
    → Runs shape own s
    → Runs shape own (end_of shape others s) × Runs shape others (end_of shape own s)

-- Parts: a run of two lists of events in order is a run of the first and, from where that ends, of the second.
abbrev pub RunsInParts : Type 0
RunsInParts = (shape : Shape) (first second : List Event) (s : PlainState)
    → Runs shape (first ++ second) s ↔ (Runs shape first s × Runs shape second (end_of shape first s))

-- Parts: so it is of a run whatever is marked.
abbrev pub RunsButMarksInParts : Type 0
RunsButMarksInParts = (shape : Shape) (first second : List Event) (s : PlainState)
    → RunsButMarks shape (first ++ second) s
    ↔ (RunsButMarks shape first s × RunsButMarks shape second (end_of shape first s))

-- Parts: a run of two lists of events in order ends where the second does from the end of the first.
abbrev pub EndsInParts : Type 0
EndsInParts = (shape : Shape) (first second : List Event) (s : PlainState)
    → end_of shape (first ++ second) s ≡ end_of shape second (end_of shape first s)

-- Past: what is said of pasts holds in each state that a run from the opening state reaches, whatever is marked.
abbrev pub Past : Type 0
Past = (shape : Shape) (h : List Event) → RunsButMarks shape h (opening shape) → KeepsPast (last_state shape h)

-- Growth: a run from any state, whatever is marked, lets pasts only grow.
abbrev pub Growth : Type 0
Growth = (shape : Shape) (es : List Event) (s : PlainState)
    → RunsButMarks shape es s → PastsGrow s (end_of shape es s)

-- Going on: a legal history with more events behind it is legal where these run from its last state and each thread's
-- events among them follow the program after those that it has.
abbrev pub LegalGoesOn : Type 0
LegalGoesOn = (next : ThreadId → List Event → Option Request) (listed : ThreadId → List Event → Reply → Bool)
    (shape : Shape) (h more : List Event) → IsLegal next (λ t es reply. listed t es reply ≡ true) shape h
    → Runs shape more (last_state shape h)
    → ((t : ThreadId) → FollowsFrom next (λ t es reply. listed t es reply ≡ true) t (events_of t h)
    (events_of t more)) → IsLegal next (λ t es reply. listed t es reply ≡ true) shape (h ++ more)

-- Monitors: what is said of monitors holds in each state that a run from the opening state reaches.
abbrev pub Monitors : Type 0
Monitors = (shape : Shape) (h : List Event) → Runs shape h (opening shape) → KeepsMonitors (last_state shape h)

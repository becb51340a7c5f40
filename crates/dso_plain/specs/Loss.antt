-- What the loss of a client leaves to the others.
use Rattle.std.specs.Prelude.{ℕ, ◌≡◌, ◌≢◌, ◌↔◌, Option, Some, None, List, [], ◌∷◌}
use Rattle.dso_base.specs.declared.lock.Level.{Level}
use Rattle.dso_base.specs.declared.lock.LockName.{LockName}
use Rattle.dso_base.specs.declared.lock.ThreadId.{ThreadId}
use Rattle.dso_base.specs.declared.request.Event.{Event}
use Rattle.dso_base.specs.declared.request.Event.TheVariants.{Act, Lost}
use Rattle.dso_base.specs.declared.request.Reply.TheVariants.{Done}
use Rattle.dso_base.specs.declared.request.Request.TheVariants.{Notify}
use Rattle.dso_base.specs.declared.shape.Shape.{Shape}
use Rattle.dso_plain.specs.State.{PlainState}
use Rattle.dso_plain.specs.Possible.{IsPossible, IsUnmarkedWaiter, Wakes}
use Rattle.dso_plain.specs.After.{after}
use Rattle.dso_plain.specs.History.{Runs, RunsButMarks, end_of}
use Rattle.dso_plain.specs.Touches.{TouchesIn}

-- nobody is woken, or a thread of another client
abbrev pub WakesNoneOf : ℕ → Option ThreadId → Type 0
WakesNoneOf client None = Unit {0}
WakesNoneOf client (Some w) = w.client ≢ client

-- the event is an act of another client's thread, and wakes no thread of this client
abbrev pub IsApartFrom : ℕ → Event → Type 0
IsApartFrom client (Act t request reply woken) = (t.client ≢ client) × WakesNoneOf client woken
IsApartFrom client (Lost lost) = ⊥

-- each of the events is an act of another client's thread, and wakes no thread of this client
abbrev pub AreApartFrom : ℕ → List Event → Type 0
AreApartFrom client [] = Unit {0}
AreApartFrom client (e ∷ es) = IsApartFrom client e × AreApartFrom client es

-- what is so of a run after the loss, whatever is marked: it is still a run, it does not matter whether the loss comes
-- before or after it, and it touches no more than it did
pub record SurvivesLoss (shape : Shape) (client : ℕ) (es : List Event) (s : PlainState) : Type 0 where
  pub still_runs : RunsButMarks shape es (after shape (Lost client) s)
  pub same_end : end_of shape es (after shape (Lost client) s) ≡ after shape (Lost client) (end_of shape es s)
  pub touches : (l : LockName) (x : Level) → TouchesIn shape es (after shape (Lost client) s) l x
      → TouchesIn shape es s l x

-- Loss: a run of threads of other clients that notifies no thread of the client survives the client's loss, whatever is
-- marked.
abbrev pub Loss : Type 0
Loss = (shape : Shape) (client : ℕ) (es : List Event) (s : PlainState) → RunsButMarks shape es s
    → AreApartFrom client es → SurvivesLoss shape client es s

-- Marks: and it finds the marks that it asks for, where it did before.
abbrev pub MarksAfterLoss : Type 0
MarksAfterLoss = (shape : Shape) (client : ℕ) (es : List Event) (s : PlainState) → Runs shape es s
    → AreApartFrom client es → Runs shape es (after shape (Lost client) s)

-- The waiters left after the loss are those of other clients.
abbrev pub WaitersLeft : Type 0
WaitersLeft = (shape : Shape) (client : ℕ) (s : PlainState) (l : LockName) (w : ThreadId)
    → IsUnmarkedWaiter l w (after shape (Lost client) s) ↔ (IsUnmarkedWaiter l w s × (w.client ≢ client))

-- Choice: where a thread of another client could notify somebody or nobody, it can notify, after the loss, whom it
-- chooses among the waiters left, and nobody exactly where none is left.
abbrev pub ChoiceAfterLoss : Type 0
ChoiceAfterLoss = (shape : Shape) (client : ℕ) (s : PlainState) (t : ThreadId) (l : LockName)
    (before chosen : Option ThreadId) → t.client ≢ client → IsPossible shape t (Notify l) Done before s
    → IsPossible shape t (Notify l) Done chosen (after shape (Lost client) s)
    ↔ Wakes (Notify l) Done chosen (after shape (Lost client) s)

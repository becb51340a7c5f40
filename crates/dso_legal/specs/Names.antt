-- Which objects a thread knows: those that it was told are its own or shared, and so are those that it finds in them.
use Rattle.std.specs.Prelude.{ℕ, ◌≡◌, ◌≢◌, ◌⊎◌, true, Some, None, List, [], ◌∷◌, ◌++◌}
use Rattle.dso_base.specs.declared.lock.ThreadId.{ThreadId}
use Rattle.dso_base.specs.declared.request.Event.{Event}
use Rattle.dso_base.specs.declared.request.Event.TheVariants.{Act, Lost}
use Rattle.dso_base.specs.declared.shape.Shape.{Shape}
use Rattle.dso_base.specs.declared.value.Value.TheVariants as value
use Rattle.dso_plain.specs.State.{PlainState, IsPrivate, IsShared, opening}
use Rattle.dso_plain.specs.Possible.{StandsFrom}
use Rattle.dso_plain.specs.History.{RunsButMarks, last_state, events_of}
use Rattle.dso_plain.specs.Touches.{MakesIn}
use Rattle.dso_legal.specs.SoundProgram.{was_told, NamesOnlyTold}

-- the object is the thread's own or shared
abbrev pub IsKnown : ThreadId → ℕ → PlainState → Type 0
IsKnown t o s = IsPrivate t o s ⊎ IsShared o s

-- an event names only what the events before it told
abbrev pub EventNamesTold : Event → List Event → Type 0
EventNamesTold (Act t request reply woken) before = NamesOnlyTold request before
EventNamesTold (Lost client) before = Unit {0}

-- each of the events, which stand behind others, names only what those before it told
abbrev pub NameOnlyTold : List Event → List Event → Type 0
NameOnlyTold before [] = Unit {0}
NameOnlyTold before (event ∷ events) = EventNamesTold event before × NameOnlyTold (before ++ event ∷ []) events

-- What a thread, after its events, can name is its own or shared: what it was told, and what its own objects hold; and
-- what a shared field holds or held is shared.
pub record NamesAreKnown (t : ThreadId) (events : List Event) (s : PlainState) : Type 0 where
  pub told : (o : ℕ) → was_told o events ≡ true → IsKnown t o s
  pub own : (o f named : ℕ) → IsPrivate t o s → s.heap (o, f) ≡ Some (value.Ref named) → IsKnown t named s
  pub shared : (o f named : ℕ) → IsShared o s → StandsFrom 0 (value.Ref named) (s.past (o, f)) → IsShared named s

-- Names are known: after a history in which each thread names only what it was told.
abbrev pub NamesStayKnown : Type 0
NamesStayKnown = (shape : Shape) (h : List Event) → RunsButMarks shape h (opening shape)
    → ((t : ThreadId) → NameOnlyTold [] (events_of t h))
    → (t : ThreadId) → NamesAreKnown t (events_of t h) (last_state shape h)

-- Each object but object 0 was made in the history.
abbrev pub ObjectsAreMade : Type 0
ObjectsAreMade = (shape : Shape) (h : List Event) → RunsButMarks shape h (opening shape) → (o : ℕ)
    → (last_state shape h).objects o ≢ None → (o ≡ 0) ⊎ MakesIn h o

-- A run is a run whatever is marked, in which each event finds the marks that it asks for.
use Rattle.std.proofs.Common.{◌↔◌, Option, List, [], ◌∷◌}
use Rattle.dso_base.specs.declared.lock.ThreadId.{ThreadId}
use Rattle.dso_base.specs.declared.request.Event.{Event}
use Rattle.dso_base.specs.declared.request.Event.TheVariants.{Act, Lost}
use Rattle.dso_base.specs.declared.request.Reply.{Reply}
use Rattle.dso_base.specs.declared.request.Request.{Request}
use Rattle.dso_base.specs.declared.shape.Shape.{Shape}
use Rattle.dso_plain.specs.State.{PlainState}
use Rattle.dso_plain.specs.Possible.{IsPossibleButMarks, IsPossible, May, MayButMarks, FitsMarks}
use Rattle.dso_plain.specs.After.{after}
use Rattle.dso_plain.specs.History.{Runs, RunsButMarks, ChoicesFit}

-- what is possible is so whatever is marked
pub possible_but_marks : (shape : Shape) (t : ThreadId) (request : Request) (reply : Reply) (woken : Option ThreadId) (s : PlainState) → IsPossible shape t request reply woken s → IsPossibleButMarks shape t request reply s
possible_but_marks shape t request reply woken s p = record { connected = p.connected; going = p.going; awake = p.awake; answers = p.answers }

-- an event that is possible is possible whatever is marked
pub may_but_marks : (shape : Shape) (e : Event) (s : PlainState) → May shape e s → MayButMarks shape e s
may_but_marks shape (Act t request reply woken) s m = possible_but_marks shape t request reply woken s m
may_but_marks shape (Lost client) s m = m

-- an event that is possible finds the marks that it asks for
pub fits_marks : (shape : Shape) (e : Event) (s : PlainState) → May shape e s → FitsMarks e s
fits_marks shape (Act t request reply woken) s m = (m.finds, m.wakes)
fits_marks shape (Lost client) s m = tt

-- an event that is possible whatever is marked, and finds its marks, is possible
pub may_with_marks : (shape : Shape) (e : Event) (s : PlainState) → MayButMarks shape e s → FitsMarks e s → May shape e s
may_with_marks shape (Act t request reply woken) s p fits = record {
  connected = p.connected;
  going = p.going;
  awake = p.awake;
  answers = p.answers;
  finds = fits.0;
  wakes = fits.1;
}
may_with_marks shape (Lost client) s m fits = m

-- a run is one whatever is marked
pub runs_but_marks : (shape : Shape) (es : List Event) (s : PlainState) → Runs shape es s → RunsButMarks shape es s
runs_but_marks shape [] s m = tt
runs_but_marks shape (e ∷ es) s m = (may_but_marks shape e s m.0, runs_but_marks shape es (after shape e s) m.1)

-- its events find the marks that they ask for
pub choices_fit : (shape : Shape) (es : List Event) (s : PlainState) → Runs shape es s → ChoicesFit shape es s
choices_fit shape [] s m = tt
choices_fit shape (e ∷ es) s m = (fits_marks shape e s m.0, choices_fit shape es (after shape e s) m.1)

-- and where they do, what runs whatever is marked runs
pub runs_with_marks : (shape : Shape) (es : List Event) (s : PlainState) → RunsButMarks shape es s → ChoicesFit shape es s → Runs shape es s
runs_with_marks shape [] s m fits = tt
runs_with_marks shape (e ∷ es) s m fits = (may_with_marks shape e s m.0 fits.0, runs_with_marks shape es (after shape e s) m.1 fits.1)

-- a run is both, and nothing else is
pub runs_are_choices : (shape : Shape) (es : List Event) (s : PlainState) → Runs shape es s ↔ (RunsButMarks shape es s × ChoicesFit shape es s)
runs_are_choices shape es s = ((λ m. (runs_but_marks shape es s m, choices_fit shape es s m)), λ h. runs_with_marks shape es s h.0 h.1)

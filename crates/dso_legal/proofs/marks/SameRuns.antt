-- The history runs, whatever is marked, where the one that was made does, and both end alike but for marks.
use Rattle.std.proofs.Common.{◌≡◌, refl, sym, subst, Bool, Option, List, [], ◌∷◌}
use Rattle.dso_base.specs.declared.lock.LockName.{LockName}
use Rattle.dso_base.specs.declared.lock.ThreadId.{ThreadId}
use Rattle.dso_base.specs.declared.request.Event.{Event}
use Rattle.dso_base.specs.declared.request.Event.TheVariants.{Act, Lost}
use Rattle.dso_base.specs.declared.request.Reply.{Reply}
use Rattle.dso_base.specs.declared.request.Request.{Request}
use Rattle.dso_base.specs.declared.shape.Shape.{Shape}
use Rattle.dso_plain.specs.State.{PlainState}
use Rattle.dso_plain.specs.Possible.{IsPossibleButMarks, MayButMarks}
use Rattle.dso_plain.specs.After.{after}
use Rattle.dso_plain.specs.History.{RunsButMarks, end_of}
use Rattle.dso_plain.specs.SameActs.{with_marks}
use Rattle.dso_plain.proofs.histories.OtherMarks.{answers_marked, awake_marked, writes_marked}
use Rattle.dso_legal.specs.Resolved.{IsResolved, AreResolved}

-- whom a lock has marked
abbrev Marks : Type 0
Marks = LockName × ThreadId → Bool

-- what is so of an event, resolved, from a state with other marks
record OneResolved (shape : Shape) (marks : Marks) (made event : Event) (s : PlainState) : Type 0 where
  may : MayButMarks shape event (with_marks marks s)
  same_end : after shape event (with_marks marks s) ≡ with_marks (after shape event (with_marks marks s)).marked (after shape made s)

-- of an act, whomever it wakes
act_resolved : (shape : Shape) (marks : Marks) (t : ThreadId) (request : Request) (reply : Reply) (woken chosen : Option ThreadId) (s : PlainState) → IsPossibleButMarks shape t request reply s
    → OneResolved shape marks (Act t request reply woken) (Act t request reply chosen) s
act_resolved shape marks t request reply woken chosen s may = record {
  may = record {
    connected = may.connected;
    going = may.going;
    awake = awake_marked shape t s marks request may.awake;
    answers = answers_marked shape t s marks request reply may.answers;
  };
  same_end = writes_marked shape t s marks request reply woken chosen (after shape (Act t request reply chosen) (with_marks marks s)).marked;
}

event_resolved : (shape : Shape) (marks : Marks) (made event : Event) (s : PlainState) → MayButMarks shape made s → IsResolved made event → OneResolved shape marks made event s
event_resolved shape marks (Act t request reply woken) event s may is = subst (λ event. OneResolved shape marks (Act t request reply woken) event s) (sym is.same) (act_resolved shape marks t request reply woken _ s may)
event_resolved shape marks (Lost client) event s may is = subst (λ event. OneResolved shape marks (Lost client) event s) (sym is.same) (record { may = may; same_end = refl })

-- What is so of events, resolved, from a state with other marks: they run, whatever is marked, and end alike but for marks.
pub record RunsResolved (shape : Shape) (marks : Marks) (mades events : List Event) (s : PlainState) : Type 0 where
  pub runs : RunsButMarks shape events (with_marks marks s)
  pub same_end : end_of shape events (with_marks marks s) ≡ with_marks (end_of shape events (with_marks marks s)).marked (end_of shape mades s)

-- It is so of all that run as they were made.
pub runs_resolved : (shape : Shape) (marks : Marks) (mades events : List Event) (s : PlainState) → RunsButMarks shape mades s → AreResolved mades events → RunsResolved shape marks mades events s
runs_resolved shape marks [] [] s runs are = record { runs = tt; same_end = refl }
runs_resolved shape marks [] (event ∷ events) s runs are = absurd are
runs_resolved shape marks (made ∷ mades) [] s runs are = absurd are
runs_resolved shape marks (made ∷ mades) (event ∷ events) s runs are =
    let one = event_resolved shape marks made event s runs.0 are.0 in
    let rest = runs_resolved shape (after shape event (with_marks marks s)).marked mades events (after shape made s) runs.1 are.1 in
    record {
      runs = (one.may, subst (λ z. RunsButMarks shape events z) (sym one.same_end) rest.runs);
      same_end = subst (λ z. end_of shape events z ≡ with_marks (end_of shape events z).marked (end_of shape mades (after shape made s))) (sym one.same_end) rest.same_end;
    }

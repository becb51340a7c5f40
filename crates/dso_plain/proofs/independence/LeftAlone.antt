-- What a run leaves as it was.
use Rattle.std.proofs.Common.{ℕ, ◌≡◌, ◌≢◌, inl, inr, refl, sym, ◌∙◌, ap, subst, List, [], ◌∷◌}
use Rattle.dso_base.specs.declared.lock.Level.TheVariants.{Write}
use Rattle.dso_base.specs.declared.lock.ThreadId.{ThreadId}
use Rattle.dso_base.specs.declared.request.Event.{Event}
use Rattle.dso_base.specs.declared.request.Event.TheVariants.{Act, Lost}
use Rattle.dso_base.specs.declared.shape.Shape.{Shape}
use Rattle.dso_plain.specs.State.{PlainState, IsShared, is_shared, guard_in, guard_of_object}
use Rattle.dso_plain.specs.Possible.{MayButMarks}
use Rattle.dso_plain.specs.After.{after}
use Rattle.dso_plain.specs.History.{RunsButMarks, end_of}
use Rattle.dso_plain.specs.Touches.{Touches, TouchesIn, IsActOfOther, AreActsOfOthers, ActTouches, ActMakes}
use Rattle.dso_plain.specs.Own.{LeavesOwn, LeavesField}
use Rattle.dso_plain.proofs.independence.LeavesOthers.{absent_shared, private_or_shared}
use Rattle.dso_plain.proofs.independence.StaysPossible.{kept_private}
use Rattle.dso_plain.proofs.independence.RunsSwap.{quiet_act}

-- an act of another thread
act_leaves_own : (shape : Shape) (t : ThreadId) (e : Event) (s : PlainState) → MayButMarks shape e s → IsActOfOther t e → LeavesOwn t s (after shape e s)
act_leaves_own shape t (Lost client) s m other = absurd other
act_leaves_own shape t (Act u request reply woken) s m other =
    let q = quiet_act shape u request reply woken s m in
    let ne : t ≢ u = λ e. other (sym e) in
    record {
      monitors = λ l. q.monitors l t ne;
      asleep = λ l. q.own_waits l t ne;
      made = q.made t ne;
      seen = λ o f. q.seen (t, o, f) ne;
      output = q.output t ne;
      ended = q.ended t ne;
      lost = q.lost;
      mine = λ o. q.privacy t o ne;
      objects = λ o own. kept_private shape u t (ActTouches u request reply s) (ActMakes request reply) s (after shape (Act u request reply woken) s) ne q o own;
      heap = λ o f own. q.heap_own t (o, f) ne own;
    }

-- a run of other threads
pub leaves_own : (shape : Shape) (t : ThreadId) (es : List Event) (s : PlainState) → RunsButMarks shape es s → AreActsOfOthers t es → LeavesOwn t s (end_of shape es s)
leaves_own shape t [] s m other = record {
  monitors = λ l. refl;
  asleep = λ l. refl;
  made = refl;
  seen = λ o f. refl;
  output = refl;
  ended = refl;
  lost = λ client. refl;
  mine = λ o. refl;
  objects = λ o own. refl;
  heap = λ o f own. refl;
}
leaves_own shape t (e ∷ es) s m other =
    let one = act_leaves_own shape t e s m.0 other.0 in
    let rest = leaves_own shape t es (after shape e s) m.1 other.1 in
    record {
      monitors = λ l. rest.monitors l ∙ one.monitors l;
      asleep = λ l. rest.asleep l ∙ one.asleep l;
      made = rest.made ∙ one.made;
      seen = λ o f. rest.seen o f ∙ one.seen o f;
      output = rest.output ∙ one.output;
      ended = rest.ended ∙ one.ended;
      lost = λ client. rest.lost client ∙ one.lost client;
      mine = λ o. rest.mine o ∙ one.mine o;
      objects = λ o own. rest.objects o (one.mine o ∙ own) ∙ one.objects o own;
      heap = λ o f own. rest.heap o f (one.mine o ∙ own) ∙ one.heap o f own;
    }

-- an event that does not touch the guard at Write
event_leaves_field : (shape : Shape) (e : Event) (s : PlainState) (o f : ℕ) → MayButMarks shape e s → IsShared o s → (Touches e s (guard_in shape s o f) Write → ⊥) → LeavesField o f s (after shape e s)
event_leaves_field shape (Lost client) s o f m common free = record { object = refl; heap = refl; past = refl }
event_leaves_field shape (Act u request reply woken) s o f m common free =
    let q = quiet_act shape u request reply woken s m in
    record {
      object = q.stays o (λ own. private_or_shared u (s.objects o) own common) (λ absent. absent_shared (s.objects o) absent common);
      heap = q.heap (o, f) common free;
      past = q.past (o, f) common free;
    }

-- a run that does not touch the guard at Write
pub leaves_field : (shape : Shape) (es : List Event) (s : PlainState) (o f : ℕ) → RunsButMarks shape es s → IsShared o s → (TouchesIn shape es s (guard_in shape s o f) Write → ⊥) → LeavesField o f s (end_of shape es s)
leaves_field shape [] s o f m common free = record { object = refl; heap = refl; past = refl }
leaves_field shape (e ∷ es) s o f m common free =
    let one = event_leaves_field shape e s o f m.0 common (λ h. free (inl h)) in
    let guard : guard_in shape (after shape e s) o f ≡ guard_in shape s o f = ap (λ x. guard_of_object shape x o f) one.object in
    let rest = leaves_field shape es (after shape e s) o f m.1 (ap (λ x. is_shared x) one.object ∙ common) (λ h. free (inr (subst (λ l. TouchesIn shape es (after shape e s) l Write) guard h))) in
    record {
      object = rest.object ∙ one.object;
      heap = rest.heap ∙ one.heap;
      past = rest.past ∙ one.past;
    }

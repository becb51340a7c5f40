-- A legal history goes on.
use Rattle.std.proofs.Common.{◌≡◌, refl, sym, ◌∙◌, ap, subst, Bool, true, false, cond, Option, List, [], ◌∷◌, ◌++◌}
use Rattle.std.proofs.lemmas.List.{append_assoc, append-nil}
use Rattle.dso_base.specs.declared.lock.ThreadId.{ThreadId}
use Rattle.dso_base.specs.declared.request.Event.{Event}
use Rattle.dso_base.specs.declared.request.Reply.{Reply}
use Rattle.dso_base.specs.declared.request.Request.{Request}
use Rattle.dso_base.specs.declared.shape.Shape.{Shape}
use Rattle.dso_base.specs.Following.{FollowsFrom}
use Rattle.dso_plain.specs.State.{opening}
use Rattle.dso_plain.specs.History.{Runs, last_state, events_of, is_act_of, IsLegal}
use Rattle.dso_plain.proofs.independence.RunsSwap.{runs_in_parts}

-- one event and the rest, before more
chosen_before : (b : Bool) (e : Event) (es more : List Event) → cond b (e ∷ (es ++ more)) (es ++ more) ≡ cond b (e ∷ es) es ++ more
chosen_before true e es more = refl
chosen_before false e es more = refl

-- a thread's events in two parts
pub events_in_parts : (t : ThreadId) (first second : List Event) → events_of t (first ++ second) ≡ events_of t first ++ events_of t second
events_in_parts t [] second = refl
events_in_parts t (e ∷ first) second = ap (λ es. cond (is_act_of t e) (e ∷ es) es) (events_in_parts t first second) ∙ chosen_before (is_act_of t e) e (events_of t first) (events_of t second)

module _ (next : ThreadId → List Event → Option Request) (Listed : ThreadId → List Event → Reply → Type 0) where
  -- events that follow the program, and then more
  pub follows_in_parts : (t : ThreadId) (before first second : List Event) → FollowsFrom next Listed t before first → FollowsFrom next Listed t (before ++ first) second → FollowsFrom next Listed t before (first ++ second)
  follows_in_parts t before [] second f g = subst (λ es. FollowsFrom next Listed t es second) (append-nil before) g
  follows_in_parts t before (e ∷ first) second f g = (f.0, follows_in_parts t (before ++ e ∷ []) first second f.1 (subst (λ es. FollowsFrom next Listed t es second) (sym (append_assoc before (e ∷ []) first)) g))

  -- a legal history goes on
  pub goes_on : (shape : Shape) (h more : List Event) → IsLegal next Listed shape h → Runs shape more (last_state shape h) → ((t : ThreadId) → FollowsFrom next Listed t (events_of t h) (events_of t more)) → IsLegal next Listed shape (h ++ more)
  goes_on shape h more l m f = record {
    runs = (runs_in_parts shape h more (opening shape)).1 (l.runs, m);
    follows = λ t. subst (λ es. FollowsFrom next Listed t [] es) (sym (events_in_parts t h more)) (follows_in_parts t [] (events_of t h) (events_of t more) (l.follows t) (f t));
  }

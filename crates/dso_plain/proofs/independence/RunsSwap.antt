-- Runs that have nothing to do with each other may be taken in either order.
use Rattle.std.proofs.Common.{ℕ, ◌≡◌, ◌≢◌, ◌↔◌, inl, inr, refl, sym, ◌∙◌, ap, subst, Option, List, [], ◌∷◌, ◌++◌}
use Rattle.dso_base.specs.declared.lock.Level.{Level}
use Rattle.dso_base.specs.declared.lock.LockName.{LockName}
use Rattle.dso_base.specs.declared.lock.ThreadId.{ThreadId}
use Rattle.dso_base.specs.declared.request.Event.{Event}
use Rattle.dso_base.specs.declared.request.Event.TheVariants.{Act, Lost}
use Rattle.dso_base.specs.declared.request.Reply.{Reply}
use Rattle.dso_base.specs.declared.request.Request.{Request}
use Rattle.dso_base.specs.declared.shape.Shape.{Shape}
use Rattle.dso_plain.specs.State.{PlainState, level_of}
use Rattle.dso_plain.specs.Possible.{IsPossibleButMarks, MayButMarks}
use Rattle.dso_plain.specs.After.{change_of, apply, after}
use Rattle.dso_plain.specs.History.{Runs, RunsButMarks, end_of}
use Rattle.dso_plain.specs.Touches.{ActTouches, ActMakes, Touches, TouchesIn, Makes, MakesIn, IsActOf, IsActOfOther, AreActsOf, NoClash, NoCommonId}
use Rattle.dso_plain.specs.Laws.{AreApart, CanSwap}
use Rattle.dso_plain.proofs.independence.ChangesCommute.{apply_swap}
use Rattle.dso_plain.proofs.independence.WritesGuarded.{guarded}
use Rattle.dso_plain.proofs.independence.LeavesOthers.{IsQuiet, quiet, disjoint}
use Rattle.dso_plain.proofs.independence.StaysPossible.{still}
use Rattle.dso_plain.proofs.independence.WritesSame.{alike}

-- a step leaves to others what is theirs
pub quiet_act : (shape : Shape) (t : ThreadId) (request : Request) (reply : Reply) (woken : Option ThreadId) (s : PlainState) → IsPossibleButMarks shape t request reply s → IsQuiet shape t (ActTouches t request reply s) (ActMakes request reply) s (after shape (Act t request reply woken) s)
quiet_act shape t request reply woken s m = quiet shape t (ActTouches t request reply s) (ActMakes request reply) s (change_of shape t request reply woken s) (λ l x e. inl e) (guarded shape t s request reply woken m.answers)

-- two that do not clash, the other way round
pub swapped : (touch touch' : LockName → Level → Type 0) → NoClash touch touch' → NoClash touch' touch
swapped touch touch' h l x y p q = let e = h l y x q p in (e.1, e.0)

-- no common id, the other way round
swapped_ids : (makes makes' : ℕ → Type 0) → NoCommonId makes makes' → NoCommonId makes' makes
swapped_ids makes makes' h id p q = h id q p

-- two events of different threads that have nothing to do with each other in state s
pub record Strangers (shape : Shape) (u : ThreadId) (a b : Event) (s : PlainState) : Type 0 where
  pub other : IsActOfOther u a
  pub own : IsActOf u b
  pub first : MayButMarks shape a s
  pub second : MayButMarks shape b s
  pub locks : NoClash (Touches a s) (Touches b s)
  pub ids : NoCommonId (Makes a) (Makes b)

-- what is so of them: each may follow the other, both orders end in the same state, and neither touches more then
pub record Square (shape : Shape) (a b : Event) (s : PlainState) : Type 0 where
  pub second_after : MayButMarks shape b (after shape a s)
  pub first_after : MayButMarks shape a (after shape b s)
  pub same_end : after shape b (after shape a s) ≡ after shape a (after shape b s)
  pub first_touches : (l : LockName) (x : Level) → Touches a (after shape b s) l x → Touches a s l x
  pub second_touches : (l : LockName) (x : Level) → Touches b (after shape a s) l x → Touches b s l x

-- what a thread touches is what it touched before a step of another
touches_still : (shape : Shape) (t u : ThreadId) (touch : LockName → Level → Type 0) (makes : ℕ → Type 0) (request : Request) (reply : Reply) (s r : PlainState) → u ≢ t → IsQuiet shape t touch makes s r → (l : LockName) (x : Level) → ActTouches u request reply r l x → ActTouches u request reply s l x
touches_still shape t u touch makes request reply s r ne q l x (inl e) = inl (sym (ap level_of (q.monitors l u ne)) ∙ e)
touches_still shape t u touch makes request reply s r ne q l x (inr e) = inr e

-- two strangers are so
pub square : (shape : Shape) (u : ThreadId) (a b : Event) (s : PlainState) → Strangers shape u a b s → Square shape a b s
square shape u (Lost client) b s h = absurd h.other
square shape u (Act t request reply woken) (Lost client) s h = absurd h.own
square shape u (Act t request reply woken) (Act v request' reply' woken') s h =
    let t_is_not_v : t ≢ v = λ e. h.other (e ∙ h.own) in
    let v_is_not_t : v ≢ t = λ e. t_is_not_v (sym e) in
    let touch = ActTouches t request reply s in
    let touch' = ActTouches v request' reply' s in
    let makes = ActMakes request reply in
    let makes' = ActMakes request' reply' in
    let c = change_of shape t request reply woken s in
    let d = change_of shape v request' reply' woken' s in
    let q = quiet_act shape t request reply woken s h.first in
    let q' = quiet_act shape v request' reply' woken' s h.second in
    let locks' = swapped touch touch' h.locks in
    let ids' = swapped_ids makes makes' h.ids in
    record {
      second_after = still shape t v touch makes s (apply c s) v_is_not_t q request' reply' h.locks h.ids h.second;
      first_after = still shape v t touch' makes' s (apply d s) t_is_not_v q' request reply locks' ids' h.first;
      same_end = ap (λ x. apply x (apply c s)) (alike shape t v touch makes s (apply c s) v_is_not_t q request' reply' woken' h.locks h.second.answers)
          ∙ (apply_swap c d s (disjoint shape t v touch touch' makes makes' s t_is_not_v h.locks h.ids c d (guarded shape t s request reply woken h.first.answers) (guarded shape v s request' reply' woken' h.second.answers))
          ∙ sym (ap (λ x. apply x (apply d s)) (alike shape v t touch' makes' s (apply d s) t_is_not_v q' request reply woken locks' h.first.answers)));
      first_touches = λ l x. touches_still shape v t touch' makes' request reply s (apply d s) t_is_not_v q' l x;
      second_touches = λ l x. touches_still shape t v touch makes request' reply' s (apply c s) v_is_not_t q l x;
    }

-- one event of another thread in front of a run of u
pub record Front (shape : Shape) (u : ThreadId) (a : Event) (own : List Event) (s : PlainState) : Type 0 where
  pub other : IsActOfOther u a
  pub acts : AreActsOf u own
  pub first : MayButMarks shape a s
  pub runs : RunsButMarks shape own s
  pub locks : NoClash (Touches a s) (TouchesIn shape own s)
  pub ids : NoCommonId (Makes a) (MakesIn own)

-- can go behind it
pub record Behind (shape : Shape) (a : Event) (own : List Event) (s : PlainState) : Type 0 where
  pub runs_after : RunsButMarks shape own (after shape a s)
  pub first_after : MayButMarks shape a (end_of shape own s)
  pub same_end : end_of shape own (after shape a s) ≡ after shape a (end_of shape own s)
  pub touches : (l : LockName) (x : Level) → TouchesIn shape own (after shape a s) l x → TouchesIn shape own s l x
  pub first_touches : (l : LockName) (x : Level) → Touches a (end_of shape own s) l x → Touches a s l x

-- the event and the first of the run are strangers
pub first_strangers : (shape : Shape) (u : ThreadId) (a b : Event) (own : List Event) (s : PlainState) → Front shape u a (b ∷ own) s → Strangers shape u a b s
first_strangers shape u a b own s h = record {
  other = h.other;
  own = h.acts.0;
  first = h.first;
  second = h.runs.0;
  locks = λ l x y p q. h.locks l x y p (inl q);
  ids = λ id p q. h.ids id p (inl q);
}

-- and behind that one the event is in front of the rest
pub front_after : (shape : Shape) (u : ThreadId) (a b : Event) (own : List Event) (s : PlainState) → Front shape u a (b ∷ own) s → Front shape u a own (after shape b s)
front_after shape u a b own s h =
    let d = square shape u a b s (first_strangers shape u a b own s h) in
    record {
      other = h.other;
      acts = h.acts.1;
      first = d.first_after;
      runs = h.runs.1;
      locks = λ l x y p q. h.locks l x y (d.first_touches l x p) (inr q);
      ids = λ id p q. h.ids id p (inr q);
    }

-- an event in front of a run can go behind it
pub behind : (shape : Shape) (u : ThreadId) (a : Event) (own : List Event) (s : PlainState) → Front shape u a own s → Behind shape a own s
behind shape u a [] s h = record { runs_after = tt; first_after = h.first; same_end = refl; touches = λ l x k. k; first_touches = λ l x k. k }
behind shape u a (b ∷ own) s h =
    let d = square shape u a b s (first_strangers shape u a b own s h) in
    let rest = behind shape u a own (after shape b s) (front_after shape u a b own s h) in
    record {
      runs_after = (d.second_after, subst (λ z. RunsButMarks shape own z) (sym d.same_end) rest.runs_after);
      first_after = rest.first_after;
      same_end = ap (λ z. end_of shape own z) d.same_end ∙ rest.same_end;
      touches = λ l x. touched l x d rest;
      first_touches = λ l x k. d.first_touches l x (rest.first_touches l x k);
    }
  where
    touched : (l : LockName) (x : Level) → Square shape a b s → Behind shape a own (after shape b s) → TouchesIn shape (b ∷ own) (after shape a s) l x → TouchesIn shape (b ∷ own) s l x
    touched l x d rest (inl k) = inl (d.second_touches l x k)
    touched l x d rest (inr k) = inr (rest.touches l x (subst (λ z. TouchesIn shape own z l x) d.same_end k))

-- where two runs are apart the first event of the first is in front of the second run
pub front_of : (shape : Shape) (u : ThreadId) (a : Event) (others own : List Event) (s : PlainState) → AreApart shape u (a ∷ others) own s → Front shape u a own s
front_of shape u a others own s h = record {
  other = h.others_act.0;
  acts = h.own_acts;
  first = h.others_run.0;
  runs = h.own_runs;
  locks = λ l x y p q. h.locks l x y (inl p) q;
  ids = λ id p q. h.ids id (inl p) q;
}

-- and behind that event the rest of the first run is apart from the second
pub apart_after : (shape : Shape) (u : ThreadId) (a : Event) (others own : List Event) (s : PlainState) → AreApart shape u (a ∷ others) own s → AreApart shape u others own (after shape a s)
apart_after shape u a others own s h =
    let d = behind shape u a own s (front_of shape u a others own s h) in
    record {
      others_act = h.others_act.1;
      own_acts = h.own_acts;
      others_run = h.others_run.1;
      own_runs = d.runs_after;
      locks = λ l x y p q. h.locks l x y (inr p) (d.touches l y q);
      ids = λ id p q. h.ids id (inr p) q;
    }

-- two runs that are apart can swap
pub diamond : (shape : Shape) (u : ThreadId) (others own : List Event) (s : PlainState) → AreApart shape u others own s → CanSwap shape others own s
diamond shape u [] own s h = record { own_after = h.own_runs; others_after = tt; same_end = refl; own_touches = λ l x k. k; others_touch = λ l x k. k }
diamond shape u (a ∷ others) own s h =
    let d = behind shape u a own s (front_of shape u a others own s h) in
    let rest = diamond shape u others own (after shape a s) (apart_after shape u a others own s h) in
    record {
      own_after = rest.own_after;
      others_after = (d.first_after, subst (λ z. RunsButMarks shape others z) d.same_end rest.others_after);
      same_end = rest.same_end ∙ ap (λ z. end_of shape others z) d.same_end;
      own_touches = λ l x k. d.touches l x (rest.own_touches l x k);
      others_touch = λ l x. touched l x d rest;
    }
  where
    touched : (l : LockName) (x : Level) → Behind shape a own s → CanSwap shape others own (after shape a s) → TouchesIn shape (a ∷ others) (end_of shape own s) l x → TouchesIn shape (a ∷ others) s l x
    touched l x d rest (inl k) = inl (d.first_touches l x k)
    touched l x d rest (inr k) = inr (rest.others_touch l x (subst (λ z. TouchesIn shape others z l x) (sym d.same_end) k))

-- a run in two parts
pub runs_in_parts : (shape : Shape) (first second : List Event) (s : PlainState) → Runs shape (first ++ second) s ↔ (Runs shape first s × Runs shape second (end_of shape first s))
runs_in_parts shape [] second s = (λ p. (tt, p), λ p. p.1)
runs_in_parts shape (e ∷ first) second s =
    let rest = runs_in_parts shape first second (after shape e s) in (
      (λ p. let d = rest.0 p.1 in ((p.0, d.0), d.1)),
      λ p. (p.0.0, rest.1 (p.0.1, p.1)),
    )

-- a run in two parts, whatever is marked
pub runs_but_marks_in_parts : (shape : Shape) (first second : List Event) (s : PlainState) → RunsButMarks shape (first ++ second) s ↔ (RunsButMarks shape first s × RunsButMarks shape second (end_of shape first s))
runs_but_marks_in_parts shape [] second s = (λ p. (tt, p), λ p. p.1)
runs_but_marks_in_parts shape (e ∷ first) second s =
    let rest = runs_but_marks_in_parts shape first second (after shape e s) in (
      (λ p. let d = rest.0 p.1 in ((p.0, d.0), d.1)),
      λ p. (p.0.0, rest.1 (p.0.1, p.1)),
    )

-- and it ends where the second part does
pub ends_in_parts : (shape : Shape) (first second : List Event) (s : PlainState) → end_of shape (first ++ second) s ≡ end_of shape second (end_of shape first s)
ends_in_parts shape [] second s = refl
ends_in_parts shape (e ∷ first) second s = ends_in_parts shape first second (after shape e s)

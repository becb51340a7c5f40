-- Names stay known: over a history in which each thread names only what it was told.
use Rattle.std.specs.List.{list_any}
use Rattle.std.proofs.Common.{ℕ, ◌≡◌, ◌⊎◌, inl, inr, refl, sym, ap, subst, Bool, true, false, cond, eqb, ltb, ◌&&◌, ◌||◌, Option, Some, None, List, [], ◌∷◌, ◌++◌}
use Rattle.std.proofs.lemmas.Bool.{or_cases}
use Rattle.std.proofs.lemmas.List.{append_assoc}
use Rattle.dso_base.specs.declared.lock.ThreadId.{ThreadId}
use Rattle.dso_base.specs.declared.request.Event.{Event}
use Rattle.dso_base.specs.declared.request.Event.TheVariants.{Act, Lost}
use Rattle.dso_base.specs.declared.request.Reply.{Reply}
use Rattle.dso_base.specs.declared.request.Request.{Request}
use Rattle.dso_base.specs.declared.shape.Shape.{Shape}
use Rattle.dso_base.specs.declared.value.Value.TheVariants as value
use Rattle.dso_base.specs.Following.{is_thread}
use Rattle.dso_plain.specs.State.{PlainState, opening, roots_object, is_private_to, is_shared}
use Rattle.dso_plain.specs.Possible.{MayButMarks, IsPossibleButMarks, StandsFrom}
use Rattle.dso_plain.specs.After.{after}
use Rattle.dso_plain.specs.History.{RunsButMarks, end_of, last_state, events_of, is_act_of}
use Rattle.dso_plain.specs.StepInvariants.{PastInvariant}
use Rattle.dso_plain.proofs.keys.SameKeys.{same_thread, thread_self}
use Rattle.dso_plain.proofs.invariants.PastsHold.{opening_kept}
use Rattle.dso_plain.proofs.invariants.PastsHold.{event_kept}
use Rattle.dso_legal.specs.Names.{NameOnlyTold, NamesStayKnown}
use Rattle.dso_legal.specs.SoundProgram.{event_tells, was_told, NamesOnlyTold}
use Rattle.dso_legal.proofs.acts.KnownNames.{IsAmong, KeepsNames, known_names, act_names, reply_known}

-- a test of a list with one more item behind it
pub has_more : {X : Type 0} (test : X → Bool) (xs : List X) (x : X) → list_any test (xs ++ x ∷ []) ≡ true → (list_any test xs ≡ true) ⊎ (test x ≡ true)
has_more test [] x e = elim (or_cases (test x) false e) [
  | inl h ↦ inr h
  | inr h ↦ absurd (cc h)
]
has_more test (first ∷ rest) x e = elim (or_cases (test first) (list_any test (rest ++ x ∷ [])) e) [
  | inl h ↦ inl (ap (λ b. b || list_any test rest) h)
  | inr h ↦ elim (has_more test rest x h) [
    | inl earlier ↦ inl (or_true (test first) (list_any test rest) earlier)
    | inr last ↦ inr last
  ]
]
  where
    or_true : (a b : Bool) → b ≡ true → (a || b) ≡ true
    or_true true b e = refl
    or_true false b e = e

-- what was told after one more event was told before it, or the event tells it
told_more : (o : ℕ) (events : List Event) (e : Event) → was_told o (events ++ e ∷ []) ≡ true → (was_told o events ≡ true) ⊎ (event_tells o e ≡ true)
told_more o events e h = by (eqb o 0) h
  where
    by : (b : Bool) → (b || list_any (event_tells o) (events ++ e ∷ [])) ≡ true → ((b || list_any (event_tells o) events) ≡ true) ⊎ (event_tells o e ≡ true)
    by true f = inl refl
    by false f = has_more (event_tells o) events e f

-- the events of a thread, with one more if it is the thread's
abbrev pub with_event : (ThreadId → List Event) → Event → ThreadId → List Event
with_event before e t = cond (is_act_of t e) (before t ++ e ∷ []) (before t)

-- each thread knows its names in the state
abbrev pub AllKnow : (ThreadId → List Event) → PlainState → Type 0
AllKnow before s = (t : ThreadId) → KeepsNames t (before t) s

-- An act, in a state in which every thread knows its names.
module _ (shape : Shape) (t : ThreadId) (request : Request) (reply : Reply) (woken : Option ThreadId) (s : PlainState) (before : ThreadId → List Event)
    (k : AllKnow before s) (kept : PastInvariant s) (m : IsPossibleButMarks shape t request reply s) (its : NamesOnlyTold request (before t)) where
  abbrev event : Event
  event = Act t request reply woken

  -- by what was told before it
  stays : AllKnow before (after shape event s)
  stays w = act_names shape t s before k kept request reply woken its m.answers w

  -- and by what it tells, for its own thread
  told_now : (o : ℕ) → was_told o (before t ++ event ∷ []) ≡ true → IsAmong t o (after shape event s).objects
  told_now o e = elim (told_more o (before t) event e) [
    | inl earlier ↦ (stays t).told o earlier
    | inr now ↦ reply_known shape t s before k kept request reply woken m.answers o now
  ]

  told_by : (w : ThreadId) (b : Bool) → is_thread w t ≡ b → (o : ℕ) → was_told o (cond b (before w ++ event ∷ []) (before w)) ≡ true → IsAmong w o (after shape event s).objects
  told_by w true is o e = subst (λ x. IsAmong x o (after shape event s).objects) (same_thread w t is) (told_now o (subst (λ x. was_told o (before x ++ event ∷ []) ≡ true) (sym (same_thread w t is)) e))
  told_by w false is o e = (stays w).told o e

  act_known : AllKnow (with_event before event) (after shape event s)
  act_known w = record { told = λ o e. told_by w (is_thread w t) refl o e; own = (stays w).own; shared = (stays w).shared }

-- each thread's events, behind those before, name only what was told
abbrev pub AllNameTold : (ThreadId → List Event) → List Event → Type 0
AllNameTold before es = (t : ThreadId) → NameOnlyTold (before t) (events_of t es)

-- the thread of an event names in it only what was told
names_now : (t : ThreadId) (request : Request) (reply : Reply) (woken : Option ThreadId) (es : List Event) (before : ThreadId → List Event) → AllNameTold before (Act t request reply woken ∷ es) → NamesOnlyTold request (before t)
names_now t request reply woken es before h = by (is_thread t t) (thread_self t) (h t)
  where
    by : (b : Bool) → b ≡ true → NameOnlyTold (before t) (cond b (Act t request reply woken ∷ events_of t es) (events_of t es)) → NamesOnlyTold request (before t)
    by true is g = g.0
    by false is g = absurd (cc is)

-- and all threads do in the later events
names_later : (e : Event) (es : List Event) (before : ThreadId → List Event) → AllNameTold before (e ∷ es) → AllNameTold (with_event before e) es
names_later e es before h = λ t. by t (is_act_of t e) (h t)
  where
    by : (t : ThreadId) (b : Bool) → NameOnlyTold (before t) (cond b (e ∷ events_of t es) (events_of t es)) → NameOnlyTold (cond b (before t ++ e ∷ []) (before t)) (events_of t es)
    by t true g = g.1
    by t false g = g

-- an event keeps names known
event_known : (shape : Shape) (e : Event) (es : List Event) (s : PlainState) (before : ThreadId → List Event) → MayButMarks shape e s → PastInvariant s → AllNameTold before (e ∷ es) → AllKnow before s → AllKnow (with_event before e) (after shape e s)
event_known shape (Act t request reply woken) es s before m kept h k = act_known shape t request reply woken s before k kept m (names_now t request reply woken es before h)
event_known shape (Lost client) es s before m kept h k = λ t. k t

-- all the thread's events, those before and those of the run
all_events : (e : Event) (es : List Event) (before : ThreadId → List Event) (t : ThreadId) → with_event before e t ++ events_of t es ≡ before t ++ events_of t (e ∷ es)
all_events e es before t = by (is_act_of t e)
  where
    by : (b : Bool) → cond b (before t ++ e ∷ []) (before t) ++ events_of t es ≡ before t ++ cond b (e ∷ events_of t es) (events_of t es)
    by true = append_assoc (before t) (e ∷ []) (events_of t es)
    by false = refl

pub none_behind : {X : Type 0} (xs : List X) → xs ++ [] ≡ xs
none_behind [] = refl
none_behind (x ∷ xs) = ap (λ ys. x ∷ ys) (none_behind xs)

-- a run keeps names known
pub run_known : (shape : Shape) (es : List Event) (s : PlainState) (before : ThreadId → List Event) → RunsButMarks shape es s → PastInvariant s → AllNameTold before es → AllKnow before s → AllKnow (λ t. before t ++ events_of t es) (end_of shape es s)
run_known shape [] s before m kept h k = λ t. subst (λ events. KeepsNames t events s) (sym (none_behind (before t))) (k t)
run_known shape (e ∷ es) s before m kept h k =
    let rest = run_known shape es (after shape e s) (with_event before e) m.1 (event_kept shape e s m.0 kept) (names_later e es before h) (event_known shape e es s before m.0 kept h k) in
    λ t. subst (λ events. KeepsNames t events (end_of shape es (after shape e s))) (all_events e es before t) (rest t)

-- at first only the roots' object is there, and names nothing
opening_known : (shape : Shape) (t : ThreadId) → KeepsNames t [] (opening shape)
opening_known shape t = record {
  told = λ o e. root (eqb o 0) e;
  own = λ o f named mine e. absurd (nobody (eqb o 0) mine);
  shared = λ o f named common h. absurd (nothing (eqb o 0 && ltb f shape.roots) named h);
}
  where
    root : (b : Bool) → (b || false) ≡ true → (is_private_to t (cond b (Some (roots_object shape)) None) ≡ true) ⊎ (is_shared (cond b (Some (roots_object shape)) None) ≡ true)
    root true e = inr refl
    root false e = absurd (cc e)

    nobody : (b : Bool) → is_private_to t (cond b (Some (roots_object shape)) None) ≡ true → ⊥
    nobody true e = absurd (cc e)
    nobody false e = absurd (cc e)

    nothing : (b : Bool) (named : ℕ) → StandsFrom 0 (value.Ref named) (cond b (value.Null ∷ []) []) → ⊥
    nothing true named (inl h) = absurd (cc h.1)
    nothing true named (inr h) = absurd h
    nothing false named h = absurd h

-- Names stay known.
pub names_stay_known : NamesStayKnown
names_stay_known shape h m told t = known_names t (events_of t h) (last_state shape h) (run_known shape h (opening shape) (λ w. []) m (opening_kept shape) told (λ w. opening_known shape w) t)

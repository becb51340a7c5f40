-- Each thread's walk from phase to phase, taken on by the acts of a history in their order.
use Rattle.std.proofs.Common.{ℕ, ◌≡◌, ◌⊎◌, inl, inr, refl, sym, ap, subst, ◌∙◌, Bool, true, false, cond, Option, List, [], ◌∷◌, ◌++◌}
use Rattle.std.proofs.lemmas.List.{append-nil}
use Rattle.dso_base.specs.declared.lock.ThreadId.{ThreadId}
use Rattle.dso_base.specs.declared.request.Event.{Event}
use Rattle.dso_base.specs.declared.request.Event.TheVariants.{Act, Lost}
use Rattle.dso_base.specs.declared.request.Reply.{Reply}
use Rattle.dso_base.specs.declared.request.Request.{Request}
use Rattle.dso_base.specs.declared.shape.Shape.{Shape}
use Rattle.dso_base.specs.declared.value.ClassId.{ClassId}
use Rattle.dso_base.specs.Following.{is_thread}
use Rattle.dso_plain.specs.History.{events_of, is_act_of}
use Rattle.dso_plain.proofs.histories.LegalGoesOn.{events_in_parts}
use Rattle.dso_plain.proofs.keys.SameKeys.{same_thread, thread_self}
use Rattle.dso_machine.specs.MapCalls.{TellsClass, Saw, Called, Phase, PhaseStep, Walks}
use Rattle.dso_legal.specs.MapHistory.{with_phase}

-- another thread, the other way round
pub thread_apart : (t u : ThreadId) → is_thread u t ≡ false → is_thread t u ≡ false
thread_apart t u other = by (is_thread t u) refl
  where
    by : (b : Bool) → is_thread t u ≡ b → is_thread t u ≡ false
    by true same = absurd (cc (sym other ∙ subst (λ w. is_thread w t ≡ true) (sym (same_thread t u same)) (thread_self t)))
    by false is = is

-- a thread's events with one more of its own,
pub own_more : (t : ThreadId) (before : List Event) (e : Event) → is_act_of t e ≡ true → events_of t (before ++ e ∷ []) ≡ events_of t before ++ e ∷ []
own_more t before e own = events_in_parts t before (e ∷ []) ∙ ap (λ b. events_of t before ++ cond b (e ∷ []) []) own

-- and with one of another
pub other_more : (t : ThreadId) (before : List Event) (e : Event) → is_act_of t e ≡ false → events_of t (before ++ e ∷ []) ≡ events_of t before
other_more t before e other = events_in_parts t before (e ∷ []) ∙ ap (λ b. events_of t before ++ cond b (e ∷ []) []) other ∙ append-nil (events_of t before)

-- what was seen with one more event
saw_more : (o : ℕ) (class : ClassId) (before : List Event) (u : ThreadId) (q : Request) (r : Reply) (woken : Option ThreadId) → Saw o class (before ++ Act u q r woken ∷ []) → Saw o class before ⊎ TellsClass o class q r
saw_more o class [] u q r woken (inl tells) = inr tells
saw_more o class [] u q r woken (inr none) = absurd none
saw_more o class (Act w p a chosen ∷ before) u q r woken (inl tells) = inl (inl tells)
saw_more o class (Act w p a chosen ∷ before) u q r woken (inr later) = elim (saw_more o class before u q r woken later) [
  | inl earlier ↦ inl (inr earlier)
  | inr now ↦ inr now
]
saw_more o class (Lost client ∷ before) u q r woken saw = saw_more o class before u q r woken saw

-- What a thread saw, with one more act, it saw before, or the act tells it.
pub saw_on : (t u : ThreadId) (o : ℕ) (class : ClassId) (before : List Event) (q : Request) (r : Reply) (woken : Option ThreadId) → Saw o class (events_of u (before ++ Act t q r woken ∷ [])) → Saw o class (events_of u before) ⊎ TellsClass o class q r
saw_on t u o class before q r woken saw = by (is_thread u t) refl
  where
    by : (b : Bool) → is_thread u t ≡ b → Saw o class (events_of u before) ⊎ TellsClass o class q r
    by true own = saw_more o class (events_of u before) t q r woken (subst (Saw o class) (own_more u before (Act t q r woken) own) saw)
    by false other = inl (subst (Saw o class) (other_more u before (Act t q r woken) other) saw)

module _ (shape : Shape) (next : ThreadId → List Event → Option Request) where
  -- the thread goes on so from a place in the history
  abbrev pub Walking : List Event → Phase → List Event → ThreadId → Type 0
  Walking before phase events u = (last : Phase) × Walks shape next u (events_of u before) phase (events_of u events) last

  -- the first act of those that follow
  pub record FirstAct (before : List Event) (phase : Phase) (events : List Event) (t : ThreadId) (q : Request) (r : Reply) (woken : Option ThreadId) : Type 0 where
    pub other : Phase
    pub ended : Option Called
    pub step : PhaseStep shape next t (events_of t before) phase q r other ended
    pub later : Walking (before ++ Act t q r woken ∷ []) other events t

  pub first_act : (before events : List Event) (phase : Phase) (t : ThreadId) (q : Request) (r : Reply) (woken : Option ThreadId) → Walking before phase (Act t q r woken ∷ events) t → FirstAct before phase events t q r woken
  first_act before events phase t q r woken walking =
      let act : Event = Act t q r woken in
      let walks : Walks shape next t (events_of t before) phase (act ∷ events_of t events) walking.0 =
      subst (λ b. Walks shape next t (events_of t before) phase (cond b (act ∷ events_of t events) (events_of t events)) walking.0) (thread_self t) walking.1 in
      record {
        other = walks.0;
        ended = walks.1;
        step = walks.2;
        later = (walking.0, subst (λ own. Walks shape next t own walks.0 (events_of t events) walking.0) (sym (own_more t before act (thread_self t))) walks.3);
      }

  -- Every thread goes on, after one that made an act.
  pub walking_on : (before events : List Event) (phases : ThreadId → Phase) (t : ThreadId) (q : Request) (r : Reply) (woken : Option ThreadId)
      → ((u : ThreadId) → Walking before (phases u) (Act t q r woken ∷ events) u) → (other : Phase) → Walking (before ++ Act t q r woken ∷ []) other events t
      → (u : ThreadId) → Walking (before ++ Act t q r woken ∷ []) (with_phase t other phases u) events u
  walking_on before events phases t q r woken all other its u = by (is_thread u t) refl (all u)
    where
      act : Event
      act = Act t q r woken

      by : (b : Bool) → is_thread u t ≡ b → (last : Phase) × Walks shape next u (events_of u before) (phases u) (cond b (act ∷ events_of u events) (events_of u events)) last
          → Walking (before ++ act ∷ []) (with_phase t other phases u) events u
      by true own walking = subst (λ w. Walking (before ++ act ∷ []) (with_phase t other phases w) events w) (same_thread u t own)
          (subst (λ b. Walking (before ++ act ∷ []) (cond b other (phases t)) events t) (sym (thread_self t)) its)
      by false elsewhere walking = subst (λ b. Walking (before ++ act ∷ []) (cond b other (phases u)) events u) (sym (thread_apart t u elsewhere))
          (walking.0, subst (λ own. Walks shape next u own (phases u) (events_of u events) walking.0) (sym (other_more u before act elsewhere)) walking.1)

  -- and after a loss
  pub walking_lost : (before events : List Event) (phase : Phase) (client : ℕ) (u : ThreadId) → Walking before phase (Lost client ∷ events) u → Walking (before ++ Lost client ∷ []) phase events u
  walking_lost before events phase client u walking =
      (walking.0, subst (λ own. Walks shape next u own phase (events_of u events) walking.0) (sym (other_more u before (Lost client) refl)) walking.1)

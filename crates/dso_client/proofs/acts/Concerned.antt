-- Of which threads an act changes what is kept: its own, the one that it woke, or any.
use Rattle.std.specs.List.{AllZip}
use Rattle.std.specs.Option.{option_map_or}
use Rattle.std.proofs.Common.{◌≡◌, ℕ, zero, suc, ◌-◌, ◌≤◌, refl, sym, ◌∙◌, ap, subst, arith, Bool, true, false, cond, eqb, inl, inr}
use Rattle.std.proofs.Common.{◌&&◌, ◌||◌, Option, Some, None, List, [], ◌∷◌, map, length, slice_get, slice_set}
use Rattle.std.proofs.lemmas.Bool.{eqb-true, eq-eqb}
use Rattle.std.proofs.lemmas.Option.{slice_get_within}
use Rattle.dso_base.specs.declared.lock.ThreadId.{ThreadId}
use Rattle.dso_base.specs.Following.{is_thread}
use Rattle.dso_law.specs.ClientWaiters.{is_marked, is_woken}
use Rattle.dso_law.specs.Threads.{last_seen, locks_by, locks_of, seen_by}
use Rattle.dso_client.specs.declared.answered.Answered.{Answered}
use Rattle.dso_client.specs.declared.lock_state.LockState.{LockState}
use Rattle.dso_client.specs.declared.thread_context.ThreadContext.{ThreadContext}
use Rattle.dso_client.specs.ContextEffects.{AppliesTo, AppliesToAny, AppliesToOne, AppliesWhere, ApplyTo, ApplyToAll, woken_index}
use Rattle.dso_client.specs.ContextPlaces.{context_in, running}
use Rattle.dso_client.specs.LeaseReturns.{marks_all}
use Rattle.dso_client.specs.Openings.{thread_at}
use Rattle.dso_client.proofs.acts.Places.{told_set}
use Rattle.dso_client.proofs.acts.SameMarks.{marked_same}
use Rattle.dso_client.proofs.heard.Wakes.{set_get}

none_of : (b : Bool) → (b && false) ≡ false
none_of true = refl
none_of false = refl

-- a thread of another index is another thread
other_index : (c k : ℕ) (t : ThreadId) → eqb t.index k ≡ false → is_thread (thread_at c k) t ≡ false
other_index c k t differ = ap (λ b. eqb t.client c && b) differ ∙ none_of (eqb t.client c)

not_both : {X : Type 0} (b : Bool) → b ≡ true → b ≡ false → X
not_both true t f = absurd (cc f)
not_both false t f = absurd (cc t)

module _ (lock_state : LockState) (act : Answered) where
  -- where no thread has the index, nothing is changed
  pub none_applied : (index : ℕ) (contexts : List ThreadContext)
      → ((context : ThreadContext) → context_in contexts index ≡ Some context → ⊥)
      → AppliesToOne lock_state act index contexts contexts
  none_applied index contexts none = record {
    each = λ k context e. (
      context,
      e,
      record {
        here = λ same. absurd (none context (ap (context_in contexts) (eqb-true index k same) ∙ e));
        elsewhere = λ differ. refl;
      },
    );
    runs = refl;
  }

  -- so of an index past all
  pub past_all : (index : ℕ) (contexts : List ThreadContext) → length contexts ≤ index - 1
      → AppliesToOne lock_state act index contexts contexts
  past_all index contexts past = none_applied index contexts (λ context e. none index past context e)
    where
      none : (index : ℕ) → length contexts ≤ index - 1 → (context : ThreadContext)
          → context_in contexts index ≡ Some context → ⊥
      none zero past context e = cc e
      none (suc k) past context e = let within = slice_get_within contexts k context e in omega (arith, past, within)

  -- the one of an index is changed
  pub one_applied : (index at : ℕ) (contexts : List ThreadContext) (old new : ThreadContext) → suc at ≡ index
      → slice_get contexts at ≡ Some old → AppliesToAny lock_state act old new
      → AppliesToOne lock_state act index contexts (slice_set contexts at new)
  one_applied index at contexts old new is there applies = record {
    each = each;
    runs = told_set running contexts (suc at) old new there (applies 0).runs;
  }
    where
      each : (k : ℕ) (context : ThreadContext) → context_in (slice_set contexts at new) k ≡ Some context
          → (before : ThreadContext) × (context_in contexts k ≡ Some before) × AppliesWhere lock_state act index k before context
      each zero context e = absurd (cc e)
      each (suc k) context e = elim (set_get contexts at k new context e) [
        | inl g ↦ (
          old,
          ap (slice_get contexts) g.0 ∙ there,
          record {
            here = λ same. subst (AppliesToAny lock_state act old) (sym g.1) applies;
            elsewhere = λ differ. not_both (eqb index (suc k)) (eq-eqb index (suc k) (sym is ∙ ap suc (sym g.0))) differ;
          },
        )
        | inr g ↦ (
          context,
          g.1,
          record {
            here = λ same. absurd (g.0 (cc (sym (eqb-true index (suc k) same) ∙ sym is)));
            elsewhere = λ differ. refl;
          },
        )
      ]

  -- each is, whatever its index is
  pub all_are : (old new : List ThreadContext) → ApplyToAll lock_state act old new → ApplyTo lock_state act old new
  all_are old new all = record { each = each; runs = runs old new all }
    where
      at_place : (xs ys : List ThreadContext) (k : ℕ) (y : ThreadContext) → AllZip (AppliesToAny lock_state act) xs ys
          → slice_get ys k ≡ Some y → (x : ThreadContext) × (slice_get xs k ≡ Some x) × AppliesToAny lock_state act x y
      at_place [] [] k y z e = absurd (cc e)
      at_place [] (first ∷ ys) k y z e = absurd z
      at_place (x ∷ xs) [] k y z e = absurd z
      at_place (x ∷ xs) (first ∷ ys) zero y z e = (x, refl, subst (AppliesToAny lock_state act x) (cc e) z.0)
      at_place (x ∷ xs) (first ∷ ys) (suc k) y z e = at_place xs ys k y z.1 e

      each : (k : ℕ) (y : ThreadContext) → context_in new k ≡ Some y
          → (x : ThreadContext) × (context_in old k ≡ Some x) × AppliesTo lock_state act k x y
      each zero y e = absurd (cc e)
      each (suc k) y e = let before = at_place old new k y all e in (before.0, before.1, before.2 (suc k))

      runs : (xs ys : List ThreadContext) → AllZip (AppliesToAny lock_state act) xs ys → map running ys ≡ map running xs
      runs [] [] z = refl
      runs [] (y ∷ ys) z = absurd z
      runs (x ∷ xs) [] z = absurd z
      runs (x ∷ xs) (y ∷ ys) z = (λ i. (z.0 0).runs i ∷ runs xs ys z.1 i)

  -- the index of another thread is that of a thread that isn't woken
  unwoken : (c k : ℕ) → eqb act.thread.index k ≡ false → eqb (woken_index act) k ≡ false
      → is_woken (thread_at c k) act.woken ≡ false
  unwoken c k differ apart = by act.woken apart
    where
      one : (t : ThreadId) (b : Bool) → eqb t.index act.thread.index ≡ b → eqb (cond b 0 t.index) k ≡ false
          → eqb t.index k ≡ false
      one t true same apart = ap (λ n. eqb n k) (eqb-true t.index act.thread.index same) ∙ differ
      one t false other apart = apart

      by : (woken : Option ThreadId)
          → eqb (option_map_or (λ (t : ThreadId). cond (eqb t.index act.thread.index) 0 t.index) woken 0) k ≡ false
          → is_woken (thread_at c k) woken ≡ false
      by None apart = refl
      by (Some t) apart = other_index c k t (one t (eqb t.index act.thread.index) refl apart)

  -- the acting thread isn't the other one that was woken
  apart_woken : (k : ℕ) → eqb act.thread.index k ≡ true → eqb (woken_index act) k ≡ true → 0 ≡ k
  apart_woken k same woken = by act.woken woken
    where
      one : (t : ThreadId) (b : Bool) → eqb t.index act.thread.index ≡ b → eqb (cond b 0 t.index) k ≡ true → 0 ≡ k
      one t true is e = eqb-true 0 k e
      one t false other e = not_both (eqb t.index act.thread.index)
          (eq-eqb t.index act.thread.index (eqb-true t.index k e ∙ sym (eqb-true act.thread.index k same))) other

      by : (woken : Option ThreadId)
          → eqb (option_map_or (λ (t : ThreadId). cond (eqb t.index act.thread.index) 0 t.index) woken 0) k ≡ true
          → 0 ≡ k
      by None e = eqb-true 0 k e
      by (Some t) e = one t (eqb t.index act.thread.index) refl e

  -- nothing changes of a thread that the act doesn't concern
  unconcerned : (k : ℕ) (context : ThreadContext) → marks_all act.request ≡ false → eqb act.thread.index k ≡ false
      → eqb (woken_index act) k ≡ false → AppliesTo lock_state act k context context
  unconcerned k context one differ apart = record {
    rest = λ clock at id stands r.
        let es = at.entries in
        let t = context.id in
        let other : is_thread t act.thread ≡ false
        = ap (λ t. is_thread t act.thread) id ∙ other_index at.client k act.thread differ in
        let unwoken_too : is_woken t act.woken ≡ false
        = ap (λ t. is_woken t act.woken) id ∙ unwoken at.client k differ apart in
        record {
          next = r.next;
          seen = r.seen ∙ sym (ap (λ b. cond b (seen_by act.request act.reply (last_seen t es)) (last_seen t es)) other);
          waiting = r.waiting
              ∙ sym (ap (λ b. (cond b (locks_by act.request act.reply (locks_of t es)) (locks_of t es)).waiting) other);
          marked = r.marked ∙ sym (marked_same t act.thread es act.request act.reply act.woken (is_marked t es) other
              (ap (λ b. b || is_woken t act.woken) one ∙ unwoken_too));
          last = r.last;
        };
    runs = refl;
    privates = refl;
    block = refl;
    waits = λ most held less. less;
  }

  -- its own thread and the one that it woke, one after the other
  pub both_are : marks_all act.request ≡ false → (old mid new : List ThreadContext)
      → AppliesToOne lock_state act act.thread.index old mid → AppliesToOne lock_state act (woken_index act) mid new
      → ApplyTo lock_state act old new
  both_are one old mid new first second = record { each = each; runs = second.runs ∙ first.runs }
    where
      by : (k : ℕ) (x m y : ThreadContext) → context_in new k ≡ Some y
          → AppliesWhere lock_state act act.thread.index k x m → AppliesWhere lock_state act (woken_index act) k m y
          → (a : Bool) → eqb act.thread.index k ≡ a → (b : Bool) → eqb (woken_index act) k ≡ b
          → AppliesTo lock_state act k x y
      by k x m y e f g true own true woken = absurd (cc (ap (context_in new) (apart_woken k own woken) ∙ e))
      by k x m y e f g true own false apart = subst (AppliesTo lock_state act k x) (sym (g.elsewhere apart)) (f.here own k)
      by k x m y e f g false differ true woken =
          subst (λ m. AppliesTo lock_state act k m y) (f.elsewhere differ) (g.here woken k)
      by k x m y e f g false differ false apart = subst (AppliesTo lock_state act k x)
          (sym (g.elsewhere apart ∙ f.elsewhere differ)) (unconcerned k x one differ apart)

      each : (k : ℕ) (y : ThreadContext) → context_in new k ≡ Some y
          → (x : ThreadContext) × (context_in old k ≡ Some x) × AppliesTo lock_state act k x y
      each k y e =
          let m = second.each k y e in
          let x = first.each k m.0 m.1 in
          (x.0, x.1, by k x.0 m.0 y e x.2 m.2 (eqb act.thread.index k) refl (eqb (woken_index act) k) refl)

-- A waking that was taken.
use Rattle.std.specs.List.{AllByRecursion}
use Rattle.std.proofs.Common.{◌≡◌, ◌≢◌, ◌⊎◌, ℕ, zero, suc, refl, sym, ◌∙◌, ap, subst, inl, inr, true, false, eqb, ◌&&◌, ◌||◌, Option, Some, None, List, [], ◌∷◌, map, length, slice_get, slice_set}
use Rattle.std.proofs.lemmas.Bool.{ne_eqb, eq-eqb}
use Rattle.std.proofs.lemmas.List.{length-map}
use Rattle.dso_base.specs.declared.lock.LockName.{LockName}
use Rattle.dso_base.specs.declared.message.Down.TheVariants as down
use Rattle.dso_base.specs.Following.{is_thread}
use Rattle.dso_plain.proofs.keys.SameKeys.{thread_self}
use Rattle.dso_law.specs.ClientWaiters.{is_marked}
use Rattle.dso_client.specs.declared.thread_context.ThreadContext.{ThreadContext}
use Rattle.dso_client.specs.MessageEffects.{heard}
use Rattle.dso_client.specs.Openings.{thread_at, first_threads}
use Rattle.dso_client.specs.RunPoints.{RunPoint}
use Rattle.dso_client.specs.ContextPlaces.{running, marked_at, with_mark}
use Rattle.dso_client.specs.ContextStands.{ContextStands}
use Rattle.dso_client.proofs.contexts.ContextsFound.{all_at, context_is}

-- what holds of the one at each place holds of each
pub all_from : {X : Type 0} (P : X → Type 0) (xs : List X) → ((k : ℕ) (x : X) → slice_get xs k ≡ Some x → P x) → AllByRecursion P xs
all_from P [] h = tt
all_from P (x ∷ xs) h = (h zero x refl, all_from P xs (λ k y e. h (suc k) y e))

-- at a place of a list of which one was set there is that one, or what was there
pub set_get : {X : Type 0} (xs : List X) (i k : ℕ) (x y : X) → slice_get (slice_set xs i x) k ≡ Some y → ((k ≡ i) × (y ≡ x)) ⊎ ((k ≢ i) × (slice_get xs k ≡ Some y))
set_get [] i k x y e = absurd (cc e)
set_get (z ∷ zs) zero zero x y e = inl (refl, cc e)
set_get (z ∷ zs) zero (suc k) x y e = inr ((λ same. cc same), e)
set_get (z ∷ zs) (suc i) zero x y e = inr ((λ same. cc same), e)
set_get (z ∷ zs) (suc i) (suc k) x y e = elim (set_get zs i k x y e) [
  | inl h ↦ inl (ap suc h.0, h.1)
  | inr h ↦ inr ((λ same. h.0 (cc same)), h.1)
]

-- what is told of the contexts but their marks stays where one of them is marked
pub told_kept : {X : Type 0} (tell : ThreadContext → X) → ((context : ThreadContext) → tell (record context { is_marked = true }) ≡ tell context) → (contexts : List ThreadContext) (index : ℕ)
    → map tell (with_mark index contexts) ≡ map tell contexts
told_kept tell same contexts zero = refl
told_kept {X} tell same contexts (suc at) = by (slice_get contexts at) refl
  where
    set_there : (contexts : List ThreadContext) (at : ℕ) (context : ThreadContext) → slice_get contexts at ≡ Some context → map tell (slice_set contexts at (record context { is_marked = true })) ≡ map tell contexts
    set_there [] at context e = refl
    set_there (first ∷ contexts) zero context e =
        let it : first ≡ context = cc e in
        ap (λ x. x ∷ map tell contexts) (same context ∙ ap tell (sym it))
    set_there (first ∷ contexts) (suc at) context e = ap (λ rest. tell first ∷ rest) (set_there contexts at context e)

    by : (found : Option ThreadContext) → slice_get contexts at ≡ found → map tell (marked_at at found contexts) ≡ map tell contexts
    by None e = refl
    by (Some context) e = set_there contexts at context e

-- so their ids
pub ids_kept : (contexts : List ThreadContext) (index : ℕ) → map (λ context. context.id) (with_mark index contexts) ≡ map (λ context. context.id) contexts
ids_kept contexts index = told_kept (λ context. context.id) (λ context. refl) contexts index

-- and their threads
pub runs_kept : (contexts : List ThreadContext) (index : ℕ) → map running (with_mark index contexts) ≡ map running contexts
runs_kept contexts index = told_kept running (λ context. refl) contexts index

-- and the locks that they wait on
pub waits_kept : (contexts : List ThreadContext) (index : ℕ) → map (λ context. context.waiting) (with_mark index contexts) ≡ map (λ context. context.waiting) contexts
waits_kept contexts index = told_kept (λ context. context.waiting) (λ context. refl) contexts index

-- and its length
pub length_kept : (contexts : List ThreadContext) (index : ℕ) → length (with_mark index contexts) ≡ length contexts
length_kept contexts index = sym (length-map (with_mark index contexts) (λ (context : ThreadContext). context.id)) ∙ (ap length (ids_kept contexts index) ∙ length-map contexts (λ (context : ThreadContext). context.id))

module _ (clock : ℕ) (at : RunPoint) (l : LockName) where
  -- a thread that is woken
  woken : (context : ThreadContext) (index : ℕ) → context.id ≡ thread_at at.client index → ContextStands at context → ContextStands (heard clock (down.Wake l (thread_at at.client index)) at) (record context { is_marked = true })
  woken context index is h = record {
    next = h.next;
    work = h.work;
    seen = h.seen;
    waiting = h.waiting;
    last = h.last;
    marked = sym (ap (λ b. b || is_marked context.id at.entries) (ap (λ t. is_thread context.id t) (sym is) ∙ thread_self context.id));
  }

  -- and one that isn't
  unwoken : (context : ThreadContext) (k index : ℕ) → context.id ≡ thread_at at.client k → k ≢ index → ContextStands at context → ContextStands (heard clock (down.Wake l (thread_at at.client index)) at) context
  unwoken context k index is differ h = record {
    next = h.next;
    work = h.work;
    seen = h.seen;
    waiting = h.waiting;
    last = h.last;
    marked = h.marked ∙ sym (ap (λ b. b || is_marked context.id at.entries) other);
  }
    where
      other : is_thread context.id (thread_at at.client index) ≡ false
      other = ap (λ t. is_thread t (thread_at at.client index)) is ∙ (ap (λ b. b && eqb index k) (eq-eqb at.client at.client refl) ∙ ne_eqb index k (λ same. differ (sym same)))

  pub wake_heard : (contexts : List ThreadContext) (index : ℕ) → map (λ context. context.id) contexts ≡ first_threads at.client (length contexts) → AllByRecursion (ContextStands at) contexts
      → AllByRecursion (ContextStands (heard clock (down.Wake l (thread_at at.client index)) at)) (with_mark index contexts)
  wake_heard contexts zero numbered h = all_from (ContextStands (heard clock (down.Wake l (thread_at at.client zero)) at)) contexts
      (λ k context e. unwoken context (suc k) zero (context_is at.client contexts (suc k) context numbered e) (λ same. cc same) (all_at (ContextStands at) contexts k context h e))
  wake_heard contexts (suc place) numbered h = by (slice_get contexts place) refl
    where
      stays : (k : ℕ) (context : ThreadContext) → k ≢ place → slice_get contexts k ≡ Some context → ContextStands (heard clock (down.Wake l (thread_at at.client (suc place))) at) context
      stays k context differ e = unwoken context (suc k) (suc place) (context_is at.client contexts (suc k) context numbered e) (λ same. differ (cc same)) (all_at (ContextStands at) contexts k context h e)

      by : (found : Option ThreadContext) → slice_get contexts place ≡ found → AllByRecursion (ContextStands (heard clock (down.Wake l (thread_at at.client (suc place))) at)) (marked_at place found contexts)
      by None e = all_from (ContextStands (heard clock (down.Wake l (thread_at at.client (suc place))) at)) contexts (λ k context is. stays k context (λ same. absurd (cc (sym is ∙ (ap (slice_get contexts) same ∙ e)))) is)
      by (Some woke) e = all_from (ContextStands (heard clock (down.Wake l (thread_at at.client (suc place))) at)) (slice_set contexts place (record woke { is_marked = true }))
          (λ k context is. elim (set_get contexts place k (record woke { is_marked = true }) context is) [
            | inl g ↦ subst (ContextStands (heard clock (down.Wake l (thread_at at.client (suc place))) at)) (sym g.1)
                (woken woke (suc place) (context_is at.client contexts (suc place) woke numbered e) (all_at (ContextStands at) contexts place woke h e))
            | inr g ↦ stays k context g.0 g.1
          ])

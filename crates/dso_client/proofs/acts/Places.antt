-- One context of all is another one.
use Rattle.std.specs.List.{AllByRecursion}
use Rattle.std.proofs.Common.{◌≡◌, ◌≢◌, ℕ, zero, suc, refl, sym, ◌∙◌, ap, subst, inl, inr, Some, List, [], ◌∷◌, map, slice_get, slice_set}
use Rattle.dso_client.specs.declared.thread_context.ThreadContext.{ThreadContext}
use Rattle.dso_client.specs.SentRecords.{changed_context, replaced_at}
use Rattle.dso_client.specs.ThreadProgress.{with_context}
use Rattle.dso_client.specs.ContextPlaces.{context_in}
use Rattle.dso_client.proofs.contexts.ContextsFound.{all_at}
use Rattle.dso_client.proofs.heard.Wakes.{all_from, set_get}

-- what holds of each, where it goes on from each but one, and holds of the one in its place
pub all_set : {X : Type 0} (P Q : X → Type 0) (xs : List X) (at : ℕ) (x : X) → AllByRecursion P xs → Q x → ((k : ℕ) (y : X) → k ≢ at → slice_get xs k ≡ Some y → P y → Q y)
    → AllByRecursion Q (slice_set xs at x)
all_set P Q xs at x h here others = all_from Q (slice_set xs at x) (λ k y e. elim (set_get xs at k x y e) [
  | inl g ↦ subst Q (sym g.1) here
  | inr g ↦ others k y g.0 g.1 (all_at P xs k y h g.1)
])

-- what holds of each context holds of that of an index
pub context_of_all : (P : ThreadContext → Type 0) (contexts : List ThreadContext) (index : ℕ) (context : ThreadContext) → AllByRecursion P contexts → context_in contexts index ≡ Some context → P context
context_of_all P contexts zero context h e = absurd (cc e)
context_of_all P contexts (suc at) context h e = all_at P contexts at context h e

-- so of contexts, by their threads' indexes
pub context_set : (P Q : ThreadContext → Type 0) (contexts : List ThreadContext) (index : ℕ) (old new : ThreadContext) → context_in contexts index ≡ Some old → AllByRecursion P contexts → Q new
    → ((k : ℕ) (context : ThreadContext) → k ≢ index → context_in contexts k ≡ Some context → P context → Q context) → AllByRecursion Q (with_context index new contexts)
context_set P Q contexts zero old new e h here others = absurd (cc e)
context_set P Q contexts (suc at) old new e h here others = all_set P Q contexts at new h here (λ k context differ there. others (suc k) context (λ same. differ (cc same)) there)

-- the context that was set is there
pub set_there : (contexts : List ThreadContext) (index : ℕ) (old new : ThreadContext) → context_in contexts index ≡ Some old → context_in (with_context index new contexts) index ≡ Some new
set_there contexts zero old new e = absurd (cc e)
set_there contexts (suc at) old new e = by contexts at e
  where
    by : (contexts : List ThreadContext) (at : ℕ) → slice_get contexts at ≡ Some old → slice_get (slice_set contexts at new) at ≡ Some new
    by [] at e = absurd (cc e)
    by (first ∷ contexts) zero e = refl
    by (first ∷ contexts) (suc at) e = by contexts at e

-- what is told of each is told still, where it is the same of the one that was set
pub told_set : {X : Type 0} (tell : ThreadContext → X) (contexts : List ThreadContext) (index : ℕ) (old new : ThreadContext) → context_in contexts index ≡ Some old → tell new ≡ tell old
    → map tell (with_context index new contexts) ≡ map tell contexts
told_set tell contexts zero old new e same = refl
told_set {X} tell contexts (suc at) old new e same = by contexts at e
  where
    by : (contexts : List ThreadContext) (at : ℕ) → slice_get contexts at ≡ Some old → map tell (slice_set contexts at new) ≡ map tell contexts
    by [] at e = refl
    by (first ∷ contexts) zero e =
        let it : first ≡ old = cc e in
        ap (λ x. x ∷ map tell contexts) (same ∙ ap tell (sym it))
    by (first ∷ contexts) (suc at) e = ap (λ rest. tell first ∷ rest) (by contexts at e)

-- one that is set twice is the second one
pub twice : (contexts : List ThreadContext) (index : ℕ) (first second : ThreadContext) → with_context index second (with_context index first contexts) ≡ with_context index second contexts
twice contexts zero first second = refl
twice contexts (suc at) first second = by contexts at
  where
    by : (contexts : List ThreadContext) (at : ℕ) → slice_set (slice_set contexts at first) at second ≡ slice_set contexts at second
    by [] at = refl
    by (context ∷ contexts) zero = refl
    by (context ∷ contexts) (suc at) = ap (λ rest. context ∷ rest) (by contexts at)

-- the context of an index is changed where it is there
pub changed_is : (contexts : List ThreadContext) (index : ℕ) (change : ThreadContext → ThreadContext) (context : ThreadContext) → context_in contexts index ≡ Some context → changed_context index change contexts ≡ with_context index (change context) contexts
changed_is contexts zero change context e = absurd (cc e)
changed_is contexts (suc at) change context e = ap (λ found. replaced_at at change found contexts) e

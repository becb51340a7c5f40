-- One context of a list was changed.
use Rattle.std.specs.List.{AllByRecursion}
use Rattle.std.proofs.Common.{◌≡◌, ◌≢◌, ◌≤◌, ◌<◌, ◌-◌, ℕ, zero, suc, refl, sym, ◌∙◌, ap, arith, subst, inl, inr, Option, Some, None, List, [], ◌∷◌, map, length, get_or, slice_get, slice_set}
use Rattle.std.proofs.lemmas.Bool.Decides.{leb_tells}
use Rattle.std.proofs.lemmas.List.{length-map}
use Rattle.std.proofs.lemmas.Option.{slice_get_past, slice_get-get_or}
use Rattle.dso_txn.specs.declared.open_block.OpenBlock.{OpenBlock}
use Rattle.dso_txn.specs.declared.privates.Privates.{Privates}
use Rattle.dso_client.specs.declared.thread_context.ThreadContext.{ThreadContext}
use Rattle.dso_client.specs.SentRecords.{replaced_at, changed_context, with_work, WorksAlone}
use Rattle.dso_client.specs.Openings.{thread_at, first_threads}
use Rattle.dso_client.specs.ContextPlaces.{context_in}
use Rattle.dso_client.proofs.contexts.ContextsFound.{all_at, context_is}
use Rattle.dso_client.proofs.heard.Wakes.{all_from, set_get}

module _ (change : ThreadContext → ThreadContext) where
  -- what is told of the contexts stays where it is told alike of the changed one
  pub told_unchanged : {X : Type 0} (tell : ThreadContext → X) → ((context : ThreadContext) → tell (change context) ≡ tell context) → (contexts : List ThreadContext) (index : ℕ)
      → map tell (changed_context index change contexts) ≡ map tell contexts
  told_unchanged tell same contexts zero = refl
  told_unchanged {X} tell same contexts (suc at) = by (slice_get contexts at) refl
    where
      set_there : (contexts : List ThreadContext) (at : ℕ) (context : ThreadContext) → slice_get contexts at ≡ Some context → map tell (slice_set contexts at (change context)) ≡ map tell contexts
      set_there [] at context e = refl
      set_there (first ∷ contexts) zero context e =
          let it : first ≡ context = cc e in
          ap (λ x. x ∷ map tell contexts) (same context ∙ ap tell (sym it))
      set_there (first ∷ contexts) (suc at) context e = ap (λ rest. tell first ∷ rest) (set_there contexts at context e)

      by : (found : Option ThreadContext) → slice_get contexts at ≡ found → map tell (replaced_at at change found contexts) ≡ map tell contexts
      by None e = refl
      by (Some context) e = set_there contexts at context e

  -- so does their number
  pub length_unchanged : ((context : ThreadContext) → (change context).id ≡ context.id) → (contexts : List ThreadContext) (index : ℕ) → length (changed_context index change contexts) ≡ length contexts
  length_unchanged same contexts index = sym (length-map (changed_context index change contexts) (λ (context : ThreadContext). context.id))
      ∙ (ap length (told_unchanged (λ context. context.id) same contexts index) ∙ length-map contexts (λ (context : ThreadContext). context.id))

  -- the context at the index is the changed one
  pub changed_there : (contexts : List ThreadContext) (index : ℕ) (context : ThreadContext) → context_in contexts index ≡ Some context → context_in (changed_context index change contexts) index ≡ Some (change context)
  changed_there contexts zero context e = absurd (cc e)
  changed_there contexts (suc at) context e = ap (λ found. slice_get (replaced_at at change found contexts) at) e ∙ set_there contexts at context e
    where
      set_there : (contexts : List ThreadContext) (at : ℕ) (context : ThreadContext) → slice_get contexts at ≡ Some context → slice_get (slice_set contexts at (change context)) at ≡ Some (change context)
      set_there [] at context e = absurd (cc e)
      set_there (first ∷ contexts) zero context e = refl
      set_there (first ∷ contexts) (suc at) context e = set_there contexts at context e

  -- where something else holds of each behind the change: of the changed one, and of the others
  module _ (c index : ℕ) (before after : ThreadContext → Type 0) (turns : (context : ThreadContext) → context.id ≡ thread_at c index → before context → after (change context))
      (stays : (context : ThreadContext) (k : ℕ) → context.id ≡ thread_at c k → k ≢ index → before context → after context) where
    pub all_changed : (contexts : List ThreadContext) → map (λ context. context.id) contexts ≡ first_threads c (length contexts) → AllByRecursion before contexts → AllByRecursion after (changed_context index change contexts)
    all_changed contexts numbered h = by index refl
      where
        stays_at : (k : ℕ) (context : ThreadContext) → suc k ≢ index → slice_get contexts k ≡ Some context → after context
        stays_at k context differ e = stays context (suc k) (context_is c contexts (suc k) context numbered e) differ (all_at before contexts k context h e)

        by : (n : ℕ) → n ≡ index → AllByRecursion after (changed_context n change contexts)
        by zero same = all_from after contexts (λ k context e. stays_at k context (λ e. absurd (cc (e ∙ sym same))) e)
        by (suc place) same = by_found (slice_get contexts place) refl
          where
            by_found : (found : Option ThreadContext) → slice_get contexts place ≡ found → AllByRecursion after (replaced_at place change found contexts)
            by_found None e = all_from after contexts (λ k context is. stays_at k context (λ at. absurd (cc (sym is ∙ (ap (λ n. context_in contexts n) (at ∙ sym same) ∙ e)))) is)
            by_found (Some old) e = all_from after (slice_set contexts place (change old))
                (λ k context is. elim (set_get contexts place k (change old) context is) [
                  | inl g ↦ subst after (sym g.1) (turns old (context_is c contexts (suc place) old numbered e ∙ ap (thread_at c) same) (all_at before contexts place old h e))
                  | inr g ↦ stays_at k context (λ at. g.0 (cc (at ∙ sym same))) g.1
                ])

-- what is told of the contexts but the work in hand stays where the work of one thread alone was changed
pub alone_tells : {X : Type 0} (tell : ThreadContext → X) → ((privates : Privates) (block : OpenBlock) (context : ThreadContext) → tell (with_work privates block context) ≡ tell context)
    → (index : ℕ) (old new : List ThreadContext) → WorksAlone index old new → map tell new ≡ map tell old
alone_tells tell same index old new h = ap (map tell) h.contexts ∙ told_unchanged (with_work h.privates h.block) tell (same h.privates h.block) old index

-- where there is a context of an index, it is one within the list
pub there_within : (contexts : List ThreadContext) (index : ℕ) → context_in contexts index ≢ None → (1 ≤ index) × (index - 1 < length contexts)
there_within contexts zero there = absurd (there refl)
there_within contexts (suc at) there = elim (leb_tells (length contexts) at) [
  | inl h ↦ absurd (there (slice_get_past contexts at h.1))
  | inr h ↦ let less = h.1 in (omega arith, omega (arith, less))
]

-- and that is the one there
pub context_there : (contexts : List ThreadContext) (index : ℕ) (none : ThreadContext) → context_in contexts index ≢ None → context_in contexts index ≡ Some (get_or contexts (index - 1) none)
context_there contexts zero none there = absurd (there refl)
context_there contexts (suc at) none there =
    let place : suc at - 1 ≡ at = omega arith in
    let within = (there_within contexts (suc at) there).1 in
    slice_get-get_or contexts at none (omega (arith, within)) ∙ ap (λ k. Some (get_or contexts k none)) (sym place)

-- the contexts with that one set at its place
pub changed_at_place : (change : ThreadContext → ThreadContext) (contexts : List ThreadContext) (index : ℕ) (context : ThreadContext) → context_in contexts index ≡ Some context
    → slice_set contexts (index - 1) (change context) ≡ changed_context index change contexts
changed_at_place change contexts zero context is = absurd (cc is)
changed_at_place change contexts (suc at) context is =
    let place : suc at - 1 ≡ at = omega arith in
    ap (λ k. slice_set contexts k (change context)) place ∙ ap (λ found. replaced_at at change found contexts) (sym is)

-- No hold, no count that a waiting thread is to have again, and no record is more or less.
use Rattle.std.proofs.Common.{◌≡◌, ℕ, zero, suc, ◌≤◌, refl, sym, ◌∙◌, ap, subst, Option, Some, None, List, map, slice_get}
use Rattle.std.proofs.lemmas.Option.{slice_get-map}
use Rattle.std.specs.Option.{option_map, option_map_or}
use Rattle.dso_hold.specs.Holds.{hold_in, count_at}
use Rattle.dso_law.specs.Threads.{Waiting}
use Rattle.dso_client.specs.declared.client_state.ClientState.{ClientState}
use Rattle.dso_client.specs.declared.thread_context.ThreadContext.{ThreadContext}
use Rattle.dso_client.specs.ThreadActs.{HoldsAtMost, KeepsCounts, count_again}
use Rattle.dso_client.specs.LockEntries.{count_owed}
use Rattle.dso_client.specs.ContextPlaces.{context_in}

-- the count of the waits at an index
abbrev count_in : List (Option Waiting) → ℕ → ℕ
count_in waits zero = 0
count_in waits (suc at) = option_map_or count_owed (slice_get waits at) 0

again_by_waits : (contexts : List ThreadContext) (index : ℕ) → count_again (context_in contexts index) ≡ count_in (map (λ (context : ThreadContext). context.waiting) contexts) index
again_by_waits contexts zero = refl
again_by_waits contexts (suc at) = by (slice_get contexts at) ∙ sym (ap (λ found. option_map_or count_owed found 0) (slice_get-map (λ (context : ThreadContext). context.waiting) contexts at))
  where
    by : (found : Option ThreadContext) → count_again found ≡ option_map_or count_owed (option_map (λ (context : ThreadContext). context.waiting) found) 0
    by None = refl
    by (Some context) = refl

-- so no lock is held more often
pub keeps_most : (old new : ClientState) → KeepsCounts old new → (most : ℕ) → HoldsAtMost most old → HoldsAtMost most new
keeps_most old new keeps most h = record {
  held = λ t l. subst (λ holds. count_at (hold_in holds (l, t)) ≤ most) (sym keeps.holds) (h.held t l);
  waiting = λ index. subst (λ n. n ≤ most)
      (again_by_waits old.contexts.items index ∙ (ap (λ waits. count_in waits index) (sym keeps.waits) ∙ sym (again_by_waits new.contexts.items index))) (h.waiting index);
}

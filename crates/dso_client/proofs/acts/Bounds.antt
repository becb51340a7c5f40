-- How often locks are to be held again, once a request was answered.
use Rattle.std.proofs.Common.{◌≡◌, ◌≤◌, ℕ, refl, subst, arith, Option, Some, None, List, map}
use Rattle.dso_client.specs.declared.answered.Answered.{Answered}
use Rattle.dso_client.specs.declared.client_state.ClientState.{ClientState}
use Rattle.dso_client.specs.declared.lock_state.LockState.{LockState}
use Rattle.dso_client.specs.declared.thread_context.ThreadContext.{ThreadContext}
use Rattle.dso_client.specs.ThreadActs.{HoldsAtMost, count_again}
use Rattle.dso_client.specs.ActEffects.{CountsAtMost}
use Rattle.dso_client.specs.ContextEffects.{ApplyTo}
use Rattle.dso_client.specs.ContextPlaces.{context_in}
use Rattle.dso_client.proofs.contexts.KeptCounts.{keeps_most}

-- a wait is to have no greater count again than a hold had
pub waits_live : (lock_state : LockState) (act : Answered) (most : ℕ) → CountsAtMost most lock_state.holds
    → (old new : List ThreadContext) → ApplyTo lock_state act old new
    → ((index : ℕ) → count_again (context_in old index) ≤ most) → (index : ℕ) → count_again (context_in new index) ≤ most
waits_live lock_state act most held old new applies h index = by (context_in new index) refl
  where
    by : (found : Option ThreadContext) → context_in new index ≡ found → count_again found ≤ most
    by None e = omega arith
    by (Some context) e =
        let before = applies.each index context e in
        before.2.waits most held (subst (λ found. count_again found ≤ most) before.1 (h index))

-- no lock is held more often where holds and waits are as they were
pub most_kept : (old new : ClientState) → new.lock_state.holds ≡ old.lock_state.holds → map (λ context. context.waiting) new.contexts.items ≡ map (λ context. context.waiting) old.contexts.items
    → (most : ℕ) → HoldsAtMost most old → HoldsAtMost most new
most_kept old new holds waits most h =
    let all = keeps_most old (record new { sequences = old.sequences }) (record { holds = holds; waits = waits; records = refl }) most h in
    record { held = all.held; waiting = all.waiting }

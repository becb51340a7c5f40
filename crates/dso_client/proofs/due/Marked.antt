-- The locks that threads want which an act may have marked.
use Rattle.std.specs.List.{list_any}
use Rattle.std.specs.Option.{option_and_then}
use Rattle.std.proofs.Common.{◌≡◌, refl, sym, ◌∙◌, ap, Bool, true, false, ◌&&◌, ◌||◌, Option, Some, None, List}
use Rattle.dso_base.specs.declared.lock.LockName.{LockName}
use Rattle.dso_base.specs.declared.lock.ThreadId.{ThreadId}
use Rattle.dso_base.specs.Following.{is_thread}
use Rattle.dso_plain.proofs.keys.SameKeys.{same_thread}
use Rattle.dso_law.specs.ClientWaiters.{is_woken}
use Rattle.dso_law.specs.Settings.{threads_of}
use Rattle.dso_client.specs.declared.answered.Answered.{Answered}
use Rattle.dso_client.specs.declared.client_state.ClientState.{ClientState}
use Rattle.dso_client.specs.declared.thread_context.ThreadContext.{ThreadContext}
use Rattle.dso_client.specs.ContextStands.{ContextStands}
use Rattle.dso_client.specs.LeaseReturns.{AddsDue, AddsMarked, is_of, is_wanted_by, is_wanted_by_marked, marks_all}
use Rattle.dso_client.specs.LeaseReturns.{may_mark, wanted_lock}
use Rattle.dso_client.specs.RunPoints.{RunPoint}
use Rattle.dso_client.specs.StateStands.{ClientPartsStand}
use Rattle.dso_client.specs.ThreadProgress.{next_at, wanted_by}
use Rattle.dso_client.proofs.acts.Places.{context_of_all}
use Rattle.dso_client.proofs.contexts.ContextsFound.{context_of}
use Rattle.dso_client.proofs.due.AmongThreads.{any_at, any_then}

both_true : (a b : Bool) → (a && b) ≡ true → (a ≡ true) × (b ≡ true)
both_true true b e = (refl, e)
both_true false b e = absurd (cc e)

module _ (at : RunPoint) (kept : ClientState) (h : ClientPartsStand at kept) where
  abbrev threads : List ThreadId
  threads = threads_of at.settings at.client

  -- the next request that is kept of a thread of the client
  pub next_kept : (t : ThreadId) → list_any (is_thread t) (threads_of at.settings at.client) ≡ true
      → next_at kept.contexts.items t.index ≡ at.next t
  next_kept t its =
      let one = context_of at.client kept.contexts.items t h.numbered (ap (list_any (is_thread t)) h.places ∙ its) in
      let stands = context_of_all (ContextStands at) kept.contexts.items t.index one.0 h.contexts one.1 in
      ap (option_and_then (λ (context : ThreadContext). context.next)) one.1 ∙ (stands.next ∙ ap at.next one.2)

  module _ (act : Answered) where
    -- where the act can have marked no other than the thread that it woke, it is that one that wants the lock
    woken_wants : marks_all act.request ≡ false → (k : LockName)
        → list_any (is_wanted_by_marked at act k) (threads_of at.settings at.client) ≡ true
        → is_of k (wanted_by kept.contexts.items act.woken) ≡ true
    woken_wants one k some = any_then (is_wanted_by_marked at act k)
        (is_of k (wanted_by kept.contexts.items act.woken) ≡ true) (threads_of at.settings at.client) each some
      where
        by : (t : ThreadId) → list_any (is_thread t) (threads_of at.settings at.client) ≡ true
            → is_wanted_by at k t ≡ true → (woken : Option ThreadId) → is_woken t woken ≡ true
            → is_of k (wanted_by kept.contexts.items woken) ≡ true
        by t its wants None e = absurd (cc e)
        by t its wants (Some u) e =
            ap (λ (u : ThreadId). is_of k (wanted_lock (next_at kept.contexts.items u.index))) (same_thread t u e)
            ∙ (ap (λ next. is_of k (wanted_lock next)) (next_kept t its) ∙ wants)

        each : (t : ThreadId) → list_any (is_thread t) (threads_of at.settings at.client) ≡ true
            → is_wanted_by_marked at act k t ≡ true → is_of k (wanted_by kept.contexts.items act.woken) ≡ true
        each t its wants =
            let two = both_true (may_mark act t) (is_wanted_by at k t) wants in
            by t its two.1 act.woken (sym (ap (λ b. b || is_woken t act.woken) one) ∙ two.0)

    pub woken_added : (old new : List LockName) → marks_all act.request ≡ false
        → AddsDue at (λ k. is_of k (wanted_by kept.contexts.items act.woken)) old new → AddsMarked at act old new
    woken_added old new one adds = record {
      among = λ k. is_of k (wanted_by kept.contexts.items act.woken);
      adds = adds;
      all = woken_wants one;
    }

    -- or each thread is asked
    pub all_added : (old new : List LockName)
        → AddsDue at (λ k. list_any (is_wanted_by at k) (threads_of at.settings at.client)) old new
        → AddsMarked at act old new
    all_added old new adds = record {
      among = λ k. list_any (is_wanted_by at k) (threads_of at.settings at.client);
      adds = adds;
      all = λ k some. any_then (is_wanted_by_marked at act k)
          (list_any (is_wanted_by at k) (threads_of at.settings at.client) ≡ true)
          (threads_of at.settings at.client)
          (λ t its wants. any_at t (is_wanted_by at k) (threads_of at.settings at.client) its
          (both_true (may_mark act t) (is_wanted_by at k t) wants).1) some;
    }

-- The client's end of a waiter, by the client rule: what its entry says may come where each thread stands, and the waiters of each lock
-- stand as they should behind it.
use Rattle.std.specs.List.{list_any, AllByRecursion}
use Rattle.std.proofs.Common.{ℕ, ◌≡◌, ◌≢◌, refl, sym, ◌∙◌, ap, subst, Bool, true, false, cond, not, ◌&&◌, is_some, Option, Some, None, List, [], ◌∷◌, ◌++◌}
use Rattle.std.specs.Prelude.{is_none}
use Rattle.std.proofs.lemmas.List.{append_assoc, append-nil}
use Rattle.std.proofs.Math.Path.{fun_ext}
use Rattle.dso_base.specs.declared.journal.Entry.{Entry}
use Rattle.dso_base.specs.declared.journal.Input.{Input}
use Rattle.dso_base.specs.declared.journal.Input.TheVariants as input
use Rattle.dso_base.specs.declared.lock.Level.TheVariants.{Write}
use Rattle.dso_base.specs.declared.lock.LockName.{LockName}
use Rattle.dso_base.specs.declared.lock.ThreadId.{ThreadId}
use Rattle.dso_base.specs.declared.message.Down.{Down}
use Rattle.dso_base.specs.declared.message.Up.{Up}
use Rattle.dso_base.specs.declared.message.Up.TheVariants as up
use Rattle.dso_base.specs.declared.record.Ending.{Ending}
use Rattle.dso_base.specs.declared.request.Event.{Event}
use Rattle.dso_base.specs.declared.request.Event.TheVariants.{Act}
use Rattle.dso_base.specs.declared.request.Reply.{Reply}
use Rattle.dso_base.specs.declared.request.Request.{Request}
use Rattle.dso_base.specs.declared.request.Request.TheVariants.{Enter}
use Rattle.dso_plain.specs.KeyTests.{is_lock}
use Rattle.dso_plain.specs.State.{Hold}
use Rattle.dso_law.specs.ClientStep.{record_of, commits, returns, asks_again, Does, Asks, DoesOrAsks, ActsOn, ClientStepOn}
use Rattle.dso_law.specs.ClientWaiters.{list_by_taken, list_by_sent, list_by_event, client_list}
use Rattle.dso_law.specs.Closing.{is_closing, is_free, is_lease_due, due}
use Rattle.dso_law.specs.Entries.{unsent, by_taken_down, by_event}
use Rattle.dso_law.specs.FitsDown.{FitsDown}
use Rattle.dso_law.specs.Leases.{leased, is_entered, granted, leased_locks}
use Rattle.dso_law.specs.Replies.{woken_by, reply_of}
use Rattle.dso_law.specs.RequestNeeds.{Need, NeedsId, NeedsObject, NeedsClass, NeedsMark, NeedsLease, NeedsOthersOut, NeedsAck, hold_level, unmet, ask_for}
use Rattle.dso_law.specs.Settings.{Settings, threads_of}
use Rattle.dso_law.specs.Threads.{locks_of, hold_of, ending_of}
use Rattle.dso_legal.specs.Agreement.{after}
use Rattle.dso_legal.proofs.channels.InFlight.{said_of, said_all}
use Rattle.dso_lookup.proofs.Tests.{both}
use Rattle.dso_legal.proofs.leases.ClientLeases.{has_is, ask_is}
use Rattle.dso_legal.proofs.leases.Holds.{HoldsWell}
use Rattle.dso_legal.proofs.leases.KeptLeases.{found}
use Rattle.dso_legal.proofs.leases.LeaseSteps.{no_both}
use Rattle.dso_legal.proofs.leases.Locks.{Distinct, rising_distinct, granted_rises, distinct_filter, each_passes}
use Rattle.dso_legal.proofs.waiting.ActedView.{view_of, IsFair}
use Rattle.dso_legal.proofs.waiting.ClientView.{KeepsWaiters}
use Rattle.dso_legal.proofs.waiting.EntryParts.{after_parts, SaysWell, IsAsking, each_return, gives_back_well}
use Rattle.dso_legal.proofs.waiting.ClientEnd.{act_well, IsDue, taken_well}

-- what is asked for is no record and no return
pub ask_asks : (need : Need) (own : List Entry) (m : Up) → ask_for need own ≡ Some m → IsAsking m
ask_asks NeedsId own m asked = subst IsAsking (sym (ask_is _ up.IdAsk m asked).0) tt
ask_asks (NeedsObject o) own m asked = subst IsAsking (sym (ask_is _ (up.Fault o) m asked).0) tt
ask_asks (NeedsLease k level) own m asked = subst IsAsking (sym (ask_is _ (up.Request k level) m asked).0) tt
ask_asks (NeedsClass o) own m asked = absurd (cc asked)
ask_asks (NeedsMark k) own m asked = absurd (cc asked)
ask_asks (NeedsOthersOut k) own m asked = absurd (cc asked)
ask_asks NeedsAck own m asked = absurd (cc asked)

module _ (p : Settings) (c : ℕ) (before after_it : ThreadId → Option Request) (e : Entry) (own : List Entry) where
  -- what is asked for again
  pub again_asks : (request : Option Request) → AllByRecursion IsAsking (asks_again p c before after_it request (unsent e ∷ own) own)
  again_asks (Some (Enter k Write)) = by (not (is_closing p c before k own) && list_any (is_lock k) (due p c after_it (unsent e ∷ own)))
    where
      by : (b : Bool) → AllByRecursion IsAsking (cond b (up.Request k Write ∷ []) [])
      by true = (tt, tt)
      by false = tt
  again_asks request = tt

  -- the leases to be given back are each once,
  due_distinct : Distinct (due p c after_it (unsent e ∷ own))
  due_distinct = distinct_filter (λ k. is_lease_due p c after_it k (unsent e ∷ own)) (leased_locks (unsent e ∷ own))
      (distinct_filter (λ k. is_some (leased k (unsent e ∷ own))) (granted (unsent e ∷ own)) (rising_distinct (granted (unsent e ∷ own)) (granted_rises (unsent e ∷ own))))

  -- and nobody holds their locks
  module _ (well : HoldsWell p c (e ∷ own)) where
    is_let_go : (l : LockName) → list_any (is_lock l) (due p c after_it (unsent e ∷ own)) ≡ true → list_any (λ t. not (is_none (hold_of t l (e ∷ own)))) (threads_of p c) ≡ false
    is_let_go l there =
        let is : is_lease_due p c after_it l (unsent e ∷ own) ≡ true = has_is (λ k. is_lease_due p c after_it k (unsent e ∷ own) ≡ true) l (due p c after_it (unsent e ∷ own))
        (each_passes (λ k. is_lease_due p c after_it k (unsent e ∷ own)) (leased_locks (unsent e ∷ own))) there in
        isnt (list_any (λ t. not (is_none (hold_of t l (e ∷ own)))) (threads_of p c))
        (both (is_entered l (unsent e ∷ own)) (is_free p c after_it l (unsent e ∷ own)) (both (is_closing p c after_it l (unsent e ∷ own)) (is_entered l (unsent e ∷ own) && is_free p c after_it l (unsent e ∷ own)) is).1).1
      where
        isnt : (b : Bool) → not b ≡ true → b ≡ false
        isnt true is = absurd (cc is)
        isnt false is = refl

    nobody_holds : (l : LockName) → list_any (is_lock l) (due p c after_it (unsent e ∷ own)) ≡ true → (u : ThreadId) → hold_level (hold_of u l (e ∷ own)) ≢ Some Write
    nobody_holds l there u = by (hold_of u l (e ∷ own)) refl
      where
        by : (hold : Option Hold) → hold_of u l (e ∷ own) ≡ hold → hold_level hold ≢ Some Write
        by None is = λ held. cc held
        by (Some hold) is = no_both (list_any (λ t. not (is_none (hold_of t l (e ∷ own)))) (threads_of p c))
            (found u (λ t. not (is_none (hold_of t l (e ∷ own)))) (threads_of p c) (ap (λ h. not (is_none h)) is) (well.its u l hold is)) (is_let_go l there)

    -- so behind what is so far the leases may be given back
    module _ (front rest : List Up) (so_far : SaysWell own e.input e.event front) (leaves : (l : LockName) (ts : List ThreadId) → after (list_by_sent l) front ts ≡ ts) (asks : AllByRecursion IsAsking rest) where
      same_lists : (after_parts own e.input e.event front).list ≡ (λ l. client_list l (unsent e ∷ own))
      same_lists = fun_ext (λ l. leaves l (by_event (list_by_event l) e.event (by_taken_down (list_by_taken l) e.input (client_list l own))))

      gives_back : SaysWell own e.input e.event (front ++ (returns p c after_it (unsent e ∷ own) ++ rest))
      gives_back = subst (λ list. SaysWell own e.input e.event (front ++ (each_return list (due p c after_it (unsent e ∷ own)) ++ rest))) same_lists
          (gives_back_well own e.input e.event front (due p c after_it (unsent e ∷ own)) rest so_far due_distinct asks nobody_holds)

  -- what an act needs
  abbrev pub AreFair : Type 0
  AreFair = (a : ThreadId) (request : Request) (reply : Reply) → a.client ≡ c → before a ≡ Some request → unmet p c before a request own ≡ None → reply_of p a request own ≡ Some reply
      → e.event ≡ Some (Act a request reply (woken_by request reply own)) → (l : LockName) → IsFair own l a request reply (woken_by request reply own) p c before

  module _ (well : HoldsWell p c (e ∷ own)) (fair : AreFair) (k : (l : LockName) → KeepsWaiters l (view_of own)) where
    does_well : (index : ℕ) (a : ThreadId) (request : Request) → e.input ≡ input.Act index → a.client ≡ c → before a ≡ Some request → unmet p c before a request own ≡ None
        → Does p c a request before after_it e own → SaysWell own e.input e.event (said_of e.sent)
    does_well index a request is its asked met does =
        let event : Event = Act a request does.reply (woken_by request does.reply own) in
        let front : List Up = commits p a event own in
        let rest : List Up = asks_again p c before after_it (after_it a) (unsent e ∷ own) own in
        let so_far : SaysWell own e.input e.event front = subst (λ i. SaysWell own i e.event front) (sym is)
        (subst (λ ev. SaysWell own (input.Act index) ev front) (sym does.event) (act_well p c before own a request does.reply (fair a request does.reply its asked met does.answered does.event) k index)) in
        subst (SaysWell own e.input e.event) (sym (ap said_of does.sends ∙ said_all (front ++ returns p c after_it (unsent e ∷ own) ++ rest) ∙ append_assoc front (returns p c after_it (unsent e ∷ own)) rest))
        (gives_back well front rest so_far (λ l ts. records_leave l (ending_of event (locks_of a own)) ts) (again_asks (after_it a)))
      where
        records_leave : (l : LockName) (end : Option Ending) (ts : List ThreadId) → after (list_by_sent l) (record_of p a (Act a request does.reply (woken_by request does.reply own)) end own) ts ≡ ts
        records_leave l None ts = refl
        records_leave l (Some end) ts = refl

    -- an entry that has no event, and takes no message
    still_well : (i : Input) → SaysWell own i None [] → e.input ≡ i → e.event ≡ None → SaysWell own e.input e.event []
    still_well i well is none = subst (λ i. SaysWell own i e.event []) (sym is) (subst (λ ev. SaysWell own i ev []) (sym none) well)

    asks_well : (index : ℕ) (need : Need) → e.input ≡ input.Act index → Asks p c need after_it e own → SaysWell own e.input e.event (said_of e.sent)
    asks_well index need is asks = subst (SaysWell own e.input e.event) (sym (ap said_of asks.sends ∙ said_all (returns p c after_it (unsent e ∷ own) ++ asks.message ∷ [])))
        (gives_back well [] (asks.message ∷ []) (still_well (input.Act index) (record { comes = λ l t. tt; keeps = k }) is asks.event) (λ l ts. refl) (ask_asks need own asks.message asks.asked, tt))

    acts_well : (index : ℕ) (a : ThreadId) (request : Option Request) → e.input ≡ input.Act index → a.client ≡ c → before a ≡ request → ActsOn p c a request before after_it e own → SaysWell own e.input e.event (said_of e.sent)
    acts_well index a None is its asked acts = absurd acts
    acts_well index a (Some request) is its asked acts = by (unmet p c before a request own) refl acts
      where
        by : (need : Option Need) → unmet p c before a request own ≡ need → DoesOrAsks p c a request need before after_it e own → SaysWell own e.input e.event (said_of e.sent)
        by None met does = does_well index a request is its asked met does
        by (Some need) met asks = asks_well index need is asks

    -- By the client rule.
    pub says_well : (i : Input) → e.input ≡ i → ClientStepOn p c i before after_it e own → ((m : Down) → i ≡ input.TookDown m → FitsDown p c m own → IsDue own k m) → SaysWell own e.input e.event (said_of e.sent)
    says_well (input.Act index) is step is_lease_due = acts_well index (record { client = c; index = index }) (before (record { client = c; index = index })) is refl refl step.acts
    says_well (input.TookDown m) is step is_lease_due = subst (SaysWell own e.input e.event) (append-nil (returns p c after_it (unsent e ∷ own)) ∙ sym (ap said_of step.sends ∙ said_all (returns p c after_it (unsent e ∷ own))))
        (gives_back well [] [] (still_well (input.TookDown m) (taken_well own k m (is_lease_due m refl step.fits)) is step.event) (λ l ts. refl) tt)
    says_well (input.Flush o) is step is_lease_due = subst (SaysWell own e.input e.event) (sym (ap said_of step.sends))
        (gives_back_well own e.input e.event [] [] (up.Flushed o ∷ []) (still_well (input.Flush o) (record { comes = λ l t. tt; keeps = k }) is step.event) tt (tt, tt) (λ l there. absurd (cc there)))
    says_well (input.Rejoin d) is step is_lease_due = subst (SaysWell own e.input e.event) (sym (ap said_of step.sends)) (still_well (input.Rejoin d) (record { comes = λ l t. tt; keeps = k }) is step.event)
    says_well other is step is_lease_due = absurd step

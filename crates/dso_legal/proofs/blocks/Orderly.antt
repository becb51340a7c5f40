-- A client's entries are orderly: only threads of the cluster act, and none of them holds the lock that it waits on.
use Rattle.std.specs.List.{list_any}
use Rattle.std.proofs.Common.{ℕ, ◌≡◌, ◌⊎◌, inl, inr, refl, sym, ◌∙◌, ap, subst, Bool, true, false, cond, eqb, Option, Some, None, List, [], ◌∷◌}
use Rattle.std.proofs.lemmas.Bool.{eq-eqb}
use Rattle.dso_base.specs.declared.journal.Entry.{Entry}
use Rattle.dso_base.specs.declared.journal.Input.{Input}
use Rattle.dso_base.specs.declared.journal.Input.TheVariants as input
use Rattle.dso_base.specs.declared.journal.Node.{Node}
use Rattle.dso_base.specs.declared.journal.Node.TheVariants.{Server, Client}
use Rattle.dso_base.specs.declared.lock.ThreadId.{ThreadId}
use Rattle.dso_base.specs.declared.request.Event.{Event}
use Rattle.dso_base.specs.declared.request.Event.TheVariants.{Act}
use Rattle.dso_base.specs.declared.request.Reply.{Reply}
use Rattle.dso_base.specs.declared.request.Request.{Request}
use Rattle.dso_base.specs.Following.{is_thread}
use Rattle.dso_plain.proofs.keys.SameKeys.{same_number, same_thread}
use Rattle.dso_law.specs.Settings.{Settings}
use Rattle.dso_law.specs.Entries.{is_node, entries_of, by_event, events_in}
use Rattle.dso_law.specs.ClientStep.{DoesOrAsks, ActsOn, ClientStepOn, ClientStep}
use Rattle.dso_law.specs.RequestNeeds.{Need, unmet}
use Rattle.dso_law.specs.Replies.{woken_by}
use Rattle.dso_law.specs.Threads.{Locks, locks_by, locks_after, locks_of, hold_in}
use Rattle.dso_legal.specs.Lawful.{next_after, NodeFollows, AllFollow}
use Rattle.dso_legal.specs.PendingBlocks.{no_locks}
use Rattle.dso_legal.specs.SoundProgram.{event_tells, AsksSoundly}
use Rattle.dso_legal.specs.Views.{OnlyListedHold, IsOrderly}
use Rattle.dso_legal.proofs.blocks.WaitsApart.{waits_apart}
use Rattle.dso_legal.proofs.leases.LeaseSteps.{no_both, unless_true}

-- the entry's event is an act of a thread of the client, which is one of the cluster's
pub record HasListedAct (p : Settings) (c : ℕ) (e : Entry) : Type 0 where
  pub thread : ThreadId
  pub of_client : thread.client ≡ c
  pub listed : list_any (is_thread thread) p.threads ≡ true
  pub request : Request
  pub reply : Reply
  pub woken : Option ThreadId
  pub event : e.event ≡ Some (Act thread request reply woken)

module _ (p : Settings) (c : ℕ) (before after_it : ThreadId → Option Request) (e : Entry) (es : List Entry) where
  does : (t : ThreadId) (request : Request) (need : Option Need) → t.client ≡ c → list_any (is_thread t) p.threads ≡ true → DoesOrAsks p c t request need before after_it e es → (e.event ≡ None) ⊎ HasListedAct p c e
  does t request None its listed step = inr (record { thread = t; of_client = its; listed = listed; request = request; reply = step.reply; woken = woken_by request step.reply es; event = step.event })
  does t request (Some need) its listed step = inl step.event

  acts : (t : ThreadId) (request : Option Request) → t.client ≡ c → list_any (is_thread t) p.threads ≡ true → ActsOn p c t request before after_it e es → (e.event ≡ None) ⊎ HasListedAct p c e
  acts t None its listed step = absurd step
  acts t (Some request) its listed step = does t request (unmet p c before t request es) its listed step

  acted : (i : Input) → ClientStepOn p c i before after_it e es → (e.event ≡ None) ⊎ HasListedAct p c e
  acted (input.Act index) step = acts (record { client = c; index = index }) (before (record { client = c; index = index })) refl step.its step.acts
  acted (input.TookDown m) step = inl step.event
  acted (input.Flush o) step = inl step.event
  acted (input.Rejoin d) step = inl step.event
  acted other step = absurd step

  -- Who acts in a client's entry: nobody, or a thread of the client which is one of the cluster's.
  pub who_acts : ClientStep p c before after_it e es → (e.event ≡ None) ⊎ HasListedAct p c e
  who_acts step = acted e.input step

-- the thread is not one that acts
abbrev pub NeverActs : Settings → ℕ → ThreadId → Type 0
NeverActs p c u = (list_any (is_thread u) p.threads ≡ false) ⊎ (eqb u.client c ≡ false)

-- so it is not the thread of an act
not_of : (p : Settings) (c : ℕ) (u t : ThreadId) (b : Bool) → NeverActs p c u → t.client ≡ c → list_any (is_thread t) p.threads ≡ true → is_thread u t ≡ b → b ≡ false
not_of p c u t false never its listed is = refl
not_of p c u t true (inl unlisted) its listed is = no_both (list_any (is_thread u) p.threads) (subst (λ x. list_any (is_thread x) p.threads ≡ true) (same_thread u t is) listed) unlisted
not_of p c u t true (inr other) its listed is = no_both (eqb u.client c) (eq-eqb u.client c (ap (λ (x : ThreadId). x.client) (sym (same_thread u t is)) ∙ its)) other

module _ (p : Settings) (next : ThreadId → List Event → Option Request) (c : ℕ) (u : ThreadId) (never : NeverActs p c u) where
  -- so a reading of its events stays as it was at first
  module _ {X : Type 0} (reading : List Entry → X) (first : X) (starts : reading [] ≡ first)
      (stays : (e : Entry) (es : List Entry) → (e.event ≡ None) ⊎ HasListedAct p c e → reading (e ∷ es) ≡ reading es) where
    at_client : (e : Entry) (es : List Entry) (node : Node) → NodeFollows p next node e es → reading (entries_of (Client c) es) ≡ first → reading (cond (is_node (Client c) node) (e ∷ entries_of (Client c) es) (entries_of (Client c) es)) ≡ first
    at_client e es Server h was = was
    at_client e es (Client d) h was = by (eqb c d) refl
      where
        by : (b : Bool) → eqb c d ≡ b → reading (cond b (e ∷ entries_of (Client c) es) (entries_of (Client c) es)) ≡ first
        by true is =
            let step = subst (λ n. ClientStep p n (next_after next es) (next_after next (e ∷ es)) e (entries_of (Client n) es)) (sym (same_number c d is)) h.step in
            stays e (entries_of (Client c) es) (who_acts p c (next_after next es) (next_after next (e ∷ es)) e (entries_of (Client c) es) step) ∙ was
        by false is = was

    as_at_first : (es : List Entry) → AllFollow p next es → reading (entries_of (Client c) es) ≡ first
    as_at_first [] h = starts
    as_at_first (e ∷ es) h = at_client e es e.node h.1.rule (as_at_first es h.0)

  -- and no locks
  locks_left : (e : Entry) (locks : Locks) → (e.event ≡ None) ⊎ HasListedAct p c e → by_event (locks_after u) e.event locks ≡ locks
  locks_left e locks (inl none) = ap (λ event. by_event (locks_after u) event locks) none
  locks_left e locks (inr act) = ap (λ event. by_event (locks_after u) event locks) act.event
      ∙ unless_true (is_thread u act.thread) (locks_by act.request act.reply locks) locks (not_of p c u act.thread (is_thread u act.thread) never act.of_client act.listed refl)

  pub has_no_locks : (es : List Entry) → AllFollow p next es → locks_of u (entries_of (Client c) es) ≡ no_locks
  has_no_locks es h = as_at_first (locks_of u) no_locks refl (λ e es who. locks_left e (locks_of u es) who) es h

-- Only threads of the cluster hold locks, in every lawful journal.
pub only_listed_hold : (p : Settings) (next : ThreadId → List Event → Option Request) (es : List Entry) → AllFollow p next es → (c : ℕ) → OnlyListedHold p (entries_of (Client c) es)
only_listed_hold p next es h c u l unlisted = ap (λ (locks : Locks). hold_in l locks.holds) (has_no_locks p next c u (inl unlisted) es h)

-- A client's entries are orderly, where a sound program's thread was told of no object 0.
pub is_orderly : (p : Settings) (next : ThreadId → List Event → Option Request) → AsksSoundly p.shape next → (es : List Entry) → AllFollow p next es
    → (t : ThreadId) → list_any (event_tells 0) (events_in t (entries_of (Client t.client) es)) ≡ false → IsOrderly p t (entries_of (Client t.client) es)
is_orderly p next sound es h t untold = record { listed = only_listed_hold p next es h t.client; apart = waits_apart p next sound t es h untold }

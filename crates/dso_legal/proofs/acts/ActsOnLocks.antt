-- What a client answers about locks, the one heap allows: Enter, Exit, Wait and the notifications, Tick, Timeout, Resume and End.
use Rattle.std.specs.List.{list_any}
use Rattle.std.proofs.Common.{ℕ, ◌≡◌, ◌≢◌, inl, inr, refl, sym, ◌∙◌, ap, subst, Bool, true, false, cond, not, eqb, ◌&&◌, ◌||◌, is_some, Option, Some, None, List, [], ◌∷◌, filter}
use Rattle.std.proofs.lemmas.Bool.{eqb-false, and_parts, not-true}
use Rattle.dso_base.specs.declared.journal.Entry.{Entry}
use Rattle.dso_base.specs.declared.lock.Level.{Level}
use Rattle.dso_base.specs.declared.lock.Level.TheVariants.{Read, Write}
use Rattle.dso_base.specs.declared.lock.LockName.{LockName}
use Rattle.dso_base.specs.declared.lock.LockName.TheVariants.{Mon, Name}
use Rattle.dso_base.specs.declared.lock.ThreadId.{ThreadId}
use Rattle.dso_base.specs.declared.request.Reply.{Reply}
use Rattle.dso_base.specs.declared.request.Reply.TheVariants.{Done, Val, Local}
use Rattle.dso_base.specs.declared.request.Request.TheVariants.{Exit, Tick, Timeout, Resume, End}
use Rattle.dso_base.specs.declared.value.Value.TheVariants as value
use Rattle.dso_base.specs.Following.{is_thread}
use Rattle.dso_plain.specs.KeyTests.{is_lock}
use Rattle.dso_plain.specs.State.{Hold, PlainState, IsPrivate, IsShared, level_of}
use Rattle.dso_plain.specs.Possible.{IsPrivateMonitor, IsClusterLock, IsCompatible, NoConflict, AnswersEnter, AnswersExit, AnswersMonitor, AnswersTick, AnswersTimeout, AnswersResume, AnswersEnd}
use Rattle.dso_plain.proofs.keys.SameKeys.{same_number, number_self, same_thread, thread_self}
use Rattle.dso_law.specs.Settings.{Settings, threads_of}
use Rattle.dso_law.specs.Entries.{events_in}
use Rattle.dso_law.specs.Closing.{admits}
use Rattle.dso_law.specs.FitsDown.{IsWaitingOn}
use Rattle.dso_law.specs.ClientWaiters.{is_marked}
use Rattle.dso_law.specs.Leases.{leased}
use Rattle.dso_law.specs.RequestNeeds.{NeedsMark, NeedsLease, NeedsOthersOut, is_enough, conflicts, hold_level, unless, is_in_conflict, entry_need, unmet}
use Rattle.dso_law.specs.Replies.{enter_reply, monitor_reply, timeout_reply}
use Rattle.dso_law.specs.Threads.{Locks, Waiting, is_private, is_local, locks_of, hold_of, hold_in}
use Rattle.dso_legal.specs.Names.{IsKnown}
use Rattle.dso_legal.specs.PendingBlocks.{no_locks, locks_through}
use Rattle.dso_legal.specs.SoundProgram.{IsToldLock, KeepsLocks}
use Rattle.dso_legal.specs.Views.{OnlyListedHold, Sees}
use Rattle.dso_legal.specs.Works.{wait_count}
use Rattle.dso_legal.proofs.acts.ActsOnObjects.{Whose, mine, published, others, whose, met, both_met, level_is}
use Rattle.dso_legal.proofs.leases.LeaseSteps.{no_both}
use Rattle.dso_legal.proofs.leases.Queues.{lock_self}

-- a test that no item of a list passes, and that an item which is there doesn't pass
pub fails_for : (u : ThreadId) (test : ThreadId → Bool) (threads : List ThreadId) → list_any test threads ≡ false → list_any (is_thread u) threads ≡ true → test u ≡ false
fails_for u test [] none there = absurd (cc there)
fails_for u test (first ∷ rest) none there = by (is_thread u first) (test first) refl refl none there (fails_for u test rest)
  where
    by : (a b : Bool) → is_thread u first ≡ a → test first ≡ b → (b || list_any test rest) ≡ false → (a || list_any (is_thread u) rest) ≡ true
        → (list_any test rest ≡ false → list_any (is_thread u) rest ≡ true → test u ≡ false) → test u ≡ false
    by a true is passes f g later = absurd (cc f)
    by true false is fails f g later = subst (λ x. test x ≡ false) (same_thread u first is) fails
    by false false is fails f g later = later f g

-- a thread of a list that is a client's is among the client's
among_clients : (u : ThreadId) (c : ℕ) (threads : List ThreadId) → eqb u.client c ≡ true → list_any (is_thread u) threads ≡ true → list_any (is_thread u) (filter (λ x. eqb x.client c) threads) ≡ true
among_clients u c [] its e = e
among_clients u c (first ∷ rest) its e = by (is_thread u first) (eqb first.client c) refl refl e (among_clients u c rest its)
  where
    by : (a b : Bool) → is_thread u first ≡ a → eqb first.client c ≡ b → (a || list_any (is_thread u) rest) ≡ true → (list_any (is_thread u) rest ≡ true → list_any (is_thread u) (filter (λ x. eqb x.client c) rest) ≡ true)
        → list_any (is_thread u) (cond b (first ∷ filter (λ x. eqb x.client c) rest) (filter (λ x. eqb x.client c) rest)) ≡ true
    by true true is kept f later = ap (λ a. a || list_any (is_thread u) (filter (λ x. eqb x.client c) rest)) is
    by true false is kept f later = no_both (eqb u.client c) its (subst (λ x. eqb x.client c ≡ false) (same_thread u first is) kept)
    by false true is kept f later = ap (λ a. a || list_any (is_thread u) (filter (λ x. eqb x.client c) rest)) is ∙ later f
    by false false is kept f later = later f

-- a thread that is not the other
pub not_thread : (t u : ThreadId) → u ≢ t → is_thread t u ≡ false
not_thread t u ne = by (is_thread t u) refl
  where
    by : (b : Bool) → is_thread t u ≡ b → b ≡ false
    by true is = absurd (ne (same_thread t u is))
    by false is = refl

-- nobody's hold is beside every level
pub beside_none : (level : Level) → IsCompatible level None
beside_none Read = tt
beside_none Write = tt

-- levels that don't conflict are beside each other
pub beside : (level : Level) (other : Option Level) → conflicts level other ≡ false → IsCompatible level other
beside level None e = beside_none level
beside Read (Some Read) e = tt
beside Read (Some Write) e = absurd (cc e)
beside Write (Some Read) e = absurd (cc e)
beside Write (Some Write) e = absurd (cc e)

-- where the first of two tests fails for sure, the second decides
second_fails : (a b : Bool) → (not a && b) ≡ false → a ≡ false → b ≡ false
second_fails true b e f = absurd (cc f)
second_fails false b e f = e

-- a wait on the lock has its count
has_count : (l : LockName) (waiting : Option Waiting) → IsWaitingOn l waiting → wait_count l waiting ≢ None
has_count l None waits none = waits
has_count l (Some waiting) waits none = cc (sym (ap (λ b. cond b (Some waiting.count) None) (ap (is_lock l) waits ∙ lock_self l)) ∙ none)

-- beside Write there is no hold
beside_write : (hold : Option Hold) → IsCompatible Write (level_of hold) → hold ≡ None
beside_write None free = refl
beside_write (Some hold) free = absurd free

module _ (p : Settings) (t : ThreadId) (client : List Entry) (start_state s : PlainState) (sees : Sees p t client start_state s) where
  -- the monitor of an object that is the thread's own
  local_monitor : (l : LockName) → is_local p.shape t l client ≡ true → IsPrivateMonitor t l s
  local_monitor (Name n) e = absurd (cc e)
  local_monitor (Mon o) e = by (whose p.shape t o client start_state s sees.work)
    where
      by : Whose p.shape t o client s → IsPrivate t o s
      by (mine body is private own h) = own
      by (published body is private shared h) = no_both (is_private p.shape t o client) e private
      by (others none private) = no_both (is_private p.shape t o client) e private

  -- an object that the thread was told and that is not its own is shared
  told_shared : (o : ℕ) → is_private p.shape t o client ≡ false → IsKnown t o s → IsShared o s
  told_shared o e (inl own) = no_both (is_private p.shape t o client) (sees.work.privates.all o own) e
  told_shared o e (inr shared) = shared

  -- a lock that is not local is the cluster's
  cluster_lock : (l : LockName) → is_local p.shape t l client ≡ false → IsToldLock l (events_in t client) → IsClusterLock l s
  cluster_lock (Name n) e told = tt
  cluster_lock (Mon o) e told = (told_shared o e (sees.names.told o told.1), told.0)

  -- the level at which the thread holds a lock
  level_held : (l : LockName) → level_of (s.monitors (l, t)) ≡ hold_level (hold_of t l client)
  level_held l = ap (λ x. level_of x) (sees.holds.own.holds l) ∙ sym (level_is (hold_of t l client))

  module _ (next : _) (listed : OnlyListedHold p client) (l : LockName) (level : Level) (need : entry_need p t.client next t l level client ≡ None) where
    -- the lease is enough
    enough : is_enough level (leased l client) ≡ true
    enough = (and_parts (is_enough level (leased l client)) (admits p t.client next l client)
        (met (is_enough level (leased l client) && admits p t.client next l client) (NeedsLease l level) (both_met _ _ need).0)).0

    -- and no thread of the client is in conflict
    free : list_any (is_in_conflict p t.client next t l level client) (threads_of p t.client) ≡ false
    free = not-true (list_any (is_in_conflict p t.client next t l level client) (threads_of p t.client))
        (met (not (list_any (is_in_conflict p t.client next t l level client) (threads_of p t.client))) (NeedsOthersOut l) (both_met _ _ need).1)

    -- a thread of the same client, by whether it is one of the cluster's
    mate_beside : (u : ThreadId) (b : Bool) → u ≢ t → u.client ≡ t.client → list_any (is_thread u) p.threads ≡ b → IsCompatible level (hold_level (hold_of u l client))
    mate_beside u true ne same is = beside level (hold_level (hold_of u l client))
        (second_fails (is_thread t u) (conflicts level (hold_level (hold_of u l client)))
        (fails_for u (is_in_conflict p t.client next t l level client) (threads_of p t.client) free (among_clients u t.client p.threads (ap (λ c. eqb c t.client) same ∙ number_self t.client) is))
        (not_thread t u ne))
    mate_beside u false ne same is = subst (λ x. IsCompatible level (hold_level x)) (sym (listed u l is)) (beside_none level)

    -- another thread, by whether it is of the same client
    other_beside : (u : ThreadId) (b : Bool) → u ≢ t → eqb u.client t.client ≡ b → IsCompatible level (level_of (s.monitors (l, u)))
    other_beside u true ne is = elim (sees.holds.mates u l ne (same_number u.client t.client is)) [
      | inl none ↦ subst (λ x. IsCompatible level (level_of x)) (sym none) (beside_none level)
      | inr same ↦ subst (λ x. IsCompatible level x) (sym same) (mate_beside u (list_any (is_thread u) p.threads) ne (same_number u.client t.client is) refl)
    ]
    other_beside u false ne is = sees.holds.others u l level (eqb-false u.client t.client is) enough

    -- so nobody holds the lock in conflict
    pub no_conflict : NoConflict t l level s
    no_conflict u ne = other_beside u (eqb u.client t.client) ne refl

  -- a lock that is held, by the level wanted and the level held
  enter_held : (l : LockName) (level x : Level) → level_of (s.monitors (l, t)) ≡ Some x → IsClusterLock l s → AnswersEnter t l level (enter_reply level (Some x)) s
  enter_held l Write Read is cluster = is
  enter_held l Write Write is cluster = (cluster, (λ up. absurd (cc (sym is ∙ up))), inl (λ none. absurd (cc (sym (ap (λ x. level_of x) none) ∙ is))))
  enter_held l Read x is cluster = (cluster, (λ up. up), inl (λ none. absurd (cc (sym (ap (λ x. level_of x) none) ∙ is))))

  -- a lock that isn't held
  enter_free : (l : LockName) (level : Level) → level_of (s.monitors (l, t)) ≡ None → IsClusterLock l s → NoConflict t l level s → AnswersEnter t l level (enter_reply level None) s
  enter_free l Write is cluster free = (cluster, (λ up. absurd (cc (sym is ∙ up))), inr free)
  enter_free l Read is cluster free = (cluster, (λ up. up), inr free)

  -- a lock that isn't local, by the hold
  enter_cluster : (next : _) (l : LockName) (level : Level) (hold : Option Hold) → OnlyListedHold p client → hold_of t l client ≡ hold → IsClusterLock l s
      → cond (false || is_some hold) None (entry_need p t.client next t l level client) ≡ None → AnswersEnter t l level (enter_reply level (hold_level hold)) s
  enter_cluster next l level None listed is cluster need = enter_free l level (level_held l ∙ ap (λ x. hold_level x) is) cluster (no_conflict next listed l level need)
  enter_cluster next l level (Some hold) listed is cluster need = enter_held l level hold.level (level_held l ∙ ap (λ x. hold_level x) is) cluster

  -- Enter, by whether the lock is local
  may_enter_by : (next : _) (l : LockName) (level : Level) (b : Bool) → OnlyListedHold p client → IsToldLock l (events_in t client) → is_local p.shape t l client ≡ b
      → cond (b || is_some (hold_of t l client)) None (entry_need p t.client next t l level client) ≡ None → AnswersEnter t l level (cond b Local (enter_reply level (hold_level (hold_of t l client)))) s
  may_enter_by next l level true listed told is need = local_monitor l is
  may_enter_by next l level false listed told is need = enter_cluster next l level (hold_of t l client) listed refl (cluster_lock l is told) need

  -- Enter
  pub may_enter : (next : _) (l : LockName) (level : Level) (reply : Reply) → OnlyListedHold p client → IsToldLock l (events_in t client)
      → cond (is_local p.shape t l client || is_some (hold_of t l client)) None (entry_need p t.client next t l level client) ≡ None
      → Some (cond (is_local p.shape t l client) Local (enter_reply level (hold_level (hold_of t l client)))) ≡ Some reply → AnswersEnter t l level reply s
  may_enter next l level reply listed told need e = subst (λ r. AnswersEnter t l level r s) (cc e) (may_enter_by next l level (is_local p.shape t l client) listed told refl need)

  module _ (same : locks_of t client ≡ locks_through t (events_in t client) no_locks) where
    -- Exit
    pub may_exit : (l : LockName) → KeepsLocks (Exit l) (locks_through t (events_in t client) no_locks) → AnswersExit t l Done s
    may_exit l held = λ none. subst (λ (locks : Locks). hold_in l locks.holds ≢ None) (sym same) held (sym (sees.holds.own.holds l) ∙ none)

    -- End
    pub may_end : (fault : _) → KeepsLocks (End fault) (locks_through t (events_in t client) no_locks) → AnswersEnd t Done s
    may_end fault empty = λ l. sees.holds.own.holds l ∙ ap (λ (locks : Locks). hold_in l locks.holds) same ∙ ap (λ holds. hold_in l holds) empty

    -- a thread waits where the program says that it does
    waits_now : (l : LockName) → IsWaitingOn l (locks_through t (events_in t client) no_locks).waiting → IsWaitingOn l (locks_of t client).waiting
    waits_now l waits = subst (λ (locks : Locks). IsWaitingOn l locks.waiting) (sym same) waits

    waits_there : (l : LockName) → IsWaitingOn l (locks_through t (events_in t client) no_locks).waiting → s.asleep (l, t) ≢ None
    waits_there l waits none = has_count l (locks_of t client).waiting (waits_now l waits) (sym (sees.holds.own.waits l) ∙ none)

    -- Tick
    pub may_tick : (l : LockName) (reply : Reply) → KeepsLocks (Tick l) (locks_through t (events_in t client) no_locks) → Some (Val (value.Bool (is_marked t client))) ≡ Some reply → AnswersTick t l reply s
    may_tick l reply waits e = subst (λ r. AnswersTick t l r s) {x = Val (value.Bool (is_marked t client))} (cc e) (waits_there l waits)

    -- Timeout
    pub may_time_out : (l : LockName) (reply : Reply) → KeepsLocks (Timeout l) (locks_through t (events_in t client) no_locks) → Some (timeout_reply (is_marked t client)) ≡ Some reply → AnswersTimeout t l reply s
    may_time_out l reply waits e = subst (λ r. AnswersTimeout t l r s) {x = timeout_reply (is_marked t client)} (cc e) (by (is_marked t client))
      where
        by : (b : Bool) → AnswersTimeout t l (timeout_reply b) s
        by true = waits_there l waits
        by false = waits_there l waits

    -- nobody holds the lock that a thread resumes with, the thread itself no more than others
    none_holds : (next : _) (l : LockName) → OnlyListedHold p client → hold_of t l client ≡ None → entry_need p t.client next t l Write client ≡ None
        → (u : ThreadId) (b : Bool) → is_thread t u ≡ b → s.monitors (l, u) ≡ None
    none_holds next l listed apart need u true is = subst (λ w. s.monitors (l, w) ≡ None) (sym (same_thread t u is)) (sees.holds.own.holds l ∙ apart)
    none_holds next l listed apart need u false is = beside_write (s.monitors (l, u)) (no_conflict next listed l Write need u (λ same. no_both (is_thread t t) (thread_self t) (ap (is_thread t) (sym same) ∙ is)))

    -- Resume
    pub may_resume : (next : _) (l : LockName) → OnlyListedHold p client → ((k : LockName) → IsWaitingOn k (locks_of t client).waiting → hold_of t k client ≡ None) → KeepsLocks (Resume l) (locks_through t (events_in t client) no_locks)
        → unmet p t.client next t (Resume l) client ≡ None → AnswersResume t l Done s
    may_resume next l listed apart waits need =
        (waits_there l waits, λ u. none_holds next l listed (apart l (waits_now l waits)) (both_met (unless (is_marked t client) (NeedsMark l)) _ need).1 u (is_thread t u) refl)

  -- Wait, Notify and NotifyAll, by how the lock is held
  monitor_answers : (l : LockName) (level : Option Level) → hold_level (hold_of t l client) ≡ level → AnswersMonitor t l (monitor_reply level) s
  monitor_answers l (Some Write) is = level_held l ∙ is
  monitor_answers l (Some Read) is = λ held. absurd (cc (sym (level_held l ∙ is) ∙ held))
  monitor_answers l None is = λ held. absurd (cc (sym (level_held l ∙ is) ∙ held))

  pub may_monitor : (l : LockName) (reply : Reply) → Some (monitor_reply (hold_level (hold_of t l client))) ≡ Some reply → AnswersMonitor t l reply s
  may_monitor l reply e = subst (λ r. AnswersMonitor t l r s) {x = monitor_reply (hold_level (hold_of t l client))} (cc e) (monitor_answers l (hold_level (hold_of t l client)) refl)

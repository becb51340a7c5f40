-- The leases that an act made due are given back.
use Rattle.std.specs.List.{list_any, AllByRecursion}
use Rattle.std.proofs.Common.{◌≡◌, ℕ, refl, sym, ◌∙◌, ap, subst, Bool, true, false, cond, ◌&&◌, ◌||◌, is_some, Option, Some, None, List, [], ◌∷◌, ◌++◌, map}
use Rattle.std.proofs.Math.Path.{fun_ext}
use Rattle.std.specs.Option.{option_map}
use Rattle.dso_base.specs.declared.journal.Sent.TheVariants.{ToServer}
use Rattle.dso_base.specs.declared.lock.LockName.{LockName}
use Rattle.dso_base.specs.declared.lock.ThreadId.{ThreadId}
use Rattle.dso_base.specs.declared.message.Up.{Up}
use Rattle.dso_base.specs.declared.message.Up.TheVariants as up
use Rattle.dso_base.specs.declared.record.Txn.{Txn}
use Rattle.dso_base.specs.declared.request.Request.{Request}
use Rattle.dso_hold.specs.Holds.{hold_in}
use Rattle.dso_lease.specs.Leases.{standing_in, was_entered}
use Rattle.dso_plain.specs.KeyTests.{is_lock}
use Rattle.dso_plain.proofs.keys.SameKeys.{same_lock}
use Rattle.dso_law.specs.declared.readings.LockStanding as law
use Rattle.dso_law.proofs.runs.Quiet.{lock_self}
use Rattle.dso_law.specs.Entries.{by_sent_up}
use Rattle.dso_law.specs.ClientStep.{returns}
use Rattle.dso_law.specs.ClientWaiters.{list_by_act, list_by_sent, client_list}
use Rattle.dso_law.specs.Closing.{is_closing, is_lease_due, is_free, due}
use Rattle.dso_law.specs.Leases.{granted, insert_lock, leased_locks, standing_up, standing, leased, is_entered, is_recalled, is_asked_for}
use Rattle.dso_law.specs.Settings.{threads_of}
use Rattle.dso_client.specs.declared.answered.Answered.{Answered}
use Rattle.dso_client.specs.declared.client_state.ClientState.{ClientState}
use Rattle.dso_client.specs.declared.lock_state.LockState.{LockState}
use Rattle.dso_client.specs.StateStands.{ClientPartsStand}
use Rattle.dso_client.specs.ActEffects.{acting, applied}
use Rattle.dso_client.specs.LockStateStands.{LockStateStands, as_hold, standing_as}
use Rattle.dso_client.specs.RunPoints.{RunPoint}
use Rattle.dso_client.specs.LeaseReturns.{ActSettles, AddsDue, AddsMarked, AreGivenBack, Distinct, OnlyThese, Rising, given_back, is_due_at, is_of, is_wanted_by, is_wanted_by_marked, left_lock, record_sent}
use Rattle.dso_client.specs.RunFacts.{RunFacts}
use Rattle.dso_client.proofs.lock_standing.LockStands.{entered_told}
use Rattle.dso_client.proofs.due.Leased.{among_insert, leased_granted}
use Rattle.dso_client.proofs.due.Rising.{granted_rises, insert_rising, rising_distinct}
use Rattle.dso_client.proofs.due.SameLocks.{among_left, rising_left, same_rising}
use Rattle.dso_client.proofs.due.Sent.{AreOfLocks, in_parts, parts_on}

-- ---- which leases are due

module _ (at : RunPoint) where
  abbrev all_due : List LockName
  all_due = due at.settings at.client at.next at.entries

  pub due_rises : Rising all_due
  due_rises = rising_left (λ l. is_lease_due at.settings at.client at.next l at.entries) (leased_locks at.entries) (rising_left (λ l. is_some (leased l at.entries)) (granted at.entries) (granted_rises at.entries))

  both_or_none : (g l d : Bool) → (l ≡ true → g ≡ true) → ((g && l) && d) ≡ (l && d)
  both_or_none true l d there = refl
  both_or_none false true d there = absurd (cc (there refl))
  both_or_none false false d there = refl

  pub due_has : (k : LockName) → list_any (is_lock k) all_due ≡ is_due_at at k
  due_has k = among_left k (λ l. is_lease_due at.settings at.client at.next l at.entries) (leased_locks at.entries)
      ∙ (ap (λ b. b && is_lease_due at.settings at.client at.next k at.entries) (among_left k (λ l. is_some (leased l at.entries)) (granted at.entries))
      ∙ both_or_none (list_any (is_lock k) (granted at.entries)) (is_some (leased k at.entries)) (is_lease_due at.settings at.client at.next k at.entries) (leased_granted k at.entries))

  none_of : (b : Bool) → (b && false) ≡ false
  none_of true = refl
  none_of false = refl

  -- what is due is one of three, and of each what is due is there
  only : (a b x m d : Bool) → (d ≡ true → (a || (b || x)) ≡ true) → (x ≡ true → m ≡ true)
      → (((false || (a && d)) || (b && d)) || (m && d)) ≡ d
  only true b x m true h f = refl
  only false true x m true h f = refl
  only false false x true true h f = refl
  only false false x false true h f = absurd (cc (f (h refl)))
  only a b x m false h f = ap (λ c. (c || (b && false)) || (m && false)) (none_of a)
      ∙ (ap (λ c. c || (m && false)) (none_of b) ∙ none_of m)

  -- those that were left, are wanted by the acting thread or by one that was marked, and are due, are all that are
  pub all_found : (act : Answered) (locks more all : List LockName) → OnlyThese at act
      → AddsDue at (λ k. is_of k (left_lock act.request)) [] locks
      → AddsDue at (λ k. is_wanted_by at k act.thread) locks more → AddsMarked at act more all → all ≡ all_due
  all_found act locks more all these first second third = same_rising all all_due
      (third.adds.rises (second.rises (first.rises tt))) due_rises (λ k.
      let left = is_of k (left_lock act.request) in
      let wanted = is_wanted_by at k act.thread in
      let due = is_due_at at k in
      third.adds.has k ∙ (ap (λ b. b || (third.among k && due)) (second.has k ∙ ap (λ b. b || (wanted && due)) (first.has k))
      ∙ (only left wanted (list_any (is_wanted_by_marked at act k) (threads_of at.settings at.client)) (third.among k) due
      (these k) (third.all k) ∙ sym (due_has k))))

-- a lock that wasn't there is added, where its lease is to be given back
pub adds_one : (at : RunPoint) (lock : LockName) (old new : List LockName) → list_any (is_lock lock) old ≡ false → is_due_at at lock ≡ true → new ≡ insert_lock lock old → AddsDue at (λ k. is_lock k lock) old new
adds_one at lock old new absent is inserted = record {
  rises = λ h. subst Rising (sym inserted) (insert_rising lock old h);
  has = λ k. ap (list_any (is_lock k)) inserted ∙ (among_insert k lock old ∙ by k (is_lock k lock) refl (list_any (is_lock k) old));
}
  where
    there : (a : Bool) → true ≡ (a || true)
    there true = refl
    there false = refl

    elsewhere : (a : Bool) → a ≡ (a || false)
    elsewhere true = refl
    elsewhere false = refl

    by : (k : LockName) (b : Bool) → is_lock k lock ≡ b → (a : Bool) → (b || a) ≡ (a || (b && is_due_at at k))
    by k true same a = there a ∙ ap (λ d. a || d) (sym (ap (is_due_at at) (sym (same_lock k lock same)) ∙ is))
    by k false differ a = elsewhere a

-- one after the other
pub adds_both : (at : RunPoint) (one other : LockName → Bool) (old mid new : List LockName) → AddsDue at one old mid → AddsDue at other mid new → AddsDue at (λ k. one k || other k) old new
adds_both at one other old mid new first second = record {
  rises = λ h. second.rises (first.rises h);
  has = λ k. second.has k ∙ (ap (λ b. b || (other k && is_due_at at k)) (first.has k) ∙ regrouped (list_any (is_lock k) old) (one k) (other k) (is_due_at at k));
}
  where
    regrouped : (a b c d : Bool) → ((a || (b && d)) || (c && d)) ≡ (a || ((b || c) && d))
    regrouped true b c d = refl
    regrouped false true c true = refl
    regrouped false true true false = refl
    regrouped false true false false = refl
    regrouped false false c d = refl

-- ---- a lease that is due may be given back

first_two : (a b : Bool) → (a && b) ≡ true → (a ≡ true) × (b ≡ true)
first_two true b e = (refl, e)
first_two false b e = absurd (cc e)

pub due_may : (at : RunPoint) (old : LockState) → LockStateStands at old → (l : LockName) → is_due_at at l ≡ true → was_entered (standing_in old.leases l) ≡ true
due_may at old h l is =
    let parts = first_two (is_some (leased l at.entries)) (is_lease_due at.settings at.client at.next l at.entries) is in
    let more = first_two (is_closing at.settings at.client at.next l at.entries) (is_entered l at.entries && is_free at.settings at.client at.next l at.entries) parts.1 in
    let entered = first_two (is_entered l at.entries) (is_free at.settings at.client at.next l at.entries) more.1 in
    entered_told at old h l ∙ (ap (λ there. there && is_entered l at.entries) parts.0 ∙ entered.0)

lock_self_there : (l : LockName) (locks : List LockName) → list_any (is_lock l) (l ∷ locks) ≡ true
lock_self_there l locks = ap (λ b. b || list_any (is_lock l) locks) (lock_self l)

pub each_may : (test : LockName → Bool) (locks : List LockName) → ((k : LockName) → list_any (is_lock k) locks ≡ true → test k ≡ true) → AllByRecursion (λ l. test l ≡ true) locks
each_may test [] h = tt
each_may test (l ∷ locks) h = (h l (lock_self_there l locks), each_may test locks (λ k there. h k (behind (is_lock k l) (list_any (is_lock k) locks) there)))
  where
    behind : (a b : Bool) → b ≡ true → (a || b) ≡ true
    behind true b h = refl
    behind false b h = h

-- ---- what returns make of the locks

module _ (list : LockName → List ThreadId) (x : LockName) where
  returned_standing : (locks : List LockName) (s : law.LockStanding) → by_sent_up (standing_up x) (map ToServer (map (λ l. up.Return l (list l)) locks)) s ≡ cond (list_any (is_lock x) locks) (record s { lease = None }) s
  returned_standing [] s = refl
  returned_standing (l ∷ locks) s = returned_standing locks (cond (is_lock x l) (record s { lease = None }) s) ∙ by (is_lock x l) (list_any (is_lock x) locks)
    where
      by : (a b : Bool) → cond b (record (cond a (record s { lease = None }) s) { lease = None }) (cond a (record s { lease = None }) s) ≡ cond (a || b) (record s { lease = None }) s
      by true true = refl
      by true false = refl
      by false b = refl

  returned_list : (locks : List LockName) (threads : List ThreadId) → by_sent_up (list_by_sent x) (map ToServer (map (λ l. up.Return l (list l)) locks)) threads ≡ cond (list_any (is_lock x) locks) [] threads
  returned_list [] threads = refl
  returned_list (l ∷ locks) threads = returned_list locks (cond (is_lock x l) [] threads) ∙ by (is_lock x l) (list_any (is_lock x) locks)
    where
      by : (a b : Bool) → cond b [] (cond a [] threads) ≡ cond (a || b) [] threads
      by true true = refl
      by true false = refl
      by false b = refl

pub of_locks : (list : LockName → List ThreadId) (locks : List LockName) → AreOfLocks (map (λ l. up.Return l (list l)) locks)
of_locks list [] = tt
of_locks list (l ∷ locks) = of_locks list locks

module _ (clock : ℕ) (act : Answered) (next : ThreadId → Option Request) (at : RunPoint) (sent : List Up) (list : LockName → List ThreadId) (locks : List LockName) where
  abbrev mid : RunPoint
  mid = acting clock act sent next at

  abbrev messages : List Up
  messages = map (λ l. up.Return l (list l)) locks

  pub standing_returned : (x : LockName) → standing x (acting clock act (sent ++ messages) next at).entries ≡ cond (list_any (is_lock x) locks) (record (standing x mid.entries) { lease = None }) (standing x mid.entries)
  standing_returned x = in_parts (standing_up x) sent messages (standing x at.entries) ∙ returned_standing list x locks (standing x mid.entries)

  pub lock_state_returned : (old new : LockState) → LockStateStands mid old → AreGivenBack locks old new → ((x : LockName) → list_any (is_lock x) locks ≡ true → is_asked_for x mid.entries ≡ false)
      → LockStateStands (acting clock act (sent ++ messages) next at) new
  lock_state_returned old new h given unasked = record {
    holds = λ t x. ap (λ holds. option_map as_hold (hold_in holds (x, t))) given.holds ∙ h.holds t x;
    leases = λ x. given.leases x ∙ (by x (list_any (is_lock x) locks) refl
        ∙ ap (λ (s : law.LockStanding). standing_as s.lease (is_entered x mid.entries) (is_recalled x mid.entries) s.is_asked) (sym (standing_returned x)));
    lists = λ x. given.lists x ∙ (ap (cond (list_any (is_lock x) locks) []) (h.lists x)
        ∙ sym (in_parts (list_by_sent x) sent messages (list_by_act x act.thread act.request act.reply act.woken (client_list x at.entries)) ∙ returned_list list x locks (client_list x mid.entries)));
  }
    where
      by : (x : LockName) (b : Bool) → list_any (is_lock x) locks ≡ b → cond b None (standing_in old.leases x)
          ≡ standing_as (cond b (record (standing x mid.entries) { lease = None }) (standing x mid.entries)).lease (is_entered x mid.entries) (is_recalled x mid.entries)
          (cond b (record (standing x mid.entries) { lease = None }) (standing x mid.entries)).is_asked
      by x true e = sym (ap (standing_as None (is_entered x mid.entries) (is_recalled x mid.entries)) (unasked x e))
      by x false e = h.leases x

-- ---- all together

module _ (clock : ℕ) (act : Answered) (next : ThreadId → Option Request) (at : RunPoint) where
  same_returns : (txn : Option Txn) → map (λ l. up.Return l (client_list l (acting clock act (record_sent txn) next at).entries)) (due at.settings at.client next (acting clock act (record_sent txn) next at).entries)
      ≡ returns at.settings at.client next (applied clock act at).entries
  same_returns None = refl
  same_returns (Some txn) = refl

  -- a lock that is leased then isn't asked for
  pub apart_still : (txn : Option Txn) → RunFacts at → (x : LockName) → is_some (leased x (acting clock act (record_sent txn) next at).entries) ≡ true
      → is_asked_for x (acting clock act (record_sent txn) next at).entries ≡ false
  apart_still None facts x there = facts.apart x there
  apart_still (Some txn) facts x there = facts.apart x there

  pub act_settles : (txn : Option Txn) (old new : ClientState) (locks : List LockName) (sent : List Up) → ClientPartsStand (acting clock act (record_sent txn) next at) old → RunFacts at
      → locks ≡ due at.settings at.client next (acting clock act (record_sent txn) next at).entries
      → (Distinct locks → AllByRecursion (λ l. was_entered (standing_in old.lock_state.leases l) ≡ true) locks → (sent ≡ given_back old.lock_state locks) × AreGivenBack locks old.lock_state new.lock_state)
      → new ≡ record old { lock_state = new.lock_state } → ActSettles clock act txn next at sent new
  act_settles txn old new locks sent h facts is gives same =
      let mid = acting clock act (record_sent txn) next at in
      let has : (k : LockName) → list_any (is_lock k) locks ≡ is_due_at mid k = λ k. ap (list_any (is_lock k)) is ∙ due_has mid k in
      let distinct = rising_distinct locks (subst Rising (sym is) (due_rises mid)) in
      let given = gives distinct (each_may (λ l. was_entered (standing_in old.lock_state.leases l)) locks (λ k there. due_may mid old.lock_state h.lock_state k (sym (has k) ∙ there))) in
      let list : LockName → List ThreadId = λ l. client_list l mid.entries in
      let said : sent ≡ map (λ l. up.Return l (list l)) locks = given.0 ∙ ap (λ (lists : LockName → List ThreadId). map (λ l. up.Return l (lists l)) locks) (fun_ext h.lock_state.lists) in
      let unasked : (x : LockName) → list_any (is_lock x) locks ≡ true → is_asked_for x mid.entries ≡ false =
      λ x there. apart_still txn facts x (first_two (is_some (leased x mid.entries)) (is_lease_due at.settings at.client next x mid.entries) (sym (has x) ∙ there)).0 in
      record {
        sends = said ∙ (ap (map (λ l. up.Return l (list l))) is ∙ same_returns txn);
        parts = subst (λ sent. ClientPartsStand (acting clock act (record_sent txn ++ sent) next at) new) (sym said)
            (subst (ClientPartsStand (acting clock act (record_sent txn ++ map (λ l. up.Return l (list l)) locks) next at)) (sym same)
            (parts_on clock act next at (record_sent txn) (map (λ l. up.Return l (list l)) locks) (of_locks list locks) old new.lock_state h
            (lock_state_returned clock act next at (record_sent txn) list locks old.lock_state new.lock_state h.lock_state given.1 unasked)));
      }

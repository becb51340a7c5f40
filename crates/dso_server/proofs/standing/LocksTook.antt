-- The locks after one more entry.
use Rattle.std.proofs.Common.{ℕ, ◌≡◌, refl, sym, ◌∙◌, ap, subst, Bool, true, false, cond, not, eqb, ◌||◌, is_some, None, Some, List, [], ◌∷◌, flat_map}
use Rattle.std.proofs.Math.Path.{fun_ext}
use Rattle.std.specs.List.{AllByRecursion, list_any}
use Rattle.dso_base.specs.declared.journal.Entry.{Entry}
use Rattle.dso_base.specs.declared.journal.Input.TheVariants.{TookUp}
use Rattle.dso_base.specs.declared.journal.Sent.{Sent}
use Rattle.dso_base.specs.declared.journal.Sent.TheVariants.{ToClient, ToServer}
use Rattle.dso_base.specs.declared.lock.Level.{Level}
use Rattle.dso_base.specs.declared.lock.LockName.{LockName}
use Rattle.dso_base.specs.declared.message.Down.TheVariants as down
use Rattle.dso_base.specs.declared.message.Up.{Up}
use Rattle.dso_law.specs.Entries.{by_sent_down}
use Rattle.dso_law.specs.Granting.{LeaseTable, Waiter, is_against, recalls, requested, requested_by, serve_queue, to_each, with_grant, without_client}
use Rattle.dso_law.specs.Settings.{Settings, clients_of}
use Rattle.dso_law.proofs.client.ClientLaws.{lock_either_way}
use Rattle.dso_law.proofs.client.TimedOut.{lock_self}
use Rattle.dso_locks.specs.declared.tables.LockRows.{LockRows}
use Rattle.dso_locks.specs.declared.told.Told.{Told}
use Rattle.dso_locks.specs.Laws.{heard_from, stands_after}
use Rattle.dso_locks.specs.Locks as locks
use Rattle.dso_locks.specs.Locks.{IsClient, IsWithin, LockState, after_told, at_lock, lease_of, lost_by, messages_of, returned_by, serves, told_to, waits, with_recall}
use Rattle.dso_locks.specs.LockRows.{locks_in, requested_in}
use Rattle.dso_locks.proofs.Following.{follows_entries}
use Rattle.dso_plain.proofs.keys.SameKeys.{number_self, same_lock, same_number}
use Rattle.dso_plain.specs.KeyTests.{is_lock}
use Rattle.dso_server.proofs.lists.Lists.{any_append, each_append}
use Rattle.dso_server.proofs.standing.Quiet.{OffLocks, locks_stay}
use Rattle.dso_server.specs.Sending.{lost, took}
use Rattle.dso_server.specs.ServerStands.{LocksStand}

-- a client that has a request among some of them has one among all
has_more : (c d : ℕ) (queue : List Waiter) → list_any (λ waiter. eqb waiter.client c) (without_client d queue) ≡ true → list_any (λ waiter. eqb waiter.client c) queue ≡ true
has_more c d [] e = e
has_more c d (waiter ∷ queue) e = by (eqb waiter.client d) (eqb waiter.client c) refl (has_more c d queue) e
  where
    by : (b t : Bool) → eqb waiter.client c ≡ t → (list_any (λ other. eqb other.client c) (without_client d queue) ≡ true → list_any (λ other. eqb other.client c) queue ≡ true)
        → list_any (λ other. eqb other.client c) (cond (not b) (waiter ∷ without_client d queue) (without_client d queue)) ≡ true → (t || list_any (λ other. eqb other.client c) queue) ≡ true
    by b true is onward e = refl
    by true false is onward e = onward e
    by false false is onward e = onward (subst (λ t. (t || list_any (λ other. eqb other.client c) (without_client d queue)) ≡ true) is e)

module _ (p : Settings) where
  -- a grant goes to a client of the cluster
  abbrev pub GrantsClient : Sent → Type 0
  GrantsClient (ToClient c (down.Grant l level)) = IsClient p c
  GrantsClient m = Unit {0}

  granted : (c : ℕ) (level : Level) (s : LockState) → IsClient p c → IsWithin p s → IsWithin p (record { leases = with_grant (record { client = c; level = level }) s.leases; queue = without_client c s.queue })
  granted c level s its w = record {
    leased = λ d there. by d (eqb d c) refl there;
    waiting = λ d there. w.waiting d (has_more d c s.queue there);
  }
    where
      by : (d : ℕ) (b : Bool) → eqb d c ≡ b → is_some (cond b (Some level) (s.leases.lease d)) ≡ true → IsClient p d
      by d true e there = subst (IsClient p) (sym (same_number d c e)) its
      by d false e there = w.leased d there

  one_told : (b : Bool) (s new : LockState) → IsWithin p s → IsWithin p new → IsWithin p (cond b new s)
  one_told true s new w n = n
  one_told false s new w n = w

  -- what is told keeps leases and requests among the cluster's clients
  pub told_within : (l : LockName) (sent : List Sent) (s : LockState) → AllByRecursion GrantsClient sent → IsWithin p s → IsWithin p (by_sent_down (told_to l) sent s)
  told_within l [] s all w = w
  told_within l (ToServer m ∷ sent) s all w = told_within l sent s all.1 w
  told_within l (ToClient c (down.Grant k level) ∷ sent) s all w = told_within l sent (told_to l c (down.Grant k level) s) all.1 (one_told (is_lock l k) s (record { leases = with_grant (record { client = c; level = level }) s.leases; queue = without_client c s.queue }) w (granted c level s all.0 w))
  told_within l (ToClient c (down.Recall k) ∷ sent) s all w = told_within l sent (told_to l c (down.Recall k) s) all.1 (one_told (is_lock l k) s (record s { leases = with_recall c s.leases }) w (record { leased = w.leased; waiting = w.waiting }))
  told_within l (ToClient c m ∷ sent) s all w = told_within l sent s all.1 w

  recalls_grant : (l : LockName) (clients : List ℕ) → AllByRecursion GrantsClient (to_each (down.Recall l) clients)
  recalls_grant l [] = tt
  recalls_grant l (c ∷ clients) = (tt, recalls_grant l clients)

  -- a queue of the cluster's clients is served with grants to these
  queue_served : (l : LockName) (queue : List Waiter) (leases : LeaseTable) → ((c : ℕ) → list_any (λ waiter. eqb waiter.client c) queue ≡ true → IsClient p c) → AllByRecursion GrantsClient (serve_queue p l queue leases)
  queue_served l [] leases waiting = tt
  queue_served l (waiter ∷ queue) leases waiting = by (list_any (is_against waiter leases) (clients_of p)) (queue_served l queue (with_grant waiter leases) (λ c there. waiting c (right (eqb waiter.client c) (list_any (λ other. eqb other.client c) queue) there)))
    where
      right : (a b : Bool) → b ≡ true → (a || b) ≡ true
      right true b e = refl
      right false b e = e

      first : (eqb waiter.client waiter.client || list_any (λ other. eqb other.client waiter.client) queue) ≡ true
      first = ap (λ b. b || list_any (λ other. eqb other.client waiter.client) queue) (number_self waiter.client)

      by : (b : Bool) → AllByRecursion GrantsClient (serve_queue p l queue (with_grant waiter leases)) → AllByRecursion GrantsClient (cond b (recalls p l waiter leases) (ToClient waiter.client (down.Grant l waiter.level) ∷ serve_queue p l queue (with_grant waiter leases)))
      by true rest = recalls_grant l _
      by false rest = (waiting waiter.client first, rest)

  pub served_within : (l : LockName) (s : LockState) → IsWithin p s → AllByRecursion GrantsClient (serves p l s)
  served_within l s w = queue_served l s.queue s.leases w.waiting

  -- and so are all queues
  pub all_served_within : (ls : List LockName) (f : LockName → LockState) → ((l : LockName) → IsWithin p (f l)) → AllByRecursion GrantsClient (flat_map (λ l. serves p l (f l)) ls)
  all_served_within [] f w = tt
  all_served_within (l ∷ ls) f w = each_append GrantsClient (serves p l (f l)) (flat_map (λ k. serves p k (f k)) ls) (served_within l (f l) (w l)) (all_served_within ls f w)

  -- a request of a client
  pub requested_within : (c : ℕ) (level : Level) (s : LockState) → IsClient p c → IsWithin p s → IsWithin p (locks.requested_by c level s)
  requested_within c level s its w = record {
    leased = w.leased;
    waiting = λ d there. by d (list_any (λ waiter. eqb waiter.client d) s.queue) refl (eqb c d) refl (sym (any_append (λ waiter. eqb waiter.client d) s.queue (record { client = c; level = level } ∷ [])) ∙ there);
  }
    where
      by : (d : ℕ) (b : Bool) → list_any (λ waiter. eqb waiter.client d) s.queue ≡ b → (t : Bool) → eqb c d ≡ t → (list_any (λ waiter. eqb waiter.client d) s.queue || (eqb c d || false)) ≡ true → IsClient p d
      by d true e t g there = w.waiting d e
      by d false e true g there = subst (IsClient p) (same_number c d g) its
      by d false e false g there = absurd (cc (sym (ap (λ b. b || (eqb c d || false)) e ∙ ap (λ t. t || false) g) ∙ there))

  -- a lease less
  no_lease : (c d : ℕ) (s : LockState) → is_some (cond (eqb d c) None (lease_of d s)) ≡ true → is_some (lease_of d s) ≡ true
  no_lease c d s there = by (eqb d c) there
    where
      by : (b : Bool) → is_some (cond b None (lease_of d s)) ≡ true → is_some (lease_of d s) ≡ true
      by true there = absurd (cc there)
      by false there = there

  pub returned_within : (c : ℕ) (s : LockState) → IsWithin p s → IsWithin p (returned_by c s)
  returned_within c s w = record { leased = λ d there. w.leased d (no_lease c d s there); waiting = w.waiting }

  pub lost_within : (c : ℕ) (s : LockState) → IsWithin p s → IsWithin p (lost_by c s)
  lost_within c s w = record { leased = λ d there. w.leased d (no_lease c d s there); waiting = λ d there. w.waiting d (has_more d c s.queue there) }

-- a message that is nothing to locks
pub locks_same : (p : Settings) (table : LockRows) (clock c : ℕ) (m : Up) (sent : List Sent) (es : List Entry) → ((l : LockName) (s : LockState) → heard_from l c m s ≡ s) → requested_by (TookUp c m) (requested es) ≡ requested es
    → AllByRecursion OffLocks sent → LocksStand p table es → LocksStand p table (took clock c m sent ∷ es)
locks_same p table clock c m sent es heard asked off s = record {
  locks = s.locks ∙ fun_ext (λ l. sym (follows_entries l (took clock c m sent) es ∙ (locks_stay l sent (heard_from l c m (stands_after l es)) off ∙ heard l (stands_after l es))));
  requested = s.requested ∙ sym asked;
  within = s.within;
}

-- a message of one lock, which is served
module _ (p : Settings) (old new : LockRows) (clock c : ℕ) (m : Up) (lock : LockName) (hears : LockState → LockState) (told : List Told) (sent : List Sent) (es : List Entry) (s : LocksStand p old es)
    (heard : (l : LockName) (s : LockState) → heard_from l c m s ≡ cond (is_lock l lock) (hears s) s) (within : IsWithin p (hears (locks_in old lock))) where
  -- how the lock stands as it is served
  as_heard : (l : LockName) → at_lock lock hears (locks_in old) l ≡ heard_from l c m (stands_after l es)
  as_heard l = ap (λ f. cond (is_lock lock l) (hears (f l)) (f l)) s.locks ∙ (ap (λ b. cond b (hears (stands_after l es)) (stands_after l es)) (lock_either_way lock l) ∙ sym (heard l (stands_after l es)))

  pub served_now : stands_after lock (took clock c m [] ∷ es) ≡ hears (locks_in old lock)
  served_now = follows_entries lock (took clock c m []) es ∙ (sym (as_heard lock) ∙ ap (λ b. cond b (hears (locks_in old lock)) (locks_in old lock)) (lock_self lock))

  pub locks_told : ((p : Settings) → IsWithin p (hears (locks_in old lock)) → messages_of told ≡ serves p lock (hears (locks_in old lock))) → locks_in new ≡ after_told told (at_lock lock hears (locks_in old)) → requested_in new ≡ requested_by (TookUp c m) (requested_in old) → sent ≡ messages_of told
      → LocksStand p new (took clock c m sent ∷ es)
  locks_told sends stands asked is = record {
    locks = stands ∙ fun_ext (λ l. ap (λ x. by_sent_down (told_to l) (messages_of told) x) (as_heard l) ∙ (ap (λ xs. by_sent_down (told_to l) xs (heard_from l c m (stands_after l es))) (sym is) ∙ sym (follows_entries l (took clock c m sent) es)));
    requested = asked ∙ ap (requested_by (TookUp c m)) s.requested;
    within = λ l. subst (λ f. IsWithin p (f l)) (sym stands) (told_within p l (messages_of told) (at_lock lock hears (locks_in old) l) grants (there l (is_lock lock l) refl));
  }
    where
      grants : AllByRecursion (GrantsClient p) (messages_of told)
      grants = subst (AllByRecursion (GrantsClient p)) (sym (sends p within)) (served_within p lock (hears (locks_in old lock)) within)

      there : (l : LockName) (b : Bool) → is_lock lock l ≡ b → IsWithin p (cond b (hears (locks_in old l)) (locks_in old l))
      there l true e = subst (λ k. IsWithin p (hears (locks_in old k))) (sym (same_lock lock l e)) within
      there l false e = s.within l

-- a client is lost
pub locks_lost : (p : Settings) (old new : LockRows) (clock c : ℕ) (told : List Told) (sent : List Sent) (es : List Entry)
    → ((p : Settings) → ((l : LockName) → IsWithin p (lost_by c (locks_in old l))) → messages_of told ≡ flat_map (λ l. serves p l (lost_by c (locks_in old l))) (requested_in old))
    → locks_in new ≡ after_told told (λ l. lost_by c (locks_in old l)) → requested_in new ≡ requested_in old → sent ≡ messages_of told
    → LocksStand p old es → LocksStand p new (lost clock c sent ∷ es)
locks_lost p old new clock c told sent es sends stands asked is s = record {
  locks = stands ∙ fun_ext (λ l. ap (λ f. by_sent_down (told_to l) (messages_of told) (lost_by c (f l))) s.locks ∙ (ap (λ xs. by_sent_down (told_to l) xs (lost_by c (stands_after l es))) (sym is) ∙ sym (follows_entries l (lost clock c sent) es)));
  requested = asked ∙ s.requested;
  within = λ l. subst (λ f. IsWithin p (f l)) (sym stands) (told_within p l (messages_of told) (lost_by c (locks_in old l)) grants (within l));
}
  where
    within : (l : LockName) → IsWithin p (lost_by c (locks_in old l))
    within l = lost_within p c (locks_in old l) (s.within l)

    grants : AllByRecursion (GrantsClient p) (messages_of told)
    grants = subst (AllByRecursion (GrantsClient p)) (sym (sends p within)) (all_served_within p (requested_in old) (λ l. lost_by c (locks_in old l)) within)

-- A lock is served request by request: each step keeps what serving under way says, and the last one ends it.
use Rattle.std.proofs.Common.{ℕ, suc, ◌<◌, ◌≡◌, refl, sym, ◌∙◌, ap, subst, arith, Bool, true, false, cond, not, eqb, ◌&&◌, ◌||◌, is_some, Some, None, List, [], ◌∷◌, ◌++◌, filter, flat_map, length, ◌==◌, append_assoc}
use Rattle.std.proofs.lemmas.Bool.{eq-eqb, eqb-true}
use Rattle.std.proofs.lemmas.List.{append-nil, nil_from_length}
use Rattle.std.proofs.lemmas.List.Sums.{fold-append}
use Rattle.std.specs.BTreeMap.{BTreeMap, get, IsOrdered}
use Rattle.std.specs.List.{list_any}
use Rattle.std.specs.Ordering.{nat_cmp}
use Rattle.dso_base.specs.declared.journal.Sent.{Sent}
use Rattle.dso_base.specs.declared.journal.Sent.TheVariants.{ToClient}
use Rattle.dso_base.specs.declared.lock.Level.{Level}
use Rattle.dso_base.specs.declared.lock.LockName.{LockName}
use Rattle.dso_base.specs.declared.message.Down.TheVariants as down
use Rattle.dso_law.specs.Entries.{by_sent_down, one_sent_down}
use Rattle.dso_law.specs.Granting.{LeaseTable, Waiter, is_against, to_each, recalls, serve_queue, with_grant, without_client}
use Rattle.dso_law.specs.Settings.{Settings, clients_of}
use Rattle.dso_law.proofs.Clients.{made_of_each}
use Rattle.dso_law.proofs.client.TimedOut.{lock_self}
use Rattle.dso_locks.specs.Locks.{LockState, waits, with_recall, told_to, IsClient, IsWithin, serves}
use Rattle.dso_locks.specs.Serving.{against, against_in, Sends, IsServed}
use Rattle.dso_plain.specs.KeyTests.{is_lock}

-- what is kept is what each makes of itself
kept_each : (test : ℕ → Bool) (cs : List ℕ) → flat_map (λ c. cond (test c) (c ∷ []) []) cs ≡ filter test cs
kept_each test [] = refl
kept_each test (c ∷ cs) = by (test c) (kept_each test cs)
  where
    by : (b : Bool) → flat_map (λ d. cond (test d) (d ∷ []) []) cs ≡ filter test cs → cond b (c ∷ []) [] ++ flat_map (λ d. cond (test d) (d ∷ []) []) cs ≡ cond b (c ∷ filter test cs) (filter test cs)
    by true onward = ap (λ ds. c ∷ ds) onward
    by false onward = onward

-- who has no lease is not against a request
none_against : (waiter : Waiter) (c : ℕ) → against waiter c None ≡ []
none_against waiter c = by (not (eqb c waiter.client))
  where
    by : (b : Bool) → cond (b && false) (c ∷ []) [] ≡ []
    by true = refl
    by false = refl

-- the clients of a table that are against a request are those of the cluster
pub against_all : (waiter : Waiter) (leases : BTreeMap ℕ Level) (s : LeaseTable) (p : Settings) → s.lease ≡ get nat_cmp leases → IsOrdered nat_cmp leases → ((c : ℕ) → is_some (s.lease c) ≡ true → IsClient p c)
    → against_in waiter leases ≡ filter (is_against waiter s) (clients_of p)
against_all waiter leases s p same sorted within =
    made_of_each (against waiter) (none_against waiter) leases p.clients sorted (λ c there. within c (ap (λ f. is_some (f c)) same ∙ there))
    ∙ (ap (λ f. flat_map (λ c. against waiter c (f c)) (clients_of p)) (sym same) ∙ kept_each (is_against waiter s) (clients_of p))

-- none is kept, so none passes
none_kept : (test : ℕ → Bool) (cs : List ℕ) → filter test cs ≡ [] → list_any test cs ≡ false
none_kept test [] e = refl
none_kept test (c ∷ cs) e = by (test c) (none_kept test cs) e
  where
    by : (b : Bool) → (filter test cs ≡ [] → list_any test cs ≡ false) → cond b (c ∷ filter test cs) (filter test cs) ≡ [] → (b || list_any test cs) ≡ false
    by true onward e = absurd (cc e)
    by false onward e = onward e

-- some are kept, so some pass
some_kept : (test : ℕ → Bool) (cs : List ℕ) → (filter test cs ≡ [] → ⊥) → list_any test cs ≡ true
some_kept test [] e = absurd (e refl)
some_kept test (c ∷ cs) e = by (test c) (some_kept test cs) e
  where
    by : (b : Bool) → ((filter test cs ≡ [] → ⊥) → list_any test cs ≡ true) → (cond b (c ∷ filter test cs) (filter test cs) ≡ [] → ⊥) → (b || list_any test cs) ≡ true
    by true onward e = refl
    by false onward e = onward e

-- what passes both tests
kept_both : (first second : ℕ → Bool) (cs : List ℕ) → filter second (filter first cs) ≡ filter (λ c. first c && second c) cs
kept_both first second [] = refl
kept_both first second (c ∷ cs) = by (first c) (kept_both first second cs)
  where
    by : (b : Bool) → filter second (filter first cs) ≡ filter (λ d. first d && second d) cs → filter second (cond b (c ∷ filter first cs) (filter first cs)) ≡ cond (b && second c) (c ∷ filter (λ d. first d && second d) cs) (filter (λ d. first d && second d) cs)
    by true onward = ap (λ ds. cond (second c) (c ∷ ds) ds) onward
    by false onward = onward

-- a client that has a request among some of them has one among all
has_more : (c d : ℕ) (queue : List Waiter) → list_any (λ waiter. eqb waiter.client c) (without_client d queue) ≡ true → list_any (λ waiter. eqb waiter.client c) queue ≡ true
has_more c d [] e = e
has_more c d (waiter ∷ queue) e = by (eqb waiter.client d) (eqb waiter.client c) refl (has_more c d queue) e
  where
    by : (b t : Bool) → eqb waiter.client c ≡ t → (list_any (λ other. eqb other.client c) (without_client d queue) ≡ true → list_any (λ other. eqb other.client c) queue ≡ true)
        → list_any (λ other. eqb other.client c) (cond (not b) (waiter ∷ without_client d queue) (without_client d queue)) ≡ true → (t || list_any (λ other. eqb other.client c) queue) ≡ true
    by b true is onward e = refl
    by true false is onward e = onward e
    by false false is onward e = onward (subst (λ t. (t || list_any (λ other. eqb other.client c) (without_client d queue)) ≡ true) is e)

-- recalls of one lock are nothing to another
recalls_apart : (k l : LockName) (clients : List ℕ) (s : LockState) → is_lock k l ≡ false → by_sent_down (told_to k) (to_each (down.Recall l) clients) s ≡ s
recalls_apart k l [] s apart = refl
recalls_apart k l (c ∷ clients) s apart =
    let here : told_to k c (down.Recall l) s ≡ s = ap (λ b. cond b (record s { leases = with_recall c s.leases }) s) apart in
    ap (λ t. by_sent_down (told_to k) (to_each (down.Recall l) clients) t) here ∙ recalls_apart k l clients s apart

-- Serving under way: from a lock as it stood, with what was sent before, to the lock as it stands and all that was sent.
pub record IsServing (l : LockName) (old now : LockState) (before sent : List Sent) : Type 0 where
  -- the lock has the same clients still
  pub within : (p : Settings) → IsWithin p old → IsWithin p now
  -- what was sent, and what the rule sends for the rest, is what the rule sends for the whole
  pub sends : (p : Settings) → IsWithin p old → sent ++ serves p l now ≡ before ++ serves p l old
  -- what was sent makes the one of the other
  pub leaves : (start : LockState) → by_sent_down (told_to l) before start ≡ old → by_sent_down (told_to l) sent start ≡ now
  -- and it is nothing to other locks
  pub others : (k : LockName) → is_lock k l ≡ false → (start : LockState)
      → by_sent_down (told_to k) sent start ≡ by_sent_down (told_to k) before start

-- serving begins
pub serving_starts : (l : LockName) (s : LockState) (before : List Sent) → IsServing l s s before before
serving_starts l s before = record { within = λ p w. w; sends = λ p w. refl; leaves = λ start e. e; others = λ k apart start. refl }

-- the first request is granted
module _ (l : LockName) (old now new : LockState) (before sent after : List Sent) (waiter : Waiter) (so_far : IsServing l old now before sent) (first : now.queue ≡ waiter ∷ without_client waiter.client now.queue)
    (granted : Sends l (to_each (down.Grant l waiter.level) (waiter.client ∷ [])) now new sent after) where
  -- how the lock stands then
  stands_granted : new ≡ record { leases = with_grant waiter now.leases; queue = without_client waiter.client now.queue }
  stands_granted = granted.stands ∙ rw (lock_self l) refl

  within_granted : (p : Settings) → IsWithin p now → IsWithin p (record { leases = with_grant waiter now.leases; queue = without_client waiter.client now.queue })
  within_granted p within = record {
    leased = λ c. leased c (eqb c waiter.client) refl;
    waiting = λ c e. within.waiting c (has_more c waiter.client now.queue e);
  }
    where
      leased : (c : ℕ) (b : Bool) → eqb c waiter.client ≡ b → is_some (cond b (Some waiter.level) (now.leases.lease c)) ≡ true → IsClient p c
      leased c true is e =
          let waits_first : waits waiter.client now ≡ true = ap (λ queue. list_any (λ other. eqb other.client waiter.client) queue) first ∙ rw (eq-eqb waiter.client waiter.client refl) refl in
          subst (λ d. IsClient p d) (sym (eqb-true c waiter.client is)) (within.waiting waiter.client waits_first)
      leased c false is e = within.leased c e

  pub serving_granted : ((p : Settings) → IsWithin p now → filter (is_against waiter now.leases) (clients_of p) ≡ []) → IsServing l old new before after
  serving_granted free = record {
    within = λ p w. subst (λ s. IsWithin p s) (sym stands_granted) (within_granted p (so_far.within p w));
    sends = λ p w. sends p w;
    leaves = λ start e. ap (λ xs. by_sent_down (told_to l) xs start) granted.sent ∙ (fold-append (one_sent_down (told_to l)) start sent (to_each (down.Grant l waiter.level) (waiter.client ∷ [])) ∙ (ap (λ s. by_sent_down (told_to l) (to_each (down.Grant l waiter.level) (waiter.client ∷ [])) s) (so_far.leaves start e) ∙ sym granted.stands));
    others = λ k apart start. ap (λ xs. by_sent_down (told_to k) xs start) granted.sent ∙ (fold-append (one_sent_down (told_to k)) start sent (to_each (down.Grant l waiter.level) (waiter.client ∷ [])) ∙ rw apart (so_far.others k apart start));
  }
    where
      sends : (p : Settings) → IsWithin p old → after ++ serves p l new ≡ before ++ serves p l old
      sends p w =
          let none : list_any (is_against waiter now.leases) (clients_of p) ≡ false = none_kept (is_against waiter now.leases) (clients_of p) (free p (so_far.within p w)) in
          let now_sends : serves p l now ≡ ToClient waiter.client (down.Grant l waiter.level) ∷ serve_queue p l (without_client waiter.client now.queue) (with_grant waiter now.leases) = ap (λ queue. serve_queue p l queue now.leases) first ∙ rw none refl in
          let then_sends : serves p l new ≡ serve_queue p l (without_client waiter.client now.queue) (with_grant waiter now.leases) = ap (λ s. serves p l s) stands_granted in
          ap (λ xs. xs ++ serves p l new) granted.sent ∙ (append_assoc sent (ToClient waiter.client (down.Grant l waiter.level) ∷ []) (serves p l new) ∙ (ap (λ xs. sent ++ ToClient waiter.client (down.Grant l waiter.level) ∷ xs) then_sends ∙ (ap (λ xs. sent ++ xs) (sym now_sends) ∙ so_far.sends p w)))

-- no request is left
pub serving_ends : (l : LockName) (old now : LockState) (before sent : List Sent) → IsServing l old now before sent → now.queue ≡ [] → IsServed l old now before sent
serving_ends l old now before sent so_far none = record {
  sends = λ p w. sym (append-nil sent) ∙ (ap (λ queue. sent ++ serve_queue p l queue now.leases) (sym none) ∙ so_far.sends p w);
  leaves = so_far.leaves;
  others = so_far.others;
}

-- the leases against the first request are recalled
pub serving_recalls : (l : LockName) (old now new : LockState) (before sent after : List Sent) (waiter : Waiter) (clients : List ℕ) → IsServing l old now before sent → now.queue ≡ waiter ∷ without_client waiter.client now.queue
    → ((p : Settings) → IsWithin p now → clients ≡ filter (is_against waiter now.leases) (clients_of p)) → (clients ≡ [] → ⊥)
    → Sends l (to_each (down.Recall l) (filter (λ c. not (now.leases.recalled c)) clients)) now new sent after → IsServed l old new before after
serving_recalls l old now new before sent after waiter clients so_far first all some recalled = record {
  sends = λ p w. sends p w;
  leaves = λ start e. ap (λ xs. by_sent_down (told_to l) xs start) recalled.sent ∙ (fold-append (one_sent_down (told_to l)) start sent (to_each (down.Recall l) unrecalled) ∙ (ap (λ s. by_sent_down (told_to l) (to_each (down.Recall l) unrecalled) s) (so_far.leaves start e) ∙ sym recalled.stands));
  others = λ k apart start. ap (λ xs. by_sent_down (told_to k) xs start) recalled.sent ∙ (fold-append (one_sent_down (told_to k)) start sent (to_each (down.Recall l) unrecalled) ∙ (recalls_apart k l unrecalled (by_sent_down (told_to k) sent start) apart ∙ so_far.others k apart start));
}
  where
    unrecalled : List ℕ
    unrecalled = filter (λ c. not (now.leases.recalled c)) clients

    sends : (p : Settings) → IsWithin p old → after ≡ before ++ serves p l old
    sends p w =
        let within = so_far.within p w in
        let them = all p within in
        let any : list_any (is_against waiter now.leases) (clients_of p) ≡ true = some_kept (is_against waiter now.leases) (clients_of p) (λ none. some (them ∙ none)) in
        let now_sends : serves p l now ≡ recalls p l waiter now.leases = ap (λ queue. serve_queue p l queue now.leases) first ∙ rw any refl in
        let each : to_each (down.Recall l) unrecalled ≡ recalls p l waiter now.leases = ap (λ cs. to_each (down.Recall l) cs) (ap (λ cs. filter (λ c. not (now.leases.recalled c)) cs) them ∙ kept_both (is_against waiter now.leases) (λ c. not (now.leases.recalled c)) (clients_of p)) in
        recalled.sent ∙ (ap (λ xs. sent ++ xs) (each ∙ sym now_sends) ∙ so_far.sends p w)

-- a list of no items is empty
pub no_items : (cs : List ℕ) → (length cs == 0) ≡ true → cs ≡ []
no_items cs e = nil_from_length cs (grind (arith, e))

-- a list of items isn't
pub some_items : (cs : List ℕ) → (length cs == 0) ≡ false → cs ≡ [] → ⊥
some_items cs e none = grind (arith, e, none)

-- a queue without its first request is shorter
pub shorter : (waiter : Waiter) (queue rest : List Waiter) → queue ≡ waiter ∷ without_client waiter.client queue → rest ≡ without_client waiter.client queue → length rest < length queue
shorter waiter queue rest first is =
    let whole : length queue ≡ suc (length (without_client waiter.client queue)) = ap (λ xs. length xs) first in
    let part : length rest ≡ length (without_client waiter.client queue) = ap (λ xs. length xs) is in
    omega arith

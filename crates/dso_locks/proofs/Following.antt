-- With one more entry the readings of the server rule change as a lock of the table does.
use Rattle.std.proofs.Common.{ℕ, ◌≡◌, refl, ap, Bool, true, false, cond, eqb, None, List, [], ◌∷◌, ◌++◌}
use Rattle.std.proofs.Math.Path.{fun_ext}
use Rattle.dso_base.specs.declared.journal.Input.{Input}
use Rattle.dso_base.specs.declared.journal.Input.TheVariants as input
use Rattle.dso_base.specs.declared.journal.Sent.{Sent}
use Rattle.dso_base.specs.declared.journal.Sent.TheVariants.{ToServer, ToClient}
use Rattle.dso_base.specs.declared.lock.LockName.{LockName}
use Rattle.dso_base.specs.declared.message.Down.{Down}
use Rattle.dso_base.specs.declared.message.Down.TheVariants as down
use Rattle.dso_base.specs.declared.message.Up.{Up}
use Rattle.dso_base.specs.declared.message.Up.TheVariants as up
use Rattle.dso_law.specs.declared.readings.LockStanding.{LockStanding}
use Rattle.dso_law.specs.Entries.{by_sent_down}
use Rattle.dso_law.specs.Granting.{Waiter, standing_by, standing_by_sent, standing_with, leased_to, recalled_by_sent, is_recalled_from, queue_by, queue_by_sent, queue_of, without_client}
use Rattle.dso_law.specs.Leases.{idle}
use Rattle.dso_locks.specs.Laws.{stands_after, heard_from, heard_in, FollowsEntries}
use Rattle.dso_locks.specs.Locks.{LockState, told_to, with_recall, requested_by, returned_by}
use Rattle.dso_plain.specs.KeyTests.{is_lock}

module _ (l : LockName) where
  -- the lease of a client, as one message is told
  lease_told : (c d : ℕ) (m : Down) (st : LockStanding) (s : LockState) → st.lease ≡ s.leases.lease c → (standing_by_sent c l d m st).lease ≡ (told_to l d m s).leases.lease c
  lease_told c d (down.Ids first) st s e = by (eqb c d)
    where
      by : (b : Bool) → (cond b st st).lease ≡ s.leases.lease c
      by true = e
      by false = e
  lease_told c d (down.Object body) st s e = by (eqb c d)
    where
      by : (b : Bool) → (cond b st st).lease ≡ s.leases.lease c
      by true = e
      by false = e
  lease_told c d (down.Grant k level) st s e = by (eqb c d) refl (is_lock l k) refl
    where
      by : (b : Bool) → eqb c d ≡ b → (t : Bool) → is_lock l k ≡ t → (standing_by_sent c l d (down.Grant k level) st).lease ≡ (told_to l d (down.Grant k level) s).leases.lease c
      by true same true its = rw (same, its) (rw same refl)
      by true same false its = rw (same, its) e
      by false apart true its = rw (apart, its) (rw apart e)
      by false apart false its = rw (apart, its) e
  lease_told c d (down.Recall k) st s e = by (eqb c d) (is_lock l k)
    where
      by : (b t : Bool) → (cond b st st).lease ≡ (cond t (record s { leases = with_recall d s.leases }) s).leases.lease c
      by true true = e
      by true false = e
      by false true = e
      by false false = e
  lease_told c d (down.Ack n) st s e = by (eqb c d)
    where
      by : (b : Bool) → (cond b st st).lease ≡ s.leases.lease c
      by true = e
      by false = e
  lease_told c d (down.Changes sets) st s e = by (eqb c d)
    where
      by : (b : Bool) → (cond b st st).lease ≡ s.leases.lease c
      by true = e
      by false = e
  lease_told c d (down.Wake k t) st s e = by (eqb c d)
    where
      by : (b : Bool) → (cond b st st).lease ≡ s.leases.lease c
      by true = e
      by false = e

  -- as all that is sent is told
  lease_sent : (c : ℕ) (sent : List Sent) (st : LockStanding) (s : LockState) → st.lease ≡ s.leases.lease c → (by_sent_down (standing_by_sent c l) sent st).lease ≡ (by_sent_down (told_to l) sent s).leases.lease c
  lease_sent c [] st s e = e
  lease_sent c (ToServer m ∷ sent) st s e = lease_sent c sent st s e
  lease_sent c (ToClient d m ∷ sent) st s e = lease_sent c sent (standing_by_sent c l d m st) (told_to l d m s) (lease_told c d m st s e)

  -- a client's recall, as one message is told
  recall_told : (c d : ℕ) (m : Down) (before : Bool) (s : LockState) → before ≡ s.leases.recalled c → recalled_by_sent c l d m before ≡ (told_to l d m s).leases.recalled c
  recall_told c d (down.Ids first) before s e = e
  recall_told c d (down.Object body) before s e = e
  recall_told c d (down.Grant k level) before s e = by (eqb c d) refl (is_lock l k) refl
    where
      by : (b : Bool) → eqb c d ≡ b → (t : Bool) → is_lock l k ≡ t → recalled_by_sent c l d (down.Grant k level) before ≡ (told_to l d (down.Grant k level) s).leases.recalled c
      by true same true its = rw (same, its) (rw same refl)
      by true same false its = rw (same, its) e
      by false apart true its = rw (apart, its) (rw apart e)
      by false apart false its = rw (apart, its) e
  recall_told c d (down.Recall k) before s e = by (eqb c d) refl (is_lock l k) refl
    where
      by : (b : Bool) → eqb c d ≡ b → (t : Bool) → is_lock l k ≡ t → recalled_by_sent c l d (down.Recall k) before ≡ (told_to l d (down.Recall k) s).leases.recalled c
      by true same true its = rw (same, its) (rw same refl)
      by true same false its = rw (same, its) e
      by false apart true its = rw (apart, its) (rw apart e)
      by false apart false its = rw (apart, its) e
  recall_told c d (down.Ack n) before s e = e
  recall_told c d (down.Changes sets) before s e = e
  recall_told c d (down.Wake k t) before s e = e

  recall_sent : (c : ℕ) (sent : List Sent) (before : Bool) (s : LockState) → before ≡ s.leases.recalled c → by_sent_down (recalled_by_sent c l) sent before ≡ (by_sent_down (told_to l) sent s).leases.recalled c
  recall_sent c [] before s e = e
  recall_sent c (ToServer m ∷ sent) before s e = recall_sent c sent before s e
  recall_sent c (ToClient d m ∷ sent) before s e = recall_sent c sent (recalled_by_sent c l d m before) (told_to l d m s) (recall_told c d m before s e)

  -- the requests, as one message is told
  queue_told : (d : ℕ) (m : Down) (queue : List Waiter) (s : LockState) → queue ≡ s.queue → queue_by_sent l d m queue ≡ (told_to l d m s).queue
  queue_told d (down.Ids first) queue s e = e
  queue_told d (down.Object body) queue s e = e
  queue_told d (down.Grant k level) queue s e = by (is_lock l k) refl
    where
      by : (t : Bool) → is_lock l k ≡ t → queue_by_sent l d (down.Grant k level) queue ≡ (told_to l d (down.Grant k level) s).queue
      by true its = rw its (ap (λ q. without_client d q) e)
      by false its = rw its e
  queue_told d (down.Recall k) queue s e = by (is_lock l k)
    where
      by : (t : Bool) → queue ≡ (cond t (record s { leases = with_recall d s.leases }) s).queue
      by true = e
      by false = e
  queue_told d (down.Ack n) queue s e = e
  queue_told d (down.Changes sets) queue s e = e
  queue_told d (down.Wake k t) queue s e = e

  queue_sent : (sent : List Sent) (queue : List Waiter) (s : LockState) → queue ≡ s.queue → by_sent_down (queue_by_sent l) sent queue ≡ (by_sent_down (told_to l) sent s).queue
  queue_sent [] queue s e = e
  queue_sent (ToServer m ∷ sent) queue s e = queue_sent sent queue s e
  queue_sent (ToClient d m ∷ sent) queue s e = queue_sent sent (queue_by_sent l d m queue) (told_to l d m s) (queue_told d m queue s e)

  -- the lease of a client, as a message is heard
  lease_heard : (c d : ℕ) (m : Up) (st : LockStanding) (s : LockState) → st.lease ≡ s.leases.lease c → (standing_by c l (input.TookUp d m) st).lease ≡ (heard_from l d m s).leases.lease c
  lease_heard c d up.IdAsk st s e = by (eqb c d)
    where
      by : (b : Bool) → (cond b st st).lease ≡ s.leases.lease c
      by true = e
      by false = e
  lease_heard c d (up.Fault o) st s e = by (eqb c d)
    where
      by : (b : Bool) → (cond b st st).lease ≡ s.leases.lease c
      by true = e
      by false = e
  lease_heard c d (up.Flushed o) st s e = by (eqb c d)
    where
      by : (b : Bool) → (cond b st st).lease ≡ s.leases.lease c
      by true = e
      by false = e
  lease_heard c d (up.Request k level) st s e = by (eqb c d) (is_lock l k)
    where
      by : (b t : Bool) → (cond b (cond t (record st { is_asked = true }) st) st).lease ≡ (cond t (requested_by d level s) s).leases.lease c
      by true true = e
      by true false = e
      by false true = e
      by false false = e
  lease_heard c d (up.Return k threads) st s e = by (eqb c d) refl (is_lock l k) refl
    where
      by : (b : Bool) → eqb c d ≡ b → (t : Bool) → is_lock l k ≡ t → (standing_by c l (input.TookUp d (up.Return k threads)) st).lease ≡ (heard_from l d (up.Return k threads) s).leases.lease c
      by true same true its = rw (same, its) (rw same refl)
      by true same false its = rw (same, its) e
      by false apart true its = rw (apart, its) (rw apart e)
      by false apart false its = rw (apart, its) e
  lease_heard c d (up.Commit txn) st s e = by (eqb c d)
    where
      by : (b : Bool) → (cond b st st).lease ≡ s.leases.lease c
      by true = e
      by false = e

  -- the lease, as an input is
  lease_in : (c : ℕ) (i : Input) (st : LockStanding) (s : LockState) → st.lease ≡ s.leases.lease c → (standing_by c l i st).lease ≡ (heard_in l i s).leases.lease c
  lease_in c (input.Act index) st s e = e
  lease_in c (input.TookUp d m) st s e = lease_heard c d m st s e
  lease_in c (input.TookDown m) st s e = e
  lease_in c (input.Flush o) st s e = e
  lease_in c (input.Lose d) st s e = by (eqb c d)
    where
      by : (b : Bool) → (cond b idle st).lease ≡ cond b None (s.leases.lease c)
      by true = refl
      by false = e
  lease_in c (input.Break d) st s e = e
  lease_in c (input.Rejoin d) st s e = e

  -- recalls stay, as an input is heard
  recall_in : (c : ℕ) (i : Input) (s : LockState) → s.leases.recalled c ≡ (heard_in l i s).leases.recalled c
  recall_in c (input.Act index) s = refl
  recall_in c (input.TookUp d up.IdAsk) s = refl
  recall_in c (input.TookUp d (up.Fault o)) s = refl
  recall_in c (input.TookUp d (up.Flushed o)) s = refl
  recall_in c (input.TookUp d (up.Request k level)) s = by (is_lock l k)
    where
      by : (t : Bool) → s.leases.recalled c ≡ (cond t (requested_by d level s) s).leases.recalled c
      by true = refl
      by false = refl
  recall_in c (input.TookUp d (up.Return k threads)) s = by (is_lock l k)
    where
      by : (t : Bool) → s.leases.recalled c ≡ (cond t (returned_by d s) s).leases.recalled c
      by true = refl
      by false = refl
  recall_in c (input.TookUp d (up.Commit txn)) s = refl
  recall_in c (input.TookDown m) s = refl
  recall_in c (input.Flush o) s = refl
  recall_in c (input.Lose d) s = refl
  recall_in c (input.Break d) s = refl
  recall_in c (input.Rejoin d) s = refl

  -- the requests, as an input is heard
  queue_in : (i : Input) (queue : List Waiter) (s : LockState) → queue ≡ s.queue → queue_by l i queue ≡ (heard_in l i s).queue
  queue_in (input.Act index) queue s e = e
  queue_in (input.TookUp d up.IdAsk) queue s e = e
  queue_in (input.TookUp d (up.Fault o)) queue s e = e
  queue_in (input.TookUp d (up.Flushed o)) queue s e = e
  queue_in (input.TookUp d (up.Request k level)) queue s e = by (is_lock l k)
    where
      by : (t : Bool) → cond t (queue ++ record { client = d; level = level } ∷ []) queue ≡ (cond t (requested_by d level s) s).queue
      by true = ap (λ q. q ++ record { client = d; level = level } ∷ []) e
      by false = e
  queue_in (input.TookUp d (up.Return k threads)) queue s e = by (is_lock l k)
    where
      by : (t : Bool) → queue ≡ (cond t (returned_by d s) s).queue
      by true = e
      by false = e
  queue_in (input.TookUp d (up.Commit txn)) queue s e = e
  queue_in (input.TookDown m) queue s e = e
  queue_in (input.Flush o) queue s e = e
  queue_in (input.Lose d) queue s e = ap (λ q. without_client d q) e
  queue_in (input.Break d) queue s e = e
  queue_in (input.Rejoin d) queue s e = e

-- the readings of one lock after one more entry
pub follows_entries : FollowsEntries
follows_entries l e es =
    let heard : LockState = heard_in l e.input (stands_after l es) in
    let leased : (λ c. leased_to c l (e ∷ es)) ≡ (by_sent_down (told_to l) e.sent heard).leases.lease = fun_ext (λ c. lease_sent l c e.sent (standing_by c l e.input (standing_with c l es)) heard (lease_in l c e.input (standing_with c l es) (stands_after l es) refl)) in
    let called : (λ c. is_recalled_from c l (e ∷ es)) ≡ (by_sent_down (told_to l) e.sent heard).leases.recalled = fun_ext (λ c. recall_sent l c e.sent (is_recalled_from c l es) heard (recall_in l c e.input (stands_after l es))) in
    let queued : queue_of l (e ∷ es) ≡ (by_sent_down (told_to l) e.sent heard).queue = queue_sent l e.sent (queue_by l e.input (queue_of l es)) heard (queue_in l e.input (queue_of l es) (stands_after l es) refl) in
    λ i. record { leases = record { lease = leased i; recalled = called i }; queue = queued i }

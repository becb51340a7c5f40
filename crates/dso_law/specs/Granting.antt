-- The server's leases and queues, and what it grants and recalls. The entries are those that count.
use Rattle.std.specs.List.{list_any}
use Rattle.std.specs.Prelude.{ℕ, Bool, true, false, cond, not, eqb, ◌&&◌, Option, Some, List, [], ◌∷◌, ◌++◌, map}
use Rattle.std.specs.Prelude.{filter, flat_map}
use Rattle.dso_base.specs.declared.journal.Entry.{Entry}
use Rattle.dso_base.specs.declared.journal.Input.{Input}
use Rattle.dso_base.specs.declared.journal.Input.TheVariants.{TookUp, Lose}
use Rattle.dso_base.specs.declared.journal.Sent.{Sent}
use Rattle.dso_base.specs.declared.journal.Sent.TheVariants.{ToClient}
use Rattle.dso_base.specs.declared.lock.Level.{Level}
use Rattle.dso_base.specs.declared.lock.LockName.{LockName}
use Rattle.dso_base.specs.declared.message.Down.{Down}
use Rattle.dso_base.specs.declared.message.Down.TheVariants as down
use Rattle.dso_base.specs.declared.message.Up.{Up}
use Rattle.dso_base.specs.declared.message.Up.TheVariants as up
use Rattle.dso_plain.specs.KeyTests.{is_lock}
use Rattle.dso_law.specs.declared.readings.LockStanding.{LockStanding}
use Rattle.dso_law.specs.Settings.{Settings, clients_of}
use Rattle.dso_law.specs.Entries.{by_sent_down}
use Rattle.dso_law.specs.Leases.{idle, standing_up, standing_down, insert_lock}
use Rattle.dso_law.specs.RequestNeeds.{conflicts}

-- what an input makes of how a lock stands with client c: its messages, as they are taken, and its loss
abbrev pub standing_by : ℕ → LockName → Input → LockStanding → LockStanding
standing_by c l (TookUp d m) s = cond (eqb c d) (standing_up l m s) s
standing_by c l (Lose d) s = cond (eqb c d) idle s
standing_by c l input s = s

-- what a message to client d makes of how a lock stands with client c, as it is sent
abbrev pub standing_by_sent : ℕ → LockName → ℕ → Down → LockStanding → LockStanding
standing_by_sent c l d m s = cond (eqb c d) (standing_down l m s) s

-- how the lock stands with the client, as the server sees it
abbrev pub standing_with : ℕ → LockName → List Entry → LockStanding
standing_with c l [] = idle
standing_with c l (e ∷ es) = by_sent_down (standing_by_sent c l) e.sent (standing_by c l e.input (standing_with c l es))

-- Leased to a client: a grant of the lock was sent to it, no return of it was taken from it since, and it isn't lost.
abbrev pub leased_to : ℕ → LockName → List Entry → Option Level
leased_to c l es = (standing_with c l es).lease

-- a recall counts until the next grant
abbrev pub recalled_by_sent : ℕ → LockName → ℕ → Down → Bool → Bool
recalled_by_sent c l d (down.Grant k level) before = cond (eqb c d && is_lock l k) false before
recalled_by_sent c l d (down.Recall k) before = cond (eqb c d && is_lock l k) true before
recalled_by_sent c l d m before = before

-- whether a recall of the lock was sent to the client since its grant
abbrev pub is_recalled_from : ℕ → LockName → List Entry → Bool
is_recalled_from c l [] = false
is_recalled_from c l (e ∷ es) = by_sent_down (recalled_by_sent c l) e.sent (is_recalled_from c l es)

-- a client's request for a lock
pub record Waiter : Type 0 where
  pub client : ℕ
  pub level : Level

-- the requests without those of the client
abbrev pub without_client : ℕ → List Waiter → List Waiter
without_client c queue = filter (λ waiter. not (eqb waiter.client c)) queue

-- a request taken stands at the end of its lock's queue
abbrev pub queue_by_message : LockName → ℕ → Up → List Waiter → List Waiter
queue_by_message l c (up.Request k level) queue = cond (is_lock l k)
    (queue ++ record { client = c; level = level } ∷ []) queue
queue_by_message l c m queue = queue

-- the queue of the lock after an input: a request comes, those of a lost client leave
abbrev pub queue_by : LockName → Input → List Waiter → List Waiter
queue_by l (TookUp c m) queue = queue_by_message l c m queue
queue_by l (Lose c) queue = without_client c queue
queue_by l input queue = queue

-- a request that is granted leaves the queue of its lock
abbrev pub queue_by_sent : LockName → ℕ → Down → List Waiter → List Waiter
queue_by_sent l c (down.Grant k level) queue = cond (is_lock l k) (without_client c queue) queue
queue_by_sent l c m queue = queue

-- Queue: the requests of the lock that were taken and not granted, of clients that aren't lost, in order.
abbrev pub queue_of : LockName → List Entry → List Waiter
queue_of l [] = []
queue_of l (e ∷ es) = by_sent_down (queue_by_sent l) e.sent (queue_by l e.input (queue_of l es))

-- how a lock stands with each client, as requests are granted one by one
pub record LeaseTable : Type 0 where
  pub lease : ℕ → Option Level
  pub recalled : ℕ → Bool

-- how the lock stands with each client after the entries
abbrev pub leases_so_far : LockName → List Entry → LeaseTable
leases_so_far l es = record { lease = λ c. leased_to c l es; recalled = λ c. is_recalled_from c l es }

-- how it stands once this request is granted
abbrev pub with_grant : Waiter → LeaseTable → LeaseTable
with_grant waiter s = record {
  lease = λ c. cond (eqb c waiter.client) (Some waiter.level) (s.lease c);
  recalled = λ c. cond (eqb c waiter.client) false (s.recalled c);
}

-- whether the lease of client d is another client's than the request and conflicts with it
abbrev pub is_against : Waiter → LeaseTable → ℕ → Bool
is_against waiter s d = not (eqb d waiter.client) && conflicts waiter.level (s.lease d)

-- the message to each of the clients
abbrev pub to_each : Down → List ℕ → List Sent
to_each m clients = map (λ c. ToClient c m) clients

module _ (p : Settings) (l : LockName) where
  -- one recall to each lease that conflicts with the first request left and had no recall since its grant, by rising
  -- client
  abbrev pub recalls : Waiter → LeaseTable → List Sent
  recalls waiter s = to_each (down.Recall l) (filter (λ d. is_against waiter s d && not (s.recalled d)) (clients_of p))

  -- the longest prefix of the queue is granted whose members can be leased one by one without a conflict with another
  -- client's lease; then the first one left makes recalls
  abbrev pub serve_queue : List Waiter → LeaseTable → List Sent
  serve_queue [] s = []
  serve_queue (waiter ∷ queue) s = cond (list_any (is_against waiter s) (clients_of p)) (recalls waiter s)
      (ToClient waiter.client (down.Grant l waiter.level) ∷ serve_queue queue (with_grant waiter s))

  -- Serving: what the server sends for the lock, as the entries leave it.
  abbrev pub serves : List Entry → List Sent
  serves es = serve_queue (queue_of l es) (leases_so_far l es)

-- the locks that were ever requested, with that of a request taken
abbrev pub requested_by : Input → List LockName → List LockName
requested_by (TookUp c (up.Request l level)) locks = insert_lock l locks
requested_by input locks = locks

-- the locks that were ever requested, rising, monitors first
abbrev pub requested : List Entry → List LockName
requested [] = []
requested (e ∷ es) = requested_by e.input (requested es)

-- a loss serves lock by lock, by rising lock, monitors first; a lock that nobody requests sends nothing
abbrev pub serves_all : Settings → List Entry → List Sent
serves_all p es = flat_map (λ l. serves p l es) (requested es)

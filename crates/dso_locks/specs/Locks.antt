-- How the locks stand with the server: what comes of a message of a client, of a loss, and of what is told to a client.
-- The leases and the requests of a lock are those of the server rule.
use Rattle.std.specs.List.{list_any}
use Rattle.std.specs.Prelude.{ℕ, ◌≡◌, Bool, true, false, cond, eqb, is_some}
use Rattle.std.specs.Prelude.{Option, None, List, [], ◌∷◌, ◌++◌, map, flat_map}
use Rattle.dso_base.specs.declared.journal.Sent.{Sent}
use Rattle.dso_base.specs.declared.journal.Sent.TheVariants.{ToClient}
use Rattle.dso_base.specs.declared.lock.Level.{Level}
use Rattle.dso_base.specs.declared.lock.LockName.{LockName}
use Rattle.dso_base.specs.declared.message.Down.{Down}
use Rattle.dso_base.specs.declared.message.Down.TheVariants as down
use Rattle.dso_law.specs.Entries.{by_sent_down}
use Rattle.dso_law.specs.Granting.{LeaseTable, Waiter, with_grant, without_client, serve_queue}
use Rattle.dso_law.specs.Settings.{Settings, clients_of}
use Rattle.dso_locks.specs.declared.told.Told.{Told}
use Rattle.dso_locks.specs.declared.told.Told.TheVariants as told
use Rattle.dso_plain.specs.KeyTests.{is_lock}

-- how one lock stands: its leases and recalls by client, and the requests of it, in order
pub record LockState : Type 0 where
  pub leases : LeaseTable
  pub queue : List Waiter

-- a lock that no client asked for yet
abbrev pub unused : LockState
unused = record { leases = record { lease = λ _. None; recalled = λ _. false }; queue = [] }

-- the client's lease of the lock
abbrev pub lease_of : ℕ → LockState → Option Level
lease_of c s = s.leases.lease c

-- whether the client has a request of the lock
abbrev pub waits : ℕ → LockState → Bool
waits c s = list_any (λ waiter. eqb waiter.client c) s.queue

-- the leases without that of the client
abbrev pub without_lease : ℕ → LeaseTable → LeaseTable
without_lease c leases = record leases { lease = λ d. cond (eqb d c) None (leases.lease d) }

-- the leases, with one more recall
abbrev pub with_recall : ℕ → LeaseTable → LeaseTable
with_recall c leases = record leases { recalled = λ d. cond (eqb d c) true (leases.recalled d) }

-- the client asks for the lock: its request is the last one
abbrev pub requested_by : ℕ → Level → LockState → LockState
requested_by c level s = record s { queue = s.queue ++ record { client = c; level = level } ∷ [] }

-- the client gives its lease back
abbrev pub returned_by : ℕ → LockState → LockState
returned_by c s = record s { leases = without_lease c s.leases }

-- the client is lost: its lease and its request are gone
abbrev pub lost_by : ℕ → LockState → LockState
lost_by c s = record { leases = without_lease c s.leases; queue = without_client c s.queue }

-- what a message to the client makes of lock l: a grant gives the lease for the request, a recall is remembered
abbrev pub told_to : LockName → ℕ → Down → LockState → LockState
told_to l c (down.Grant k level) s = cond (is_lock l k)
    (record { leases = with_grant (record { client = c; level = level }) s.leases; queue = without_client c s.queue }) s
told_to l c (down.Recall k) s = cond (is_lock l k) (record s { leases = with_recall c s.leases }) s
told_to l c m s = s

-- the message that tells it
abbrev pub message_of : Told → Sent
message_of (told.Grant c l level) = ToClient c (down.Grant l level)
message_of (told.Recall c l) = ToClient c (down.Recall l)

-- the messages that tell it, in order
abbrev pub messages_of : List Told → List Sent
messages_of all = map message_of all

-- how the locks stand once all of it is told
abbrev pub after_told : List Told → (LockName → LockState) → LockName → LockState
after_told all locks l = by_sent_down (told_to l) (messages_of all) (locks l)

-- the locks once one of them changed
abbrev pub at_lock : LockName → (LockState → LockState) → (LockName → LockState) → LockName → LockState
at_lock l change locks k = cond (is_lock l k) (change (locks k)) (locks k)

-- the client is one of the cluster's
abbrev pub IsClient : Settings → ℕ → Type 0
IsClient p c = list_any (eqb c) (clients_of p) ≡ true

-- who has a lease of the lock or a request of it is one of the cluster's clients
pub record IsWithin (p : Settings) (s : LockState) : Type 0 where
  pub leased : (c : ℕ) → is_some (lease_of c s) ≡ true → IsClient p c
  pub waiting : (c : ℕ) → waits c s ≡ true → IsClient p c

-- what the server rule sends for the lock as it stands
abbrev pub serves : Settings → LockName → LockState → List Sent
serves p l s = serve_queue p l s.queue s.leases

-- One lock hears something and is served: what is told is what the rule sends for it, and the other locks stay.
pub record IsTold (l : LockName) (hears : LockState → LockState) (old new : LockName → LockState)
    (all : List Told) : Type 0 where
  pub sends : (p : Settings) → IsWithin p (hears (old l)) → messages_of all ≡ serves p l (hears (old l))
  pub stands : new ≡ after_told all (at_lock l hears old)

-- All locks hear something, and these are served: what is told is what the rule sends for one after the other.
pub record AllTold (hears : LockState → LockState) (locks : List LockName) (old new : LockName → LockState)
    (all : List Told) : Type 0 where
  pub sends : (p : Settings) → ((l : LockName) → IsWithin p (hears (old l)))
      → messages_of all ≡ flat_map (λ l. serves p l (hears (old l))) locks
  pub stands : new ≡ after_told all (λ l. hears (old l))

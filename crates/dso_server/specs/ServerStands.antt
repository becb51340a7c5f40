-- What a server stands for: a list of the server's entries, whose readings its parts tell.
use Rattle.std.specs.BTreeMap.{BTreeMap}
use Rattle.std.specs.BTreeSet.{contains}
use Rattle.std.specs.List.{list_any}
use Rattle.std.specs.Ordering.{nat_cmp}
use Rattle.std.specs.Prelude.{ℕ, ◌≡◌, ◌⊎◌, Option, None, List}
use Rattle.dso_base.specs.declared.journal.Entry.{Entry}
use Rattle.dso_base.specs.declared.lock.LockName.{LockName}
use Rattle.dso_base.specs.declared.lock.ThreadId.{ThreadId}
use Rattle.dso_base.specs.declared.record.Ending.{Ending}
use Rattle.dso_base.specs.Following.{is_thread}
use Rattle.dso_law.specs.FitsUp.{AreDistinct}
use Rattle.dso_law.specs.Granting.{requested}
use Rattle.dso_law.specs.ServerReadings.{batches_given, counted, is_ended, is_lost, last_ending, last_number}
use Rattle.dso_law.specs.ServerWaiters.{waiters_of}
use Rattle.dso_law.specs.Settings.{Settings}
use Rattle.dso_law.specs.Store.{holds_object, stored}
use Rattle.dso_locks.specs.declared.tables.LockRows.{LockRows}
use Rattle.dso_locks.specs.Laws.{stands_after}
use Rattle.dso_locks.specs.Locks.{IsWithin}
use Rattle.dso_locks.specs.LockRows.{locks_in, requested_in}
use Rattle.dso_server.specs.declared.server.Server.{Server}
use Rattle.dso_server.specs.Batches.{batches_to}
use Rattle.dso_server.specs.Threads.{ends_there, known_in, last_in}
use Rattle.dso_server.specs.Waiters.{lists_in}
use Rattle.dso_store.specs.declared.store.Store.{Store}
use Rattle.dso_store.specs.Graph as graph
use Rattle.dso_store.specs.Graph.{AreClients, body_in, holds_in}

-- The graph: of each object the stored body, or none; who holds which, and the number of each client's last record. All
-- holders are clients of the cluster.
pub record GraphStands (p : Settings) (store : Store) (es : List Entry) : Type 0 where
  pub bodies : (o : ℕ) → (body_in store o ≡ stored p.shape o es) ⊎ (body_in store o ≡ None)
  pub holds : holds_in store ≡ (λ c o. holds_object c o es)
  pub last : graph.last_in store ≡ (λ c. last_number c es)
  pub within : AreClients p (holds_in store)

-- The locks: how each stands, and which were ever requested. All leases and requests are of clients of the cluster.
pub record LocksStand (p : Settings) (table : LockRows) (es : List Entry) : Type 0 where
  pub locks : locks_in table ≡ (λ l. stands_after l es)
  pub requested : requested_in table ≡ requested es
  pub within : (l : LockName) → IsWithin p (locks_in table l)

-- The waiters: the list of each lock, in which each thread stands once.
pub record WaitersStand (waiters : BTreeMap LockName (List ThreadId)) (es : List Entry) : Type 0 where
  pub lists : lists_in waiters ≡ (λ l. waiters_of l es)
  pub once : (l : LockName) → AreDistinct (lists_in waiters l)

-- The threads: which there are, how the last record of each ended, and that a thread has ended where that was its end.
pub record ThreadsStand (p : Settings) (threads : BTreeMap ThreadId (Option Ending)) (es : List Entry) : Type 0 where
  pub known : known_in threads ≡ (λ t. list_any (is_thread t) p.threads)
  pub last : last_in threads ≡ (λ t. last_ending t es)
  pub ended : (t : ThreadId) → is_ended t es ≡ ends_there (last_ending t es)

-- The server stands for the entries: it knows who was lost; and of those that count, the batches of ids that were
-- given, the graph, the locks, the waiters and the threads.
pub record ServerStands (p : Settings) (server : Server) (es : List Entry) : Type 0 where
  pub lost : contains nat_cmp server.lost ≡ (λ c. is_lost c es)
  pub ids : batches_given (counted es) ≡ batches_to server.ids
  pub store : GraphStands p server.store (counted es)
  pub locks : LocksStand p server.locks (counted es)
  pub waiters : WaitersStand server.waiters (counted es)
  pub threads : ThreadsStand p server.threads (counted es)

-- What the tables of the pass stand for.
use Rattle.std.specs.Prelude.{ℕ, false, Option, Some, None, List, [], drop}
use Rattle.std.specs.BTreeMap.{BTreeMap}
use Rattle.std.specs.Option.{unwrap_or}
use Rattle.std.specs.Ordering.{nat_cmp}
use Rattle.dso_base.specs.declared.lock.LockName.{LockName}
use Rattle.dso_base.specs.declared.lock.ThreadId.{ThreadId}
use Rattle.dso_lookup.specs.Maps.{look}
use Rattle.dso_lookup.specs.Orders.{lock_order, thread_order}
use Rattle.dso_legal.specs.Committed.{or_empty}
use Rattle.dso_legal.specs.JournalPass.{ThreadState, ClientState, ServerState, PassState}
use Rattle.dso_legal.specs.declared.committing.Committing.{Committing}
use Rattle.dso_legal.specs.declared.threads.ThreadState as table_thread
use Rattle.dso_legal.specs.declared.threads.ClientState as table_client
use Rattle.dso_legal.specs.declared.waiters.ServerState as table_server

-- a thread of which nothing is known yet
abbrev pub no_thread_state : ThreadState
no_thread_state = record { counts = λ l. None; waiting = None; block = [] }

-- what is kept of a thread
abbrev pub thread_state_in : table_thread.ThreadState → ThreadState
thread_state_in state = record { counts = look lock_order state.counts; waiting = state.waiting; block = state.block }

-- the same where there is something
abbrev pub thread_state_at : Option table_thread.ThreadState → ThreadState
thread_state_at None = no_thread_state
thread_state_at (Some state) = thread_state_in state

-- what is kept of each thread of a table
abbrev pub threads_in : BTreeMap ThreadId table_thread.ThreadState → ThreadId → ThreadState
threads_in table t = thread_state_at (look thread_order table t)

-- what is kept of a client
abbrev pub client_state_in : table_client.ClientState → ClientState
client_state_in threads = record { threads = threads_in threads.threads; ended = threads.ended }

-- a client of which nothing is known yet
abbrev pub no_client_state : ClientState
no_client_state = record { threads = λ t. no_thread_state; ended = [] }

-- the same where there is something
abbrev pub client_state_at : Option table_client.ClientState → ClientState
client_state_at None = no_client_state
client_state_at (Some threads) = client_state_in threads

-- what is kept of each client of a table
abbrev pub clients_in : BTreeMap ℕ table_client.ClientState → ℕ → ClientState
clients_in table c = client_state_at (look nat_cmp table c)

-- the lists of waiters of a table
abbrev pub waiters_in : BTreeMap LockName (List ThreadId) → LockName → List ThreadId
waiters_in table l = or_empty (look lock_order table l)

-- a server of which nothing is known yet
abbrev pub no_server_state : ServerState
no_server_state = record { lost = λ c. false; waiters = λ l. [] }

-- what is kept of the server
abbrev pub server_state_in : table_server.ServerState → ServerState
server_state_in lists = record
    { lost = λ c. unwrap_or (look nat_cmp lists.lost c) false; waiters = waiters_in lists.waiters }

-- before the first entry
abbrev pub no_pass_state : PassState
no_pass_state = record { clients = λ c. no_client_state; lists = no_server_state; history = [] }

-- all that is kept, without the history
abbrev pub kept_in : Committing → PassState
kept_in kept = record { clients = clients_in kept.clients; lists = server_state_in kept.lists; history = [] }

-- how many of a lock's list were woken already
abbrev pub woken_count : BTreeMap LockName ℕ → LockName → ℕ
woken_count gone l = unwrap_or (look lock_order gone l) 0

-- the lists without those that were woken already
abbrev pub lists_left : (LockName → List ThreadId) → BTreeMap LockName ℕ → LockName → List ThreadId
lists_left waiters gone l = drop (woken_count gone l) (waiters l)

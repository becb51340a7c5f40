-- A server before its first entry.
use Rattle.std.proofs.Common.{ℕ, ◌≡◌, inl, refl, sym, ◌∙◌, ap, subst, false, cond, eqb, None, Some, List, []}
use Rattle.std.proofs.Math.Path.{fun_ext}
use Rattle.std.specs.BTreeMap.{is_at}
use Rattle.std.specs.BTreeSet.{contains}
use Rattle.std.specs.List.{list_any}
use Rattle.std.specs.Map.{lookup}
use Rattle.std.specs.Ordering.{nat_cmp}
use Rattle.dso_base.specs.declared.lock.ThreadId.{ThreadId}
use Rattle.dso_base.specs.declared.shape.Shape.{Shape}
use Rattle.dso_base.specs.Following.{is_thread}
use Rattle.dso_law.specs.FitsUp.{AreDistinct}
use Rattle.dso_law.specs.Settings.{Settings}
use Rattle.dso_law.specs.ServerReadings.{counted}
use Rattle.dso_law.specs.Store.{opening_roots, stored}
use Rattle.dso_lookup.specs.Orders.{lock_order}
use Rattle.dso_locks.specs.Locks.{IsWithin, unused}
use Rattle.dso_locks.specs.LockRows.{locks_in, requested_in}
use Rattle.dso_server.specs.declared.server.Server.{Server}
use Rattle.dso_server.specs.Batches.{batches_to}
use Rattle.dso_server.specs.ServerStands.{ServerStands}
use Rattle.dso_server.specs.Threads.{known_in, last_in}
use Rattle.dso_server.specs.Waiters.{list_there, lists_in}
use Rattle.dso_store.specs.declared.store.Store.{Store}
use Rattle.dso_store.specs.Graph as graph
use Rattle.dso_store.specs.Graph.{AreClients, body_in, holds_in}

-- no lock is used
within_unused : (p : Settings) → IsWithin p unused
within_unused p = record { leased = λ c there. absurd (cc there); waiting = λ c there. absurd (cc there) }

-- of each object it has what is stored
pub opening_body : (p : Settings) (shape : Shape) (store : Store) → p.shape ≡ shape → body_in store ≡ (λ o. cond (eqb o 0) (Some (opening_roots shape)) None) → (o : ℕ) → body_in store o ≡ stored p.shape o (counted [])
opening_body p shape store ps bodies o = ap (λ f. f o) (bodies ∙ ap (λ s o. cond (eqb o 0) (Some (opening_roots s)) None) (sym ps))

pub stands_opening : (p : Settings) (shape : Shape) (threads : List ThreadId) (server : Server) → p.shape ≡ shape → ((t : ThreadId) → list_any (is_thread t) p.threads ≡ list_any (is_thread t) threads) → contains nat_cmp server.lost ≡ (λ c. false) → server.ids ≡ []
    → body_in server.store ≡ (λ o. cond (eqb o 0) (Some (opening_roots shape)) None) → holds_in server.store ≡ (λ c o. false) → graph.last_in server.store ≡ (λ c. 0)
    → locks_in server.locks ≡ (λ l. unused) → requested_in server.locks ≡ [] → server.waiters.entries ≡ []
    → known_in server.threads ≡ (λ t. list_any (is_thread t) threads) → last_in server.threads ≡ (λ t. None) → ServerStands p server []
stands_opening p shape threads server ps pt lost ids bodies holds last locks requested waiters known ended =
    let lists : lists_in server.waiters ≡ (λ l. []) = fun_ext (λ l. ap (λ es. list_there (lookup (is_at (lock_order l)) es)) waiters) in
    record {
      lost = lost;
      ids = sym (ap batches_to ids);
      store = record {
        bodies = λ o. inl (opening_body p shape server.store ps bodies o);
        holds = holds;
        last = last;
        within = subst (AreClients p) (sym holds) (λ c o there. absurd (cc there));
      };
      locks = record { locks = locks; requested = requested; within = λ l. subst (λ f. IsWithin p (f l)) (sym locks) (within_unused p) };
      waiters = record { lists = lists; once = λ l. subst (λ f. AreDistinct (f l)) (sym lists) tt };
      threads = record { known = known ∙ sym (fun_ext pt); last = ended; ended = λ t. refl };
    }

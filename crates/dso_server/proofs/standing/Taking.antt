-- The server after the entry in which it takes a message, from its parts.
use Rattle.std.proofs.Common.{ℕ, ◌≡◌, sym, ap, subst, false, cond, List, ◌∷◌}
use Rattle.std.specs.BTreeSet.{contains}
use Rattle.std.specs.Ordering.{nat_cmp}
use Rattle.dso_base.specs.declared.journal.Entry.{Entry}
use Rattle.dso_base.specs.declared.journal.Sent.{Sent}
use Rattle.dso_base.specs.declared.message.Up.{Up}
use Rattle.dso_law.specs.ServerReadings.{batches_given, counted, is_lost}
use Rattle.dso_law.specs.Settings.{Settings}
use Rattle.dso_server.specs.declared.server.Server.{Server}
use Rattle.dso_server.specs.Batches.{batches_to}
use Rattle.dso_server.specs.Sending.{took}
use Rattle.dso_server.specs.ServerStands.{GraphStands, LocksStand, ServerStands, ThreadsStand, WaitersStand}

-- an entry with a message of a client that isn't lost counts
pub counts : (clock c : ℕ) (m : Up) (sent : List Sent) (es : List Entry) → is_lost c es ≡ false → counted (took clock c m sent ∷ es) ≡ took clock c m sent ∷ counted es
counts clock c m sent es here = ap (λ b. cond b (counted es) (took clock c m sent ∷ counted es)) here

pub stands_took : (p : Settings) (new : Server) (clock c : ℕ) (m : Up) (sent : List Sent) (es : List Entry) → is_lost c es ≡ false
    → contains nat_cmp new.lost ≡ (λ d. is_lost d es) → batches_given (took clock c m sent ∷ counted es) ≡ batches_to new.ids
    → GraphStands p new.store (took clock c m sent ∷ counted es) → LocksStand p new.locks (took clock c m sent ∷ counted es)
    → WaitersStand new.waiters (took clock c m sent ∷ counted es) → ThreadsStand p new.threads (took clock c m sent ∷ counted es)
    → ServerStands p new (took clock c m sent ∷ es)
stands_took p new clock c m sent es here lost ids store locks waiters threads =
    let all = sym (counts clock c m sent es here) in
    record {
      lost = lost;
      ids = subst (λ xs. batches_given xs ≡ batches_to new.ids) all ids;
      store = subst (GraphStands p new.store) all store;
      locks = subst (LocksStand p new.locks) all locks;
      waiters = subst (WaitersStand new.waiters) all waiters;
      threads = subst (ThreadsStand p new.threads) all threads;
    }

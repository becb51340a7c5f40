-- A loss is answered.
use Rattle.std.proofs.Common.{ℕ, ◌≡◌, refl, sym, ◌∙◌, ap, subst, Bool, true, false, cond, eqb, ◌||◌, List, [], ◌∷◌, flat_map}
use Rattle.std.proofs.Math.Path.{fun_ext}
use Rattle.std.specs.BTreeMap.{BTreeMap, is_at}
use Rattle.std.specs.BTreeSet.{BTreeSet, contains}
use Rattle.std.specs.List.{AllByRecursion}
use Rattle.std.specs.Ordering.{nat_cmp}
use Rattle.dso_base.specs.declared.journal.Entry.{Entry}
use Rattle.dso_base.specs.declared.journal.Input.TheVariants.{Lose}
use Rattle.dso_base.specs.declared.lock.LockName.{LockName}
use Rattle.dso_base.specs.declared.lock.ThreadId.{ThreadId}
use Rattle.dso_base.specs.declared.message.Down.{Down}
use Rattle.dso_law.specs.ServerReadings.{counted}
use Rattle.dso_law.specs.Settings.{Settings}
use Rattle.dso_law.specs.Store.{held_by}
use Rattle.dso_locks.specs.declared.tables.LockRows.{LockRows}
use Rattle.dso_locks.specs.declared.told.Told.{Told}
use Rattle.dso_locks.specs.Laws.{stands_after}
use Rattle.dso_locks.specs.Locks.{IsWithin, after_told, lost_by, messages_of, serves}
use Rattle.dso_locks.specs.LockRows.{locks_in, requested_in}
use Rattle.dso_locks.proofs.Following.{follows_entries}
use Rattle.dso_lookup.proofs.Tests.{number_at}
use Rattle.dso_server.specs.declared.server.Server.{Server}
use Rattle.dso_server.specs.Answering.{IsLost}
use Rattle.dso_server.specs.Sending.{lost, sent_of}
use Rattle.dso_server.specs.ServerStands.{ServerStands}
use Rattle.dso_server.specs.Waiters.{lists_in, lists_without}
use Rattle.dso_server.proofs.standing.GraphTook.{graph_lost}
use Rattle.dso_server.proofs.standing.LocksTook.{locks_lost, lost_within}
use Rattle.dso_server.proofs.standing.Quiet.{OffIds, OffWaiters, ids_stay, told_off_ids, told_off_waiters}
use Rattle.dso_server.proofs.standing.WaitersTook.{waiters_lost}
use Rattle.dso_store.specs.declared.store.Store.{Store}
use Rattle.dso_store.specs.Graph.{body_in, holds_in, last_in}

-- one more client is lost
pub lost_inserted : (old new : BTreeSet ℕ) (c : ℕ) → ((d : ℕ) → contains nat_cmp new d ≡ cond (is_at (nat_cmp c) d) true (contains nat_cmp old d)) → contains nat_cmp new ≡ (λ d. eqb d c || contains nat_cmp old d)
lost_inserted old new c put = fun_ext (λ d. put d ∙ (ap (λ b. cond b true (contains nat_cmp old d)) (number_at c d) ∙ by (eqb d c) (contains nat_cmp old d)))
  where
    by : (a b : Bool) → cond a true b ≡ (a || b)
    by true b = refl
    by false b = refl

pub answered_loss : (old : Server) (gone : BTreeSet ℕ) (store : Store) (table : LockRows) (waiters : BTreeMap LockName (List ThreadId)) (c : ℕ) (told : List Told) (messages : List (ℕ × Down))
    → contains nat_cmp gone ≡ (λ d. eqb d c || contains nat_cmp old.lost d)
    → body_in store ≡ body_in old.store → holds_in store ≡ (λ d o. held_by d o (Lose c) (holds_in old.store d o)) → last_in store ≡ last_in old.store
    → lists_in waiters ≡ lists_without c (lists_in old.waiters)
    → ((p : Settings) → ((l : LockName) → IsWithin p (lost_by c (locks_in old.locks l))) → messages_of told ≡ flat_map (λ l. serves p l (lost_by c (locks_in old.locks l))) (requested_in old.locks))
    → locks_in table ≡ after_told told (λ l. lost_by c (locks_in old.locks l)) → requested_in table ≡ requested_in old.locks → sent_of messages ≡ messages_of told
    → (p : Settings) (es : List Entry) → ServerStands p old es → IsLost p c messages old (record old { lost = gone; store = store; waiters = waiters; locks = table }) es
answered_loss old gone store table waiters c told messages those bodies holds last lists sends stands asked is p es s =
    let within = λ (l : LockName). lost_within p c (locks_in old.locks l) (s.locks.within l) in
    let now = λ (clock : ℕ). fun_ext (λ (l : LockName). ap (λ f. lost_by c (f l)) s.locks.locks ∙ sym (follows_entries l (lost clock c []) (counted es))) in
    record {
      sends = λ clock. is ∙ (sends p within ∙ (ap (λ f. flat_map (λ l. serves p l (f l)) (requested_in old.locks)) (now clock) ∙ ap (λ ls. flat_map (λ l. serves p l (stands_after l (lost clock c [] ∷ counted es))) ls) s.locks.requested));
      stands = λ clock. record {
        lost = those ∙ ap (λ f d. eqb d c || f d) s.lost;
        ids = ids_stay (sent_of messages) _ (subst (AllByRecursion OffIds) (sym is) (told_off_ids told)) ∙ s.ids;
        store = graph_lost p old.store store clock c (sent_of messages) (counted es) bodies holds last s.store;
        locks = locks_lost p old.locks table clock c told (sent_of messages) (counted es) sends stands asked is s.locks;
        waiters = waiters_lost old.waiters waiters clock c (sent_of messages) (counted es) lists (subst (AllByRecursion OffWaiters) (sym is) (told_off_waiters told)) s.waiters;
        threads = record { known = s.threads.known; last = s.threads.last; ended = s.threads.ended };
      };
      lacks = λ clock o lacks. (lacks.0, sym (ap (λ f. f o) bodies) ∙ lacks.1);
      keeps = λ o. ap (λ f. f o) bodies;
    }

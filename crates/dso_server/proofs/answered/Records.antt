-- A record is answered.
use Rattle.std.proofs.Common.{ℕ, ◌≡◌, refl, sym, ◌∙◌, ap, subst, true, cond, Option, Some, List, [], ◌∷◌, ◌++◌}
use Rattle.std.specs.BTreeMap.{BTreeMap}
use Rattle.std.specs.List.{AllByRecursion, list_any}
use Rattle.std.specs.declared.vec.Vec.{Vec}
use Rattle.dso_base.specs.declared.journal.Input.TheVariants.{TookUp}
use Rattle.dso_base.specs.declared.journal.Sent.{Sent}
use Rattle.dso_base.specs.declared.journal.Sent.TheVariants.{ToClient}
use Rattle.dso_base.specs.declared.lock.LockName.{LockName}
use Rattle.dso_base.specs.declared.lock.ThreadId.{ThreadId}
use Rattle.dso_base.specs.declared.message.Down.{Down}
use Rattle.dso_base.specs.declared.message.Down.TheVariants as down
use Rattle.dso_base.specs.declared.message.Up.TheVariants as up
use Rattle.dso_base.specs.declared.record.Ending.{Ending}
use Rattle.dso_base.specs.declared.record.Set.{Set}
use Rattle.dso_base.specs.declared.record.Txn.{Txn}
use Rattle.dso_base.specs.Following.{is_thread}
use Rattle.dso_law.specs.ServerReadings.{counted, number_by}
use Rattle.dso_law.specs.ServerWaiters.{wakes_of}
use Rattle.dso_law.specs.Settings.{Settings}
use Rattle.dso_law.specs.Store.{body_by, held_by, holds_object}
use Rattle.dso_server.specs.declared.server.Server.{Server}
use Rattle.dso_server.specs.Answering.{AnswersMessage}
use Rattle.dso_server.specs.Sending.{sent_of}
use Rattle.dso_server.specs.Threads.{known_in, last_in}
use Rattle.dso_server.specs.Waiters.{lists_in, lists_woken}
use Rattle.dso_server.proofs.standing.GraphTook.{graph_took}
use Rattle.dso_server.proofs.lists.Lists.{each_append}
use Rattle.dso_server.proofs.standing.Lacking.{lacked_before, lacked_later}
use Rattle.dso_server.proofs.standing.LocksTook.{locks_same}
use Rattle.dso_server.proofs.standing.Quiet.{OffIds, OffLocks, changes_off_ids, changes_off_locks, changes_off_waiters, ids_stay, wakes_off_ids, wakes_off_locks}
use Rattle.dso_server.proofs.standing.Taking.{stands_took}
use Rattle.dso_server.proofs.lists.ThreadTables.{threads_of_client}
use Rattle.dso_server.proofs.standing.ThreadsTook.{threads_ended}
use Rattle.dso_server.proofs.standing.WaitersTook.{waiters_woken_by}
use Rattle.dso_store.specs.declared.store.Store.{Store}
use Rattle.dso_store.specs.Changes.{messages_of}
use Rattle.dso_store.specs.Graph as graph
use Rattle.dso_store.specs.Graph.{AreClients, body_in, changes_by, holds_in}
use Rattle.dso_lookup.proofs.Tests.{both}
use Rattle.std.proofs.Common.{eqb}

module _ {Z : Type 0} (old : Server) (store : Store) (threads : BTreeMap ThreadId (Option Ending)) (waiters : BTreeMap LockName (List ThreadId)) (c : ℕ) (txn : Txn) (changes : List (ℕ × Vec Set Z)) (messages : List (ℕ × Down))
    (bodies : body_in store ≡ (λ o. body_by o c (up.Commit txn) (body_in old.store o))) (holds : holds_in store ≡ (λ d o. held_by d o (TookUp c (up.Commit txn)) (holds_in old.store d o)))
    (last : graph.last_in store ≡ (λ d. number_by d c (up.Commit txn) (graph.last_in old.store d)))
    (known : known_in threads ≡ (λ t. cond (is_thread t txn.thread) true (known_in old.threads t))) (ended : last_in threads ≡ (λ t. cond (is_thread t txn.thread) (Some txn.ending) (last_in old.threads t)))
    (told : (p : Settings) → AreClients p (holds_in store) → messages_of changes ≡ changes_by p c txn (holds_in store))
    (woken : lists_in waiters ≡ lists_woken txn (lists_in old.waiters))
    (is : sent_of messages ≡ (ToClient c (down.Ack txn.seq) ∷ messages_of changes) ++ wakes_of txn (lists_in old.waiters)) where
  first : List Sent
  first = ToClient c (down.Ack txn.seq) ∷ messages_of changes

  off_ids : AllByRecursion OffIds (sent_of messages)
  unfolding first
  off_ids = subst (AllByRecursion OffIds) (sym is) (each_append OffIds first (wakes_of txn (lists_in old.waiters)) (λ given. refl, changes_off_ids changes) (wakes_off_ids txn (lists_in old.waiters)))

  off_locks : AllByRecursion OffLocks (sent_of messages)
  unfolding first
  off_locks = subst (AllByRecursion OffLocks) (sym is) (each_append OffLocks first (wakes_of txn (lists_in old.waiters)) (λ l s. refl, changes_off_locks changes) (wakes_off_locks txn (lists_in old.waiters)))

  pub answered_record : AnswersMessage c (up.Commit txn) messages old (record old { store = store; threads = threads; waiters = waiters })
  answered_record p es s its here fits knows =
      let graph_now = λ (clock : ℕ) (sent : List Sent). graph_took p old.store store clock c (up.Commit txn) sent (counted es) its bodies holds last s.store in
      let there : known_in old.threads txn.thread ≡ true = ap (λ f. f txn.thread) s.threads.known ∙ (both (eqb txn.thread.client c) (list_any (is_thread txn.thread) p.threads) (sym (threads_of_client txn.thread c p.threads) ∙ fits.thread)).1 in
      record {
        sends = λ clock. is ∙ (ap (λ made. (ToClient c (down.Ack txn.seq) ∷ made) ++ wakes_of txn (lists_in old.waiters)) (told p (graph_now clock []).within ∙ ap (changes_by p c txn) (graph_now clock []).holds)
            ∙ ap (λ lists. (ToClient c (down.Ack txn.seq) ∷ changes_by p c txn (λ d o. held_by d o (TookUp c (up.Commit txn)) (holds_object d o (counted es)))) ++ wakes_of txn lists) s.waiters.lists);
        stands = λ clock. stands_took p (record old { store = store; threads = threads; waiters = waiters }) clock c (up.Commit txn) (sent_of messages) es here s.lost (ids_stay (sent_of messages) _ off_ids ∙ s.ids)
            (graph_now clock (sent_of messages))
            (locks_same p old.locks clock c (up.Commit txn) (sent_of messages) (counted es) (λ l x. refl) refl off_locks s.locks)
            (waiters_woken_by old.waiters waiters clock c txn (ToClient c (down.Ack txn.seq) ∷ messages_of changes) (sent_of messages) (counted es) woken (λ l list. refl, changes_off_waiters changes) is s.waiters)
            (threads_ended p old.threads threads clock c txn (sent_of messages) (counted es) there fits.going known ended s.threads);
        lacks = λ clock. lacked_before p old (record old { store = store; threads = threads; waiters = waiters }) clock c (up.Commit txn) (sent_of messages) es here bodies s.store;
        keeps = lacked_later old (record old { store = store; threads = threads; waiters = waiters }) c (up.Commit txn) bodies;
      }

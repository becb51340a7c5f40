-- A fault and a flush are answered.
use Rattle.std.proofs.Common.{ℕ, ◌≡◌, refl, sym, ◌∙◌, ap, subst, Option, Some, None, List, []}
use Rattle.std.proofs.lemmas.Bool.{eq-eqb}
use Rattle.std.specs.List.{AllByRecursion}
use Rattle.dso_base.specs.declared.journal.Input.TheVariants.{TookUp}
use Rattle.dso_base.specs.declared.message.Down.{Down}
use Rattle.dso_base.specs.declared.message.Up.TheVariants as up
use Rattle.dso_base.specs.declared.record.Body.{Body}
use Rattle.dso_law.specs.ServerReadings.{counted}
use Rattle.dso_law.specs.ServerStep.{object_to}
use Rattle.dso_law.specs.Store.{held_by}
use Rattle.dso_server.specs.declared.server.Server.{Server}
use Rattle.dso_server.specs.Answering.{AnswersMessage}
use Rattle.dso_server.specs.Sending.{sent_of}
use Rattle.dso_server.proofs.standing.GraphTook.{graph_took}
use Rattle.dso_server.proofs.standing.Lacking.{lacked_before, lacked_later}
use Rattle.dso_server.proofs.standing.LocksTook.{locks_same}
use Rattle.dso_server.proofs.standing.Quiet.{OffIds, OffLocks, OffWaiters, ids_stay}
use Rattle.dso_server.proofs.standing.Taking.{stands_took}
use Rattle.dso_server.proofs.standing.ThreadsTook.{threads_same}
use Rattle.dso_server.proofs.standing.WaitersTook.{waiters_same}
use Rattle.dso_store.specs.declared.store.Store.{Store}
use Rattle.dso_store.specs.Graph.{body_in, holds_in, last_in}

-- an object sent gives no ids, tells nothing of locks and wakes nobody
off_ids : (c : ℕ) (body : Option Body) → AllByRecursion OffIds (object_to c body)
off_ids c None = tt
off_ids c (Some body) = (λ given. refl, tt)

off_locks : (c : ℕ) (body : Option Body) → AllByRecursion OffLocks (object_to c body)
off_locks c None = tt
off_locks c (Some body) = (λ l s. refl, tt)

off_waiters : (c : ℕ) (body : Option Body) → AllByRecursion OffWaiters (object_to c body)
off_waiters c None = tt
off_waiters c (Some body) = (λ l list. refl, tt)

pub answered_fault : (old : Server) (store : Store) (c o : ℕ) (body : Option Body) (messages : List (ℕ × Down)) → body ≡ body_in old.store o → sent_of messages ≡ object_to c body
    → body_in store ≡ body_in old.store → holds_in store ≡ (λ d x. held_by d x (TookUp c (up.Fault o)) (holds_in old.store d x)) → last_in store ≡ last_in old.store
    → AnswersMessage c (up.Fault o) messages old (record old { store = store })
answered_fault old store c o body messages found is bodies holds last p es s its here fits knows = record {
  sends = λ clock. is ∙ ap (object_to c) (found ∙ knows here o (eq-eqb o o refl));
  stands = λ clock. stands_took p (record old { store = store }) clock c (up.Fault o) (sent_of messages) es here s.lost (ids_stay (sent_of messages) _ (subst (AllByRecursion OffIds) (sym is) (off_ids c body)) ∙ s.ids)
      (graph_took p old.store store clock c (up.Fault o) (sent_of messages) (counted es) its bodies holds last s.store)
      (locks_same p old.locks clock c (up.Fault o) (sent_of messages) (counted es) (λ l x. refl) refl (subst (AllByRecursion OffLocks) (sym is) (off_locks c body)) s.locks)
      (waiters_same old.waiters clock c (up.Fault o) (sent_of messages) (counted es) (λ l list. refl) (subst (AllByRecursion OffWaiters) (sym is) (off_waiters c body)) s.waiters)
      (threads_same p old.threads clock c (up.Fault o) (sent_of messages) (counted es) (λ t e. refl) (λ t ended. refl) s.threads);
  lacks = λ clock. lacked_before p old (record old { store = store }) clock c (up.Fault o) (sent_of messages) es here bodies s.store;
  keeps = lacked_later old (record old { store = store }) c (up.Fault o) bodies;
}

pub answered_flush : (old : Server) (store : Store) (c o : ℕ) (messages : List (ℕ × Down)) → messages ≡ []
    → body_in store ≡ body_in old.store → holds_in store ≡ (λ d x. held_by d x (TookUp c (up.Flushed o)) (holds_in old.store d x)) → last_in store ≡ last_in old.store
    → AnswersMessage c (up.Flushed o) messages old (record old { store = store })
answered_flush old store c o messages none bodies holds last p es s its here fits knows =
    let is : sent_of messages ≡ [] = ap sent_of none in
    record {
      sends = λ clock. is;
      stands = λ clock. stands_took p (record old { store = store }) clock c (up.Flushed o) (sent_of messages) es here s.lost (ids_stay (sent_of messages) _ (subst (AllByRecursion OffIds) (sym is) tt) ∙ s.ids)
          (graph_took p old.store store clock c (up.Flushed o) (sent_of messages) (counted es) its bodies holds last s.store)
          (locks_same p old.locks clock c (up.Flushed o) (sent_of messages) (counted es) (λ l x. refl) refl (subst (AllByRecursion OffLocks) (sym is) tt) s.locks)
          (waiters_same old.waiters clock c (up.Flushed o) (sent_of messages) (counted es) (λ l list. refl) (subst (AllByRecursion OffWaiters) (sym is) tt) s.waiters)
          (threads_same p old.threads clock c (up.Flushed o) (sent_of messages) (counted es) (λ t e. refl) (λ t ended. refl) s.threads);
      lacks = λ clock. lacked_before p old (record old { store = store }) clock c (up.Flushed o) (sent_of messages) es here bodies s.store;
      keeps = lacked_later old (record old { store = store }) c (up.Flushed o) bodies;
    }

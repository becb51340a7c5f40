-- An ask for ids is answered.
use Rattle.std.proofs.Common.{ℕ, ◌+◌, ◌*◌, ◌≡◌, refl, sym, ◌∙◌, ap, subst, List, [], ◌∷◌, length}
use Rattle.dso_base.specs.declared.journal.Sent.TheVariants.{ToClient}
use Rattle.dso_base.specs.declared.message.Down.{Down}
use Rattle.dso_base.specs.declared.message.Down.TheVariants as down
use Rattle.dso_base.specs.declared.message.Up.TheVariants as up
use Rattle.dso_ids.specs.Ids.{first_of_batch}
use Rattle.dso_law.specs.ServerReadings.{batches_given, counted, next_batch}
use Rattle.dso_server.specs.declared.server.Server.{Server}
use Rattle.dso_server.specs.Answering.{AnswersMessage}
use Rattle.dso_server.specs.Batches.{batches_to}
use Rattle.dso_server.specs.Sending.{sent_of, took}
use Rattle.dso_server.specs.ServerStands.{ServerStands}
use Rattle.dso_server.proofs.standing.BatchesGiven.{length_to}
use Rattle.dso_server.proofs.standing.GraphTook.{graph_same}
use Rattle.dso_server.proofs.standing.Lacking.{lacked_before, lacked_later}
use Rattle.dso_server.proofs.standing.LocksTook.{locks_same}
use Rattle.dso_server.proofs.standing.Taking.{stands_took}
use Rattle.dso_server.proofs.standing.ThreadsTook.{threads_same}
use Rattle.dso_server.proofs.standing.WaitersTook.{waiters_same}

pub answered_ids : (old : Server) (ids : List ℕ) (c first : ℕ) (messages : List (ℕ × Down)) → first ≡ first_of_batch (length old.ids) → ids ≡ c ∷ old.ids → messages ≡ (c, down.Ids first) ∷ []
    → AnswersMessage c up.IdAsk messages old (record old { ids = ids })
answered_ids old ids c first messages is given alone p es s its here fits knows =
    let next : first ≡ next_batch (counted es) = is ∙ ap (λ n. 1 + 256 * n) (sym (ap length s.ids ∙ length_to old.ids)) in
    let batch : record { client = c; first = first } ∷ batches_given (counted es) ≡ batches_to ids = ap (λ n. record { client = c; first = n } ∷ batches_given (counted es)) is ∙ (ap (λ rest. record { client = c; first = first_of_batch (length old.ids) } ∷ rest) s.ids ∙ ap batches_to (sym given)) in
    record {
      sends = λ clock. ap sent_of alone ∙ ap (λ n. ToClient c (down.Ids n) ∷ []) next;
      stands = λ clock. subst (λ ms. ServerStands p (record old { ids = ids }) (took clock c up.IdAsk (sent_of ms) ∷ es)) (sym alone)
          (stands_took p (record old { ids = ids }) clock c up.IdAsk (ToClient c (down.Ids first) ∷ []) es here s.lost batch
          (graph_same p old.store clock c up.IdAsk (ToClient c (down.Ids first) ∷ []) (counted es) its (λ o body. refl) (λ o b. refl) (λ d n. refl) s.store)
          (locks_same p old.locks clock c up.IdAsk (ToClient c (down.Ids first) ∷ []) (counted es) (λ l x. refl) refl (λ l x. refl, tt) s.locks)
          (waiters_same old.waiters clock c up.IdAsk (ToClient c (down.Ids first) ∷ []) (counted es) (λ l list. refl) (λ l list. refl, tt) s.waiters)
          (threads_same p old.threads clock c up.IdAsk (ToClient c (down.Ids first) ∷ []) (counted es) (λ t last. refl) (λ t ended. refl) s.threads));
      lacks = λ clock. lacked_before p old (record old { ids = ids }) clock c up.IdAsk (sent_of messages) es here refl s.store;
      keeps = lacked_later old (record old { ids = ids }) c up.IdAsk refl;
    }

-- A request and a return are answered.
use Rattle.std.proofs.Common.{ℕ, ◌≡◌, refl, sym, ◌∙◌, ap, subst, false, List}
use Rattle.std.specs.BTreeMap.{BTreeMap}
use Rattle.std.specs.List.{AllByRecursion, list_any}
use Rattle.dso_base.specs.declared.lock.Level.{Level}
use Rattle.dso_base.specs.declared.lock.LockName.{LockName}
use Rattle.dso_base.specs.declared.lock.ThreadId.{ThreadId}
use Rattle.dso_base.specs.declared.message.Down.{Down}
use Rattle.dso_base.specs.declared.message.Up.TheVariants as up
use Rattle.dso_base.specs.Following.{is_thread}
use Rattle.dso_law.specs.FitsUp.{IsNewWaiter}
use Rattle.dso_law.specs.Leases.{insert_lock}
use Rattle.dso_law.specs.ServerReadings.{counted}
use Rattle.dso_law.specs.ServerWaiters.{waiters_of}
use Rattle.dso_law.specs.Settings.{Settings}
use Rattle.dso_locks.specs.declared.tables.LockRows.{LockRows}
use Rattle.dso_locks.specs.declared.told.Told.{Told}
use Rattle.dso_locks.specs.Locks.{IsWithin, after_told, at_lock, messages_of, requested_by, returned_by, serves}
use Rattle.dso_locks.specs.LockRows.{locks_in, requested_in}
use Rattle.dso_server.specs.declared.server.Server.{Server}
use Rattle.dso_server.specs.Answering.{AnswersMessage}
use Rattle.dso_server.specs.Sending.{sent_of}
use Rattle.dso_server.specs.Waiters.{lists_in, lists_returned}
use Rattle.dso_server.proofs.lists.Each.{each_weaker}
use Rattle.dso_server.proofs.standing.GraphTook.{graph_same}
use Rattle.dso_server.proofs.standing.Lacking.{lacked_before, lacked_later}
use Rattle.dso_server.proofs.standing.LocksTook.{locks_told, requested_within, returned_within, served_now}
use Rattle.dso_server.proofs.standing.Quiet.{OffIds, OffWaiters, ids_stay, told_off_ids, told_off_waiters}
use Rattle.dso_server.proofs.standing.Taking.{stands_took}
use Rattle.dso_server.proofs.standing.ThreadsTook.{threads_same}
use Rattle.dso_server.proofs.standing.WaitersTook.{waiters_returned, waiters_same}

pub answered_request : (old : Server) (table : LockRows) (c : ℕ) (l : LockName) (level : Level) (told : List Told) (messages : List (ℕ × Down))
    → ((p : Settings) → IsWithin p (requested_by c level (locks_in old.locks l)) → messages_of told ≡ serves p l (requested_by c level (locks_in old.locks l)))
    → locks_in table ≡ after_told told (at_lock l (requested_by c level) (locks_in old.locks)) → requested_in table ≡ insert_lock l (requested_in old.locks) → sent_of messages ≡ messages_of told
    → AnswersMessage c (up.Request l level) messages old (record old { locks = table })
answered_request old table c l level told messages sends stands asked is p es s its here fits knows =
    let within = requested_within p c level (locks_in old.locks l) its (s.locks.within l) in
    record {
      sends = λ clock. is ∙ (sends p within ∙ ap (serves p l) (sym (served_now p old.locks table clock c (up.Request l level) l (requested_by c level) told (sent_of messages) (counted es) s.locks (λ k x. refl) within)));
      stands = λ clock. stands_took p (record old { locks = table }) clock c (up.Request l level) (sent_of messages) es here s.lost (ids_stay (sent_of messages) _ (subst (AllByRecursion OffIds) (sym is) (told_off_ids told)) ∙ s.ids)
          (graph_same p old.store clock c (up.Request l level) (sent_of messages) (counted es) its (λ o body. refl) (λ o b. refl) (λ d n. refl) s.store)
          (locks_told p old.locks table clock c (up.Request l level) l (requested_by c level) told (sent_of messages) (counted es) s.locks (λ k x. refl) within sends stands asked is)
          (waiters_same old.waiters clock c (up.Request l level) (sent_of messages) (counted es) (λ k list. refl) (subst (AllByRecursion OffWaiters) (sym is) (told_off_waiters told)) s.waiters)
          (threads_same p old.threads clock c (up.Request l level) (sent_of messages) (counted es) (λ t e. refl) (λ t ended. refl) s.threads);
      lacks = λ clock. lacked_before p old (record old { locks = table }) clock c (up.Request l level) (sent_of messages) es here refl s.store;
      keeps = lacked_later old (record old { locks = table }) c (up.Request l level) refl;
    }

pub answered_return : (old : Server) (table : LockRows) (waiters : BTreeMap LockName (List ThreadId)) (c : ℕ) (l : LockName) (threads : List ThreadId) (told : List Told) (messages : List (ℕ × Down))
    → lists_in waiters ≡ lists_returned l threads (lists_in old.waiters)
    → ((p : Settings) → IsWithin p (returned_by c (locks_in old.locks l)) → messages_of told ≡ serves p l (returned_by c (locks_in old.locks l)))
    → locks_in table ≡ after_told told (at_lock l (returned_by c) (locks_in old.locks)) → requested_in table ≡ requested_in old.locks → sent_of messages ≡ messages_of told
    → AnswersMessage c (up.Return l threads) messages old (record old { waiters = waiters; locks = table })
answered_return old table waiters c l threads told messages put sends stands asked is p es s its here fits knows =
    let within = returned_within p c (locks_in old.locks l) (s.locks.within l) in
    let new : AllByRecursion (λ t. list_any (is_thread t) (waiters_of l (counted es)) ≡ false) threads = each_weaker (IsNewWaiter p c l (counted es)) (λ t. list_any (is_thread t) (waiters_of l (counted es)) ≡ false) (λ t h. h.1) threads fits.new in
    record {
      sends = λ clock. is ∙ (sends p within ∙ ap (serves p l) (sym (served_now p old.locks table clock c (up.Return l threads) l (returned_by c) told (sent_of messages) (counted es) s.locks (λ k x. refl) within)));
      stands = λ clock. stands_took p (record old { waiters = waiters; locks = table }) clock c (up.Return l threads) (sent_of messages) es here s.lost (ids_stay (sent_of messages) _ (subst (AllByRecursion OffIds) (sym is) (told_off_ids told)) ∙ s.ids)
          (graph_same p old.store clock c (up.Return l threads) (sent_of messages) (counted es) its (λ o body. refl) (λ o b. refl) (λ d n. refl) s.store)
          (locks_told p old.locks table clock c (up.Return l threads) l (returned_by c) told (sent_of messages) (counted es) s.locks (λ k x. refl) within sends stands asked is)
          (waiters_returned old.waiters waiters clock c l threads (sent_of messages) (counted es) put (subst (AllByRecursion OffWaiters) (sym is) (told_off_waiters told)) fits.once new s.waiters)
          (threads_same p old.threads clock c (up.Return l threads) (sent_of messages) (counted es) (λ t e. refl) (λ t ended. refl) s.threads);
      lacks = λ clock. lacked_before p old (record old { waiters = waiters; locks = table }) clock c (up.Return l threads) (sent_of messages) es here refl s.store;
      keeps = lacked_later old (record old { waiters = waiters; locks = table }) c (up.Return l threads) refl;
    }

-- What an entry of the server grants of a lock is what serving that lock once grants, or nothing.
use Rattle.std.specs.List.{list_any}
use Rattle.std.proofs.Common.{ℕ, ◌≡◌, ◌⊎◌, inl, inr, refl, sym, ◌∙◌, ap, subst, Bool, true, false, cond, eqb, Option, Some, None, List, [], ◌∷◌, ◌++◌}
use Rattle.std.specs.Prelude.{flat_map}
use Rattle.std.proofs.lemmas.List.{append_assoc, append-nil}
use Rattle.dso_base.specs.declared.journal.Entry.{Entry}
use Rattle.dso_base.specs.declared.journal.Sent.{Sent}
use Rattle.dso_base.specs.declared.lock.LockName.{LockName}
use Rattle.dso_base.specs.declared.lock.ThreadId.{ThreadId}
use Rattle.dso_base.specs.declared.message.Down.TheVariants as down
use Rattle.dso_base.specs.declared.message.Up.{Up}
use Rattle.dso_base.specs.declared.message.Up.TheVariants as up
use Rattle.dso_base.specs.declared.record.Body.{Body}
use Rattle.dso_base.specs.declared.record.Note.{Note}
use Rattle.dso_base.specs.declared.record.Set.{Set}
use Rattle.dso_plain.specs.KeyTests.{is_lock}
use Rattle.dso_plain.proofs.keys.SameKeys.{same_lock}
use Rattle.dso_base.specs.declared.record.Ending.{Ending}
use Rattle.dso_base.specs.declared.record.Ending.TheVariants as ending
use Rattle.dso_base.specs.declared.record.Txn.{Txn}
use Rattle.dso_base.specs.Following.{is_thread}
use Rattle.dso_law.specs.Settings.{Settings, clients_of}
use Rattle.dso_law.specs.Granting.{queue_of, serves, serves_all, leases_so_far, requested}
use Rattle.dso_law.specs.Store.{stored}
use Rattle.dso_law.specs.ServerWaiters.{waiters_of, waiters_woken, lists_after, lists_noted, wake_each, wakes, wakes_timed_out, wakes_of}
use Rattle.dso_law.specs.ServerStep.{object_to, sets_for, changes_to, changes_of, answers}
use Rattle.dso_legal.proofs.leases.ClientLeases.{neither}
use Rattle.dso_legal.proofs.leases.Locks.{Distinct, rising_distinct, requested_rises}
use Rattle.dso_legal.proofs.leases.Queues.{NoGrants, no_grants_append, no_grants_each, no_grants_map, serve_other}

-- What is sent is what serving the lock sends, between what grants nothing of it.
pub record ServesOnce (p : Settings) (l : LockName) (out : List Sent) (es : List Entry) : Type 0 where
  pub front : List Sent
  pub behind : List Sent
  pub whole : out ≡ front ++ (serves p l es ++ behind)
  pub none_in_front : NoGrants l front
  pub none_behind : NoGrants l behind

-- so, or nothing of the lock is granted
abbrev pub OneServing : Settings → LockName → List Sent → List Entry → Type 0
OneServing p l out es = NoGrants l out ⊎ ServesOnce p l out es

-- The entries are those that count, with the entry, without what it sends, in front of them.
module _ (p : Settings) (l : LockName) (es : List Entry) where
  -- one lock is served
  serve_lock : (k : LockName) (b : Bool) → is_lock l k ≡ b → OneServing p l (serves p k es) es
  serve_lock k true e = inr (record {
    front = [];
    behind = [];
    whole = ap (λ j. serves p j es) (same_lock l k e) ∙ sym (append-nil (serves p l es));
    none_in_front = tt;
    none_behind = tt;
  })
  serve_lock k false e = inl (serve_other p l k (queue_of k es) (leases_so_far k es) e)

  -- other locks are served
  serve_others : (locks : List LockName) → list_any (is_lock l) locks ≡ false → NoGrants l (flat_map (λ k. serves p k es) locks)
  serve_others [] e = tt
  serve_others (k ∷ locks) e =
      let no = neither (is_lock l k) (list_any (is_lock l) locks) e in
      no_grants_append l (serves p k es) (flat_map (λ k. serves p k es) locks) (serve_other p l k (queue_of k es) (leases_so_far k es) no.0) (serve_others locks no.1)

  -- another lock is served in front
  serve_in_front : (k : LockName) (out : List Sent) → is_lock l k ≡ false → OneServing p l out es → OneServing p l (serves p k es ++ out) es
  serve_in_front k out e (inl none) = inl (no_grants_append l (serves p k es) out (serve_other p l k (queue_of k es) (leases_so_far k es) e) none)
  serve_in_front k out e (inr once) = inr (record {
    front = serves p k es ++ once.front;
    behind = once.behind;
    whole = ap (λ rest. serves p k es ++ rest) once.whole ∙ sym (append_assoc (serves p k es) once.front (serves p l es ++ once.behind));
    none_in_front = no_grants_append l (serves p k es) once.front (serve_other p l k (queue_of k es) (leases_so_far k es) e) once.none_in_front;
    none_behind = once.none_behind;
  })

  serve_next : (k : LockName) (locks : List LockName) (b : Bool) → is_lock l k ≡ b → list_any (is_lock k) locks ≡ false → OneServing p l (flat_map (λ k. serves p k es) locks) es
      → OneServing p l (serves p k es ++ flat_map (λ k. serves p k es) locks) es
  serve_next k locks true e alone later = inr (record {
    front = [];
    behind = flat_map (λ k. serves p k es) locks;
    whole = ap (λ j. serves p j es ++ flat_map (λ k. serves p k es) locks) (same_lock l k e);
    none_in_front = tt;
    none_behind = serve_others locks (subst (λ j. list_any (is_lock j) locks ≡ false) (same_lock l k e) alone);
  })
  serve_next k locks false e alone later = serve_in_front k (flat_map (λ k. serves p k es) locks) e later

  -- distinct locks are served
  serve_locks : (locks : List LockName) → Distinct locks → OneServing p l (flat_map (λ k. serves p k es) locks) es
  serve_locks [] h = inl tt
  serve_locks (k ∷ locks) h = serve_next k locks (is_lock l k) refl h.0 (serve_locks locks h.1)

  -- as after a loss
  pub all_served : OneServing p l (serves_all p es) es
  all_served = serve_locks (requested es) (rising_distinct (requested es) (requested_rises es))

  -- an object, changes and wakings are no grants
  object_no_grant : (d : ℕ) (body : Option Body) → NoGrants l (object_to d body)
  object_no_grant d None = tt
  object_no_grant d (Some body) = (tt, tt)

  changes_no_grant : (d : ℕ) (sets : List Set) → NoGrants l (changes_to d sets)
  changes_no_grant d [] = tt
  changes_no_grant d (set ∷ sets) = (tt, tt)

  changes_if : (b : Bool) (d : ℕ) (sets : List Set) → NoGrants l (cond b [] (changes_to d sets))
  changes_if true d sets = tt
  changes_if false d sets = changes_no_grant d sets

  wakes_no_grant : (notes : List Note) (lists : LockName → List ThreadId) → NoGrants l (wakes notes lists)
  wakes_no_grant [] lists = tt
  wakes_no_grant (note ∷ notes) lists = no_grants_append l (wake_each note.lock (waiters_woken note.choice (lists note.lock))) (wakes notes (lists_after note.lock note.choice lists))
      (no_grants_map l (λ (t : ThreadId). t.client) (λ t. down.Wake note.lock t) (waiters_woken note.choice (lists note.lock)) (λ t. tt))
      (wakes_no_grant notes (lists_after note.lock note.choice lists))

  timed_out_no_grant : (t : ThreadId) (end : Ending) (lists : LockName → List ThreadId) → NoGrants l (wakes_timed_out t end lists)
  timed_out_no_grant t (ending.Exit k) lists = tt
  timed_out_no_grant t (ending.Wait k) lists = tt
  timed_out_no_grant t (ending.End fault) lists = tt
  timed_out_no_grant t (ending.Timeout k) lists = by (list_any (is_thread t) (lists k))
    where
      by : (b : Bool) → NoGrants l (cond b (wake_each k (t ∷ [])) [])
      by true = (tt, tt)
      by false = tt

  woken_no_grant : (txn : Txn) (lists : LockName → List ThreadId) → NoGrants l (wakes_of txn lists)
  woken_no_grant txn lists = no_grants_append l (wakes txn.notes lists) (wakes_timed_out txn.thread txn.ending (lists_noted txn.notes lists)) (wakes_no_grant txn.notes lists)
      (timed_out_no_grant txn.thread txn.ending (lists_noted txn.notes lists))

  -- the answer to a message of client d
  pub answered : (d : ℕ) (m : Up) → OneServing p l (answers p d m es) es
  answered d up.IdAsk = inl (tt, tt)
  answered d (up.Fault o) = inl (object_no_grant d (stored p.shape o es))
  answered d (up.Flushed o) = inl tt
  answered d (up.Request k level) = serve_lock k (is_lock l k) refl
  answered d (up.Return k threads) = serve_lock k (is_lock l k) refl
  answered d (up.Commit txn) = inl (
    tt,
    no_grants_append l (changes_of p d txn es) (wakes_of txn (λ l. waiters_of l es))
        (no_grants_each l (λ x. cond (eqb x d) [] (changes_to x (sets_for x txn es))) (clients_of p) (λ x. changes_if (eqb x d) x (sets_for x txn es)))
        (woken_no_grant txn (λ l. waiters_of l es)),
  )

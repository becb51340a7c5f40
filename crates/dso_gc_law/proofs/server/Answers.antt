-- What the messages name that the server sends for a message that it takes.
use Rattle.std.specs.List.{list_any}
use Rattle.std.specs.Prelude.{filter, flat_map}
use Rattle.std.proofs.Common.{ℕ, ◌≡◌, ◌⊎◌, inl, inr, subst, Bool, true, false, cond, not, eqb, ◌&&◌}
use Rattle.std.proofs.Common.{Option, Some, None, List, [], ◌∷◌, ◌++◌, map}
use Rattle.std.proofs.lemmas.Bool.{or_cases}
use Rattle.dso_base.specs.declared.journal.Entry.{Entry}
use Rattle.dso_base.specs.declared.journal.Sent.{Sent}
use Rattle.dso_base.specs.declared.journal.Sent.TheVariants.{ToClient}
use Rattle.dso_base.specs.declared.lock.LockName.{LockName}
use Rattle.dso_base.specs.declared.lock.ThreadId.{ThreadId}
use Rattle.dso_base.specs.declared.message.Down.TheVariants as down
use Rattle.dso_base.specs.declared.message.Up.{Up}
use Rattle.dso_base.specs.declared.message.Up.TheVariants as up
use Rattle.dso_base.specs.declared.record.Body.{Body}
use Rattle.dso_base.specs.declared.record.Ending.{Ending}
use Rattle.dso_base.specs.declared.record.Ending.TheVariants as ending
use Rattle.dso_base.specs.declared.record.Note.{Note}
use Rattle.dso_base.specs.declared.record.Set.{Set}
use Rattle.dso_base.specs.declared.record.Txn.{Txn}
use Rattle.dso_base.specs.Block.{body_names, has_reference}
use Rattle.dso_base.specs.Following.{is_thread}
use Rattle.dso_base.specs.Naming.{ending_names, lock_names, note_names, record_names}
use Rattle.dso_base.specs.Naming.{set_names, up_names}
use Rattle.dso_plain.proofs.keys.SameKeys.{number_self}
use Rattle.dso_lookup.proofs.Tests.{left_holds, right_holds}
use Rattle.dso_law.specs.Settings.{Settings, clients_of}
use Rattle.dso_law.specs.Granting.{Waiter, LeaseTable, queue_of, with_grant, is_against, recalls, serve_queue, serves}
use Rattle.dso_law.specs.Granting.{leases_so_far}
use Rattle.dso_law.specs.ServerReadings.{next_batch}
use Rattle.dso_law.specs.ServerStep.{object_to, sets_for, changes_to, changes_of, answers}
use Rattle.dso_law.specs.ServerWaiters.{waiters_of, waiters_woken, lists_after, lists_noted, wake_each, wakes}
use Rattle.dso_law.specs.ServerWaiters.{wakes_timed_out, wakes_of}
use Rattle.dso_law.specs.Store.{stored}
use Rattle.dso_legal.proofs.objects.ResidentServer.{IsOf, stored_is_of}
use Rattle.dso_legal.proofs.objects.SetsOfFields.{has_filtered}
use Rattle.dso_gc_law.specs.Garbage.{sent_names}
use Rattle.dso_gc_law.proofs.server.Bodies.{of_sets, of_notes, of_ending}

module _ (o : ℕ) where
  -- the messages name the object only where something is so
  abbrev pub NamesOnlyIf : Type 0 → List Sent → Type 0
  NamesOnlyIf So sent = list_any (λ m. sent_names m o) sent ≡ true → So

  module _ {So : Type 0} where
    pub none : NamesOnlyIf So []
    none e = absurd (cc e)

    pub one_more : (m : Sent) (sent : List Sent) → (sent_names m o ≡ true → So) → NamesOnlyIf So sent
        → NamesOnlyIf So (m ∷ sent)
    one_more m sent first rest e = elim (or_cases (sent_names m o) (list_any (λ m. sent_names m o) sent) e) [
      | inl here ↦ first here
      | inr later ↦ rest later
    ]

    pub one_alone : (m : Sent) → (sent_names m o ≡ true → So) → NamesOnlyIf So (m ∷ [])
    one_alone m it = one_more m [] it none

    pub all_behind : (xs ys : List Sent) → NamesOnlyIf So xs → NamesOnlyIf So ys → NamesOnlyIf So (xs ++ ys)
    all_behind [] ys first rest = rest
    all_behind (x ∷ xs) ys first rest = one_more x (xs ++ ys)
        (λ e. first (left_holds (sent_names x o) (list_any (λ m. sent_names m o) xs) e))
        (all_behind xs ys (λ e. first (right_holds (sent_names x o) (list_any (λ m. sent_names m o) xs) e)) rest)

    pub all_flat : {X : Type 0} (f : X → List Sent) (xs : List X) → ((x : X) → NamesOnlyIf So (f x))
        → NamesOnlyIf So (flat_map f xs)
    all_flat f [] each = none
    all_flat f (x ∷ xs) each = all_behind (f x) (flat_map f xs) (each x) (all_flat f xs each)

    pub all_mapped : {X : Type 0} (f : X → Sent) (xs : List X) → ((x : X) → sent_names (f x) o ≡ true → So)
        → NamesOnlyIf So (map f xs)
    all_mapped f [] each = none
    all_mapped f (x ∷ xs) each = one_more (f x) (map f xs) (each x) (all_mapped f xs each)

  -- ---- serving a lock names that lock alone

  module _ (p : Settings) (l : LockName) where
    recalls_name : (waiter : Waiter) (s : LeaseTable) → NamesOnlyIf (lock_names l o ≡ true) (recalls p l waiter s)
    recalls_name waiter s = all_mapped (λ c. ToClient c (down.Recall l))
        (filter (λ d. is_against waiter s d && not (s.recalled d)) (clients_of p)) (λ c e. e)

    served : (queue : List Waiter) (s : LeaseTable) → NamesOnlyIf (lock_names l o ≡ true) (serve_queue p l queue s)
    served [] s = none
    served (waiter ∷ queue) s = by (list_any (is_against waiter s) (clients_of p)) (served queue (with_grant waiter s))
      where
        by : (b : Bool) → NamesOnlyIf (lock_names l o ≡ true) (serve_queue p l queue (with_grant waiter s))
            → NamesOnlyIf (lock_names l o ≡ true) (cond b (recalls p l waiter s)
            (ToClient waiter.client (down.Grant l waiter.level) ∷ serve_queue p l queue (with_grant waiter s)))
        by true rest = recalls_name waiter s
        by false rest = one_more (ToClient waiter.client (down.Grant l waiter.level))
            (serve_queue p l queue (with_grant waiter s)) (λ e. e) rest

    pub serves_name : (es : List Entry) → NamesOnlyIf (lock_names l o ≡ true) (serves p l es)
    serves_name es = served (queue_of l es) (leases_so_far l es)

  -- ---- a record

  -- changes name what its sets do
  change_names : (d : ℕ) (sets : List Set)
      → NamesOnlyIf (list_any (λ set. set_names set o) sets ≡ true) (changes_to d sets)
  change_names d [] = none
  change_names d (set ∷ sets) = one_alone (ToClient d (down.Changes (set ∷ sets))) (λ e. e)

  changes_name : (p : Settings) (c : ℕ) (txn : Txn) (es : List Entry)
      → NamesOnlyIf (record_names txn o ≡ true) (changes_of p c txn es)
  changes_name p c txn es = all_flat (λ d. cond (eqb d c) [] (changes_to d (sets_for d txn es))) (clients_of p) each
    where
      by : (d : ℕ) (b : Bool) → NamesOnlyIf (record_names txn o ≡ true) (cond b [] (changes_to d (sets_for d txn es)))
      by d true = none
      by d false = λ e. of_sets o txn
          (has_filtered (λ set. set_names set o) _ txn.sets (change_names d (sets_for d txn es) e))

      each : (d : ℕ) → NamesOnlyIf (record_names txn o ≡ true) (cond (eqb d c) [] (changes_to d (sets_for d txn es)))
      each d = by d (eqb d c)

  -- wakings name the lock
  woken_names : (l : LockName) (threads : List ThreadId) → NamesOnlyIf (lock_names l o ≡ true) (wake_each l threads)
  woken_names l threads = all_mapped (λ (t : ThreadId). ToClient t.client (down.Wake l t)) threads (λ t e. e)

  -- of a notification,
  notes_name : (notes : List Note) (lists : LockName → List ThreadId)
      → NamesOnlyIf (list_any (λ note. note_names note o) notes ≡ true) (wakes notes lists)
  notes_name [] lists = none
  notes_name (note ∷ notes) lists =
      let rest : Bool = list_any (λ note. note_names note o) notes in
      let later : LockName → List ThreadId = lists_after note.lock note.choice lists in
      let woken : List ThreadId = waiters_woken note.choice (lists note.lock) in
      all_behind (wake_each note.lock woken) (wakes notes later)
      (λ e. left_holds (note_names note o) rest (woken_names note.lock woken e))
      (λ e. right_holds (note_names note o) rest (notes_name notes later e))

  -- or of the timeout with which it ended
  timeout_names : (t : ThreadId) (end : Ending) (lists : LockName → List ThreadId)
      → NamesOnlyIf (ending_names end o ≡ true) (wakes_timed_out t end lists)
  timeout_names t (ending.Exit l) lists = none
  timeout_names t (ending.Wait l) lists = none
  timeout_names t (ending.End fault) lists = none
  timeout_names t (ending.Timeout l) lists = by (list_any (is_thread t) (lists l))
    where
      by : (b : Bool) → NamesOnlyIf (lock_names l o ≡ true) (cond b (wake_each l (t ∷ [])) [])
      by true = woken_names l (t ∷ [])
      by false = none

  wakes_name : (txn : Txn) (lists : LockName → List ThreadId)
      → NamesOnlyIf (record_names txn o ≡ true) (wakes_of txn lists)
  wakes_name txn lists =
      let noted : LockName → List ThreadId = lists_noted txn.notes lists in
      all_behind (wakes txn.notes lists) (wakes_timed_out txn.thread txn.ending noted)
      (λ e. of_notes o txn (notes_name txn.notes lists e))
      (λ e. of_ending o txn (timeout_names txn.thread txn.ending noted e))

  -- ---- any message

  -- the message names the object, or it names one whose body at the server does
  abbrev pub IsAnswered : Settings → Up → List Entry → Type 0
  IsAnswered p m es = (up_names m o ≡ true)
      ⊎ ((x : ℕ) × (up_names m x ≡ true) × (body_names (stored p.shape x es) o ≡ true))

  -- an object's own number, and its values
  object_names : (c x : ℕ) (body : Option Body) → IsOf x body
      → NamesOnlyIf ((eqb x o ≡ true) ⊎ (body_names body o ≡ true)) (object_to c body)
  object_names c x None its = none
  object_names c x (Some body) its = one_alone (ToClient c (down.Object body)) (λ e.
      elim (or_cases (eqb body.object o) (has_reference o body.values) e) [
        | inl number ↦ inl (subst (λ n. eqb n o ≡ true) its number)
        | inr values ↦ inr values
      ])

  -- What the server sends for a message names only that.
  pub answers_name : (p : Settings) (c : ℕ) (m : Up) (es : List Entry)
      → NamesOnlyIf (IsAnswered p m es) (answers p c m es)
  answers_name p c up.IdAsk es = one_alone (ToClient c (down.Ids (next_batch es))) (λ e. absurd (cc e))
  answers_name p c (up.Fault x) es = λ e. elim (object_names c x (stored p.shape x es) (stored_is_of p.shape x es) e) [
    | inl number ↦ inl number
    | inr values ↦ inr (x, number_self x, values)
  ]
  answers_name p c (up.Flushed x) es = none
  answers_name p c (up.Request l level) es = λ e. inl (serves_name p l es e)
  answers_name p c (up.Return l threads) es = λ e. inl (serves_name p l es e)
  answers_name p c (up.Commit txn) es =
      let changes : List Sent = changes_of p c txn es in
      let woken : List Sent = wakes_of txn (λ l. waiters_of l es) in
      one_more (ToClient c (down.Ack txn.seq)) (changes ++ woken) (λ e. absurd (cc e))
      (all_behind changes woken (λ e. inl (changes_name p c txn es e))
      (λ e. inl (wakes_name txn (λ l. waiters_of l es) e)))

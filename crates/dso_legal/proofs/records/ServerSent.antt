-- What a server's entry sends, cut into its parts: the reply to the message that it took, and grants, recalls, changes and
-- wakings.
use Rattle.std.specs.List.{list_any}
use Rattle.std.proofs.Common.{ℕ, ◌≡◌, refl, sym, ◌∙◌, ap, subst, Bool, true, false, cond, eqb, Option, Some, None, List, [], ◌∷◌, ◌++◌, map}
use Rattle.std.specs.Prelude.{flat_map}
use Rattle.dso_base.specs.declared.journal.Entry.{Entry}
use Rattle.dso_base.specs.declared.journal.Input.{Input}
use Rattle.dso_base.specs.declared.journal.Input.TheVariants as input
use Rattle.dso_base.specs.declared.journal.Sent.{Sent}
use Rattle.dso_base.specs.declared.journal.Sent.TheVariants.{ToServer, ToClient}
use Rattle.dso_base.specs.declared.lock.LockName.{LockName}
use Rattle.dso_base.specs.declared.lock.ThreadId.{ThreadId}
use Rattle.dso_base.specs.declared.message.Down.{Down}
use Rattle.dso_base.specs.declared.message.Down.TheVariants as down
use Rattle.dso_base.specs.declared.message.Up.{Up}
use Rattle.dso_base.specs.declared.message.Up.TheVariants as up
use Rattle.dso_base.specs.declared.record.Note.{Note}
use Rattle.dso_base.specs.declared.record.Set.{Set}
use Rattle.dso_base.specs.declared.record.Ending.{Ending}
use Rattle.dso_base.specs.declared.record.Ending.TheVariants as ending
use Rattle.dso_base.specs.declared.record.Txn.{Txn}
use Rattle.dso_base.specs.Following.{is_thread}
use Rattle.dso_law.specs.Settings.{Settings, clients_of}
use Rattle.dso_law.specs.Entries.{unsent}
use Rattle.dso_law.specs.FitsUp.{FitsUp}
use Rattle.dso_law.specs.ServerReadings.{is_lost, is_of_lost, counted, next_batch}
use Rattle.dso_law.specs.Granting.{Waiter, LeaseTable, queue_of, with_grant, is_against, recalls, serve_queue, serves, serves_all, leases_so_far, requested}
use Rattle.dso_law.specs.Store.{stored}
use Rattle.dso_law.specs.ServerWaiters.{waiters_of, waiters_woken, lists_after, lists_noted, wake_each, wakes, wakes_timed_out, wakes_of}
use Rattle.dso_law.specs.ServerStep.{object_to, sets_for, changes_to, changes_of, answers, HeardOrLost, ServerStepOn, ServerStep}
use Rattle.dso_legal.proofs.channels.Agreement.{AllDeaf, IsDeaf, more_deaf}
use Rattle.dso_legal.proofs.leases.LeaseSteps.{no_both}
use Rattle.dso_legal.proofs.channels.InFlight.{told_to}

-- the claim for each message to a client
abbrev pub EachTold : (Down → Type 0) → List Sent → Type 0
EachTold P [] = Unit {0}
EachTold P (ToServer m ∷ out) = EachTold P out
EachTold P (ToClient c m ∷ out) = P m × EachTold P out

module _ (P : Down → Type 0) where
  pub told_each_append : (xs ys : List Sent) → EachTold P xs → EachTold P ys → EachTold P (xs ++ ys)
  told_each_append [] ys h k = k
  told_each_append (ToServer m ∷ xs) ys h k = told_each_append xs ys h k
  told_each_append (ToClient c m ∷ xs) ys h k = (h.0, told_each_append xs ys h.1 k)

  pub told_each_flat : {X : Type 0} (f : X → List Sent) (xs : List X) → ((x : X) → EachTold P (f x)) → EachTold P (flat_map f xs)
  told_each_flat f [] h = tt
  told_each_flat f (x ∷ xs) h = told_each_append (f x) (flat_map f xs) (h x) (told_each_flat f xs h)

  pub told_each_map : {X : Type 0} (to : X → ℕ) (m : X → Down) (xs : List X) → ((x : X) → P (m x)) → EachTold P (map (λ x. ToClient (to x) (m x)) xs)
  told_each_map to m [] h = tt
  told_each_map to m (x ∷ xs) h = (h x, told_each_map to m xs h)

  -- where each waking passes, so do all wakings of a record: those of its notifications,
  module _ (woken : (l : LockName) (t : ThreadId) → P (down.Wake l t)) where
    each_noted : (notes : List Note) (lists : LockName → List ThreadId) → EachTold P (wakes notes lists)
    each_noted [] lists = tt
    each_noted (note ∷ notes) lists = told_each_append (wake_each note.lock (waiters_woken note.choice (lists note.lock))) (wakes notes (lists_after note.lock note.choice lists))
        (told_each_map (λ (t : ThreadId). t.client) (λ t. down.Wake note.lock t) (waiters_woken note.choice (lists note.lock)) (λ t. woken note.lock t))
        (each_noted notes (lists_after note.lock note.choice lists))

    -- that of its timeout,
    each_timed_out : (t : ThreadId) (end : Ending) (lists : LockName → List ThreadId) → EachTold P (wakes_timed_out t end lists)
    each_timed_out t (ending.Exit l) lists = tt
    each_timed_out t (ending.Wait l) lists = tt
    each_timed_out t (ending.End fault) lists = tt
    each_timed_out t (ending.Timeout l) lists = by (list_any (is_thread t) (lists l))
      where
        by : (b : Bool) → EachTold P (cond b (wake_each l (t ∷ [])) [])
        by true = (woken l t, tt)
        by false = tt

    -- and both.
    pub each_woken : (txn : Txn) (lists : LockName → List ThreadId) → EachTold P (wakes_of txn lists)
    each_woken txn lists = told_each_append (wakes txn.notes lists) (wakes_timed_out txn.thread txn.ending (lists_noted txn.notes lists)) (each_noted txn.notes lists)
        (each_timed_out txn.thread txn.ending (lists_noted txn.notes lists))

-- where each is deaf, all to a client are
pub told_each_deaf : {S : Type 0} (may : Down → S → Type 0) (step : Down → S → S) (c : ℕ) (out : List Sent) → EachTold (IsDeaf may step) out → AllDeaf may step (told_to c out)
told_each_deaf may step c [] h = record { comes = λ s. tt; stays = λ s. refl }
told_each_deaf may step c (ToServer m ∷ out) h = told_each_deaf may step c out h
told_each_deaf may step c (ToClient d m ∷ out) h = by (eqb c d) (told_each_deaf may step c out h.1)
  where
    by : (b : Bool) → AllDeaf may step (told_to c out) → AllDeaf may step (cond b (m ∷ told_to c out) (told_to c out))
    by true later = more_deaf may step m (told_to c out) h.0 later
    by false later = later

-- one claim for another
pub told_each_so : (P Q : Down → Type 0) → ((m : Down) → P m → Q m) → (out : List Sent) → EachTold P out → EachTold Q out
told_each_so P Q so [] h = tt
told_each_so P Q so (ToServer m ∷ out) h = told_each_so P Q so out h
told_each_so P Q so (ToClient c m ∷ out) h = (so m h.0, told_each_so P Q so out h.1)

-- the message is no reply to the message taken
abbrev pub IsNoReply : Down → Type 0
IsNoReply (down.Ids first) = ⊥
IsNoReply (down.Object body) = ⊥
IsNoReply (down.Ack seq) = ⊥
IsNoReply m = Unit {0}

-- the reply to a message: ids, the object, or the acknowledgement
abbrev pub reply_to : Settings → ℕ → Up → List Entry → List Sent
reply_to p c up.IdAsk es = ToClient c (down.Ids (next_batch es)) ∷ []
reply_to p c (up.Fault o) es = object_to c (stored p.shape o es)
reply_to p c (up.Commit txn) es = ToClient c (down.Ack txn.seq) ∷ []
reply_to p c m es = []

-- the reply to what the server takes in
abbrev pub reply_on : Settings → Input → List Entry → List Sent
reply_on p (input.TookUp c m) es = reply_to p c m es
reply_on p other es = []

-- what it takes in fits, where it is a message
abbrev pub FitsInput : Settings → Input → List Entry → Type 0
FitsInput p (input.TookUp c m) es = (FitsUp p c m es) × (list_any (eqb c) (clients_of p) ≡ true)
FitsInput p other es = Unit {0}

-- What a server's entry that counts sends; the entries are those that count.
pub record ServerSent (p : Settings) (e : Entry) (es : List Entry) : Type 0 where
  pub others : List Sent
  pub whole : e.sent ≡ reply_on p e.input (unsent e ∷ es) ++ others
  pub no_replies : EachTold IsNoReply others
  pub fits : FitsInput p e.input es

module _ (p : Settings) where
  recalls_no_reply : (l : LockName) (waiter : Waiter) (served : LeaseTable) → EachTold IsNoReply (recalls p l waiter served)
  recalls_no_reply l waiter served = told_each_map IsNoReply (λ d. d) (λ d. down.Recall l) _ (λ d. tt)

  serve_one : (b : Bool) (l : LockName) (waiter : Waiter) (served : LeaseTable) (rest : List Sent) → EachTold IsNoReply rest → EachTold IsNoReply (cond b (recalls p l waiter served) (ToClient waiter.client (down.Grant l waiter.level) ∷ rest))
  serve_one true l waiter served rest h = recalls_no_reply l waiter served
  serve_one false l waiter served rest h = (tt, h)

  serve_no_reply : (l : LockName) (queue : List Waiter) (served : LeaseTable) → EachTold IsNoReply (serve_queue p l queue served)
  serve_no_reply l [] served = tt
  serve_no_reply l (waiter ∷ queue) served = serve_one (list_any (is_against waiter served) (clients_of p)) l waiter served (serve_queue p l queue (with_grant waiter served)) (serve_no_reply l queue (with_grant waiter served))

  changes_no_reply : (d : ℕ) (sets : List Set) → EachTold IsNoReply (changes_to d sets)
  changes_no_reply d [] = tt
  changes_no_reply d (set ∷ sets) = (tt, tt)

  changes_if : (b : Bool) (d : ℕ) (sets : List Set) → EachTold IsNoReply (cond b [] (changes_to d sets))
  changes_if true d sets = tt
  changes_if false d sets = changes_no_reply d sets

  -- the answer to a message
  record Answered (c : ℕ) (m : Up) (es : List Entry) : Type 0 where
    others : List Sent
    whole : answers p c m es ≡ reply_to p c m es ++ others
    no_replies : EachTold IsNoReply others

  -- an object is all that is sent
  object_alone : (c : ℕ) (body : Option _) → object_to c body ≡ object_to c body ++ []
  object_alone c None = refl
  object_alone c (Some body) = refl

  answered : (c : ℕ) (m : Up) (es : List Entry) → Answered c m es
  answered c up.IdAsk es = record { others = []; whole = refl; no_replies = tt }
  answered c (up.Fault o) es = record { others = []; whole = object_alone c (stored p.shape o es); no_replies = tt }
  answered c (up.Flushed o) es = record { others = []; whole = refl; no_replies = tt }
  answered c (up.Request l level) es = record { others = serves p l es; whole = refl; no_replies = serve_no_reply l (queue_of l es) (leases_so_far l es) }
  answered c (up.Return l threads) es = record { others = serves p l es; whole = refl; no_replies = serve_no_reply l (queue_of l es) (leases_so_far l es) }
  answered c (up.Commit txn) es = record {
    others = changes_of p c txn es ++ wakes_of txn (λ l. waiters_of l es);
    whole = refl;
    no_replies = told_each_append IsNoReply (changes_of p c txn es) (wakes_of txn (λ l. waiters_of l es))
        (told_each_flat IsNoReply (λ x. cond (eqb x c) [] (changes_to x (sets_for x txn es))) (clients_of p) (λ x. changes_if (eqb x c) x (sets_for x txn es)))
        (each_woken IsNoReply (λ l t. tt) txn (λ l. waiters_of l es));
  }

  module _ (e : Entry) (es : List Entry) where
    sent_heard : (c : ℕ) (m : Up) (b : Bool) → e.input ≡ input.TookUp c m → is_lost c es ≡ b → is_of_lost e.input es ≡ false → list_any (eqb c) (clients_of p) ≡ true → HeardOrLost p c m b e (counted es) → ServerSent p e (counted es)
    sent_heard c m true is lost counts its h = no_both (is_lost c es) lost (ap (λ i. is_of_lost i es) (sym is) ∙ counts)
    sent_heard c m false is lost counts its h =
        let a = answered c m (unsent e ∷ counted es) in
        record {
          others = a.others;
          whole = h.sends ∙ a.whole ∙ ap (λ i. reply_on p i (unsent e ∷ counted es) ++ a.others) (sym is);
          no_replies = a.no_replies;
          fits = subst (λ i. FitsInput p i (counted es)) (sym is) (h.fits, its);
        }

    sent_by : (i : Input) → e.input ≡ i → is_of_lost e.input es ≡ false → ServerStepOn p i e es → ServerSent p e (counted es)
    sent_by (input.TookUp c m) is counts h = sent_heard c m (is_lost c es) is refl counts h.its h.heard
    sent_by (input.Lose c) is counts h = record {
      others = serves_all p (unsent e ∷ counted es);
      whole = h.sends ∙ ap (λ i. reply_on p i (unsent e ∷ counted es) ++ serves_all p (unsent e ∷ counted es)) (sym is);
      no_replies = told_each_flat IsNoReply (λ l. serves p l (unsent e ∷ counted es)) (requested (unsent e ∷ counted es))
          (λ l. serve_no_reply l (queue_of l (unsent e ∷ counted es)) (leases_so_far l (unsent e ∷ counted es)));
      fits = subst (λ i. FitsInput p i (counted es)) (sym is) tt;
    }
    sent_by (input.Break c) is counts h = record { others = []; whole = h.sends ∙ ap (λ i. reply_on p i (unsent e ∷ counted es) ++ []) (sym is); no_replies = tt; fits = subst (λ i. FitsInput p i (counted es)) (sym is) tt }
    sent_by (input.Rejoin c) is counts h = record { others = []; whole = h.sends ∙ ap (λ i. reply_on p i (unsent e ∷ counted es) ++ []) (sym is); no_replies = tt; fits = subst (λ i. FitsInput p i (counted es)) (sym is) tt }
    sent_by other is counts h = absurd h

    -- What the server's entry sends, where it counts.
    pub server_sent : ServerStep p e es → is_of_lost e.input es ≡ false → ServerSent p e (counted es)
    server_sent h counts = sent_by e.input refl counts h

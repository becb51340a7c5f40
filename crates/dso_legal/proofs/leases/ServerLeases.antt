-- What a server's entry tells a client of a lock may come where the lock stands with the client.
use Rattle.std.specs.List.{list_any}
use Rattle.std.proofs.Common.{ℕ, suc, ◌≡◌, ◌⊎◌, inl, inr, refl, sym, ◌∙◌, ap, subst, Bool, true, false, cond, eqb, None, List, [], ◌∷◌, ◌++◌}
use Rattle.dso_base.specs.declared.journal.Entry.{Entry}
use Rattle.dso_base.specs.declared.journal.Input.{Input}
use Rattle.dso_base.specs.declared.journal.Input.TheVariants as input
use Rattle.dso_base.specs.declared.journal.Sent.{Sent}
use Rattle.dso_base.specs.declared.lock.Level.{Level}
use Rattle.dso_base.specs.declared.lock.LockName.{LockName}
use Rattle.dso_base.specs.declared.message.Up.{Up}
use Rattle.dso_base.specs.declared.message.Up.TheVariants as up
use Rattle.dso_plain.specs.KeyTests.{is_lock}
use Rattle.dso_plain.proofs.keys.SameKeys.{same_number, same_lock, number_self}
use Rattle.dso_law.specs.Settings.{Settings}
use Rattle.dso_law.specs.Entries.{unsent, by_sent_down}
use Rattle.dso_law.specs.FitsUp.{FitsUp}
use Rattle.dso_law.specs.Leases.{idle, standing_down}
use Rattle.dso_law.specs.ServerReadings.{is_lost, is_of_lost, counted}
use Rattle.dso_law.specs.Granting.{Waiter, without_client, queue_by, queue_by_sent, queue_of, standing_by, standing_with, serves, serves_all, leases_so_far}
use Rattle.dso_law.specs.ServerStep.{answers, HeardOrLost, ServerStepOn, ServerStep}
use Rattle.dso_legal.specs.Agreement.{after}
use Rattle.dso_legal.proofs.leases.LeaseSteps.{unless_true, if_true, no_both}
use Rattle.dso_legal.proofs.leases.ClientLeases.{neither}
use Rattle.dso_legal.proofs.leases.Queues.{queued, Queued, queued_append, queued_without, MayTell, tells_no_grant, tells_append, no_grants_first, serve_tells}
use Rattle.dso_legal.proofs.leases.Granting.{OneServing, all_served, answered}
use Rattle.dso_legal.proofs.channels.InFlight.{told_to, told_status}

-- Of every lock and client the queue and how the lock stands agree; the entries are those that count.
abbrev pub AllQueued : List Entry → Type 0
AllQueued es = (c : ℕ) (l : LockName) → Queued c (queue_of l es) (standing_with c l es)

-- the queue of a lock after an input, and how the lock then stands
abbrev pub QueuedBy : ℕ → LockName → Input → List Entry → Type 0
QueuedBy c l input es = Queued c (queue_by l input (queue_of l es)) (standing_by c l input (standing_with c l es))

-- who isn't in the queue stands there no time
not_queued : (c : ℕ) (queue : List Waiter) → list_any (λ waiter. eqb waiter.client c) queue ≡ false → queued c queue ≡ 0
not_queued c [] e = refl
not_queued c (waiter ∷ queue) e =
    let no = neither (eqb waiter.client c) (list_any (λ waiter. eqb waiter.client c) queue) e in
    by (eqb c waiter.client) refl no.0 (not_queued c queue no.1)
  where
    by : (b : Bool) → eqb c waiter.client ≡ b → eqb waiter.client c ≡ false → queued c queue ≡ 0 → cond b (suc (queued c queue)) (queued c queue) ≡ 0
    by true f isnt h = no_both (eqb c c) (number_self c) (subst (λ n. eqb n c ≡ false) (sym (same_number c waiter.client f)) isnt)
    by false f isnt h = h

-- a choice between a thing and itself
pub same_either : {X : Type 0} (b : Bool) (x : X) → cond b x x ≡ x
same_either true x = refl
same_either false x = refl

module _ (c d : ℕ) (l : LockName) (es : List Entry) where
  -- a request that fits
  heard_request : (k : LockName) (level : Level) (a b : Bool) → is_lock l k ≡ a → eqb c d ≡ b → Queued c (queue_of l es) (standing_with c l es)
      → (a ≡ true → b ≡ true → ((standing_with c l es).lease ≡ None) × (queued c (queue_of l es) ≡ 0))
      → Queued c (cond a (queue_of l es ++ record { client = d; level = level } ∷ []) (queue_of l es)) (cond b (cond a (record (standing_with c l es) { is_asked = true }) (standing_with c l es)) (standing_with c l es))
  heard_request k level false b f g q fits = subst (λ s. Queued c (queue_of l es) s) (sym (same_either b (standing_with c l es))) q
  heard_request k level true true f g q fits = record {
    count = queued_append c (queue_of l es) (record { client = d; level = level }) ∙ if_true (eqb c d) _ _ g ∙ ap suc (fits refl refl).1;
    plain = λ e. (fits refl refl).0;
  }
  heard_request k level true false f g q fits = record {
    count = queued_append c (queue_of l es) (record { client = d; level = level }) ∙ unless_true (eqb c d) _ _ g ∙ q.count;
    plain = q.plain;
  }

  -- a return
  heard_return : (a b : Bool) → Queued c (queue_of l es) (standing_with c l es)
      → Queued c (queue_of l es) (cond b (cond a (record (standing_with c l es) { lease = None }) (standing_with c l es)) (standing_with c l es))
  heard_return true true q = record { count = q.count; plain = λ e. refl }
  heard_return false true q = q
  heard_return a false q = q

  -- a message of client d that fits
  heard : (p : Settings) (m : Up) → FitsUp p d m es → Queued c (queue_of l es) (standing_with c l es) → QueuedBy c l (input.TookUp d m) es
  heard p (up.Request k level) fits q = heard_request k level (is_lock l k) (eqb c d) refl refl q (λ e f. (
    subst (λ n. (standing_with n l es).lease ≡ None) (sym (same_number c d f)) (subst (λ j. (standing_with d j es).lease ≡ None) (same_lock l k e) fits.not_leased),
    subst (λ n. queued n (queue_of l es) ≡ 0) (sym (same_number c d f)) (subst (λ j. queued d (queue_of j es) ≡ 0) (same_lock l k e) (not_queued d (queue_of k es) fits.not_asked)),
  ))
  heard p (up.Return k threads) fits q = heard_return (is_lock l k) (eqb c d) q
  heard p m fits q = subst (λ s. Queued c (queue_of l es) s) (sym (same_either (eqb c d) (standing_with c l es))) q

  -- a loss of client d
  lost_one : (b : Bool) → eqb c d ≡ b → Queued c (queue_of l es) (standing_with c l es) → Queued c (without_client d (queue_of l es)) (cond b idle (standing_with c l es))
  lost_one true e q = record { count = queued_without c d (queue_of l es) ∙ if_true (eqb c d) 0 (queued c (queue_of l es)) e; plain = λ e. refl }
  lost_one false e q = record { count = queued_without c d (queue_of l es) ∙ unless_true (eqb c d) 0 (queued c (queue_of l es)) e ∙ q.count; plain = q.plain }

-- what serving a lock once tells may come
pub tells_one : (p : Settings) (c : ℕ) (l : LockName) (out : List Sent) (es : List Entry) → OneServing p l out es → Queued c (queue_of l es) (standing_with c l es) → MayTell c l out (queue_of l es) (standing_with c l es)
tells_one p c l out es (inl none) q = tells_no_grant c l out (queue_of l es) (standing_with c l es) none q
tells_one p c l out es (inr once) q =
    let served = serve_tells p l c (queue_of l es) (queue_of l es) (leases_so_far l es) (standing_with c l es) q.count q in
    subst (λ out. MayTell c l out (queue_of l es) (standing_with c l es)) (sym once.whole)
    (no_grants_first c l once.front (serves p l es ++ once.behind) (queue_of l es) (standing_with c l es) once.none_in_front
    (tells_append c l (serves p l es) once.behind (queue_of l es) (standing_with c l es) served.comes
    (tells_no_grant c l once.behind (by_sent_down (queue_by_sent l) (serves p l es) (queue_of l es)) (after (standing_down l) (told_to c (serves p l es)) (standing_with c l es)) once.none_behind served.queued)))

-- What a server's entry does, after its entries es: a message of a lost client changes and sends nothing; else its input
-- keeps the queues, and of each lock it grants what serving the lock once grants.
pub record Tells (p : Settings) (e : Entry) (es : List Entry) : Type 0 where
  pub kept : (c : ℕ) (l : LockName) → QueuedBy c l e.input es
  pub serving : (l : LockName) → OneServing p l e.sent (unsent e ∷ es)

pub record IsSkipped (e : Entry) (es : List Entry) : Type 0 where
  pub skipped : is_of_lost e.input es ≡ true
  pub silent : e.sent ≡ []

pub record IsCounted (p : Settings) (e : Entry) (es : List Entry) : Type 0 where
  pub counts : is_of_lost e.input es ≡ false
  pub tells : Tells p e (counted es)

module _ (p : Settings) (e : Entry) (es : List Entry) (all : AllQueued (counted es)) where
  -- where the input keeps the queues, and what is sent serves each lock once
  tells : (out : List Sent) → e.sent ≡ out → ((c : ℕ) (l : LockName) → QueuedBy c l e.input (counted es)) → ((l : LockName) → OneServing p l out (unsent e ∷ counted es)) → Tells p e (counted es)
  tells out sent kept serving = record { kept = kept; serving = λ l. subst (λ out. OneServing p l out (unsent e ∷ counted es)) (sym sent) (serving l) }

  heard_or_lost : (d : ℕ) (m : Up) (b : Bool) → e.input ≡ input.TookUp d m → is_lost d es ≡ b → HeardOrLost p d m b e (counted es) → IsSkipped e es ⊎ IsCounted p e es
  heard_or_lost d m true is lost h = inl (record { skipped = ap (λ i. is_of_lost i es) is ∙ lost; silent = h })
  heard_or_lost d m false is lost h = inr (record {
    counts = ap (λ i. is_of_lost i es) is ∙ lost;
    tells = tells (answers p d m (unsent e ∷ counted es)) h.sends
        (λ c l. subst (λ i. QueuedBy c l i (counted es)) (sym is) (heard c d l (counted es) p m h.fits (all c l)))
        (λ l. answered p l (unsent e ∷ counted es) d m);
  })

  quiet : (input : Input) → e.input ≡ input → is_of_lost input es ≡ false → e.sent ≡ [] → ((c : ℕ) (l : LockName) → QueuedBy c l input (counted es)) → IsSkipped e es ⊎ IsCounted p e es
  quiet input is counts silent kept = inr (record {
    counts = ap (λ i. is_of_lost i es) is ∙ counts;
    tells = tells [] silent (λ c l. subst (λ i. QueuedBy c l i (counted es)) (sym is) (kept c l))
        (λ l. inl tt);
  })

  by_input : (input : Input) → e.input ≡ input → ServerStepOn p input e es → IsSkipped e es ⊎ IsCounted p e es
  by_input (input.TookUp d m) is h = heard_or_lost d m (is_lost d es) is refl h.heard
  by_input (input.Lose d) is h = inr (record {
    counts = ap (λ i. is_of_lost i es) is;
    tells = tells (serves_all p (unsent e ∷ counted es)) h.sends
        (λ c l. subst (λ i. QueuedBy c l i (counted es)) (sym is) (lost_one c d l (counted es) (eqb c d) refl (all c l)))
        (λ l. all_served p l (unsent e ∷ counted es));
  })
  by_input (input.Break d) is h = quiet (input.Break d) is refl h.sends (λ c l. all c l)
  by_input (input.Rejoin d) is h = quiet (input.Rejoin d) is refl h.sends (λ c l. all c l)
  by_input other is h = absurd h

  -- What the server's entry does.
  pub server_does : ServerStep p e es → IsSkipped e es ⊎ IsCounted p e es
  server_does h = by_input e.input refl h

-- how the lock stands after what is told
pub standing_after_told : (c : ℕ) (l : LockName) (e : Entry) (es : List Entry) → standing_with c l (e ∷ es) ≡ after (standing_down l) (told_to c e.sent) (standing_by c l e.input (standing_with c l es))
standing_after_told c l e es = told_status c (standing_down l) e.sent (standing_by c l e.input (standing_with c l es))

-- what is told may come
pub tells_comes : (p : Settings) (c : ℕ) (l : LockName) (e : Entry) (es : List Entry) → Tells p e es → MayTell c l e.sent (queue_by l e.input (queue_of l es)) (standing_by c l e.input (standing_with c l es))
tells_comes p c l e es tells = tells_one p c l e.sent (unsent e ∷ es) (tells.serving l) (tells.kept c l)

-- the queues after an entry of the server
pub queued_after : (p : Settings) (e : Entry) (es : List Entry) → AllQueued (counted es) → ServerStep p e es → AllQueued (counted (e ∷ es))
queued_after p e es all h c l = elim (server_does p e es all h) [
  | inl skip ↦ subst (λ js. Queued c (queue_of l js) (standing_with c l js)) (sym (if_true (is_of_lost e.input es) (counted es) (e ∷ counted es) skip.skipped)) (all c l)
  | inr here ↦ subst (λ js. Queued c (queue_of l js) (standing_with c l js)) (sym (unless_true (is_of_lost e.input es) (counted es) (e ∷ counted es) here.counts))
      (subst (λ s. Queued c (queue_of l (e ∷ counted es)) s) (sym (standing_after_told c l e (counted es))) (tells_comes p c l e (counted es) here.tells).queued)
]

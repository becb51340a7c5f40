-- What a server's entry tells one client, by what it takes in.
use Rattle.std.specs.List.{list_any, AllByRecursion}
use Rattle.std.proofs.Common.{ℕ, ◌≡◌, refl, sym, ◌∙◌, ap, subst, Bool, true, false, cond, eqb, Option, Some, List, [], ◌∷◌, ◌++◌}
use Rattle.std.specs.Prelude.{filter}
use Rattle.dso_base.specs.declared.journal.Entry.{Entry}
use Rattle.dso_base.specs.declared.journal.Input.{Input}
use Rattle.dso_base.specs.declared.journal.Input.TheVariants as input
use Rattle.dso_base.specs.declared.journal.Node.TheVariants.{Server}
use Rattle.dso_base.specs.declared.journal.Sent.{Sent}
use Rattle.dso_base.specs.declared.journal.Sent.TheVariants.{ToServer, ToClient}
use Rattle.dso_base.specs.declared.lock.LockName.{LockName}
use Rattle.dso_base.specs.declared.lock.ThreadId.{ThreadId}
use Rattle.dso_base.specs.declared.message.Down.{Down}
use Rattle.dso_base.specs.declared.message.Down.TheVariants as down
use Rattle.dso_base.specs.declared.message.Up.{Up}
use Rattle.dso_base.specs.declared.message.Up.TheVariants as up
use Rattle.dso_base.specs.declared.record.Body.{Body}
use Rattle.dso_base.specs.declared.record.Txn.{Txn}
use Rattle.dso_base.specs.declared.request.Event.{Event}
use Rattle.dso_base.specs.declared.request.Request.{Request}
use Rattle.dso_law.specs.Settings.{Settings, clients_of}
use Rattle.dso_law.specs.Entries.{unsent, entries_of}
use Rattle.dso_law.specs.ServerReadings.{is_lost, is_of_lost, counted, next_batch}
use Rattle.dso_law.specs.Granting.{Waiter, LeaseTable, queue_of, with_grant, is_against, recalls, serve_queue, serves, serves_all, leases_so_far, requested}
use Rattle.dso_law.specs.ServerStep.{object_to, sets_for, changes_of, HeardOrLost, HeardStep, ServerStepOn}
use Rattle.dso_law.specs.Store.{held_by, stored, holds_object}
use Rattle.dso_law.specs.ServerWaiters.{waiters_of, wakes_of}
use Rattle.dso_legal.specs.CopiesStand.{speaks_of}
use Rattle.dso_legal.specs.Lawful.{ServerFollows, AllFollow}
use Rattle.dso_legal.proofs.leases.LeaseSteps.{unless_true, if_true}
use Rattle.dso_legal.proofs.objects.ObjectsInFlight.{fault_stores, found}
use Rattle.dso_legal.proofs.objects.ResidentServer.{stored_is_of}
use Rattle.dso_legal.proofs.records.ServerSent.{EachTold, told_each_flat, told_each_map, each_woken}
use Rattle.dso_legal.proofs.copies.ChangesSent.{changes_down, told_of_changes, told_if_client}
use Rattle.dso_legal.proofs.channels.InFlight.{told_to, told_append}

-- a message of a lock's lease
abbrev pub IsOfLease : Down → Type 0
IsOfLease (down.Grant l level) = Unit {0}
IsOfLease (down.Recall l) = Unit {0}
IsOfLease m = ⊥

-- a message that wakes a thread
abbrev pub IsWake : Down → Type 0
IsWake (down.Wake l t) = Unit {0}
IsWake m = ⊥

-- the message speaks of no object
abbrev pub IsSilent : Down → Type 0
IsSilent m = (o : ℕ) → speaks_of o m ≡ false

pub lease_silent : (m : Down) → IsOfLease m → IsSilent m
lease_silent (down.Grant l level) h o = refl
lease_silent (down.Recall l) h o = refl
lease_silent m h o = absurd h

pub wake_silent : (m : Down) → IsWake m → IsSilent m
wake_silent (down.Wake l t) h o = refl
wake_silent m h o = absurd h

-- one claim for another
pub each_so : {P Q : Down → Type 0} → ((m : Down) → P m → Q m) → (ms : List Down) → AllByRecursion P ms → AllByRecursion Q ms
each_so so [] h = tt
each_so so (m ∷ ms) h = (so m h.0, each_so so ms h.1)

-- what holds of each message to a client holds of those to this one
each_told : (P : Down → Type 0) (c : ℕ) (out : List Sent) → EachTold P out → AllByRecursion P (told_to c out)
each_told P c [] h = tt
each_told P c (ToServer m ∷ out) h = each_told P c out h
each_told P c (ToClient d m ∷ out) h = by (eqb c d) (each_told P c out h.1)
  where
    by : (b : Bool) → AllByRecursion P (told_to c out) → AllByRecursion P (cond b (m ∷ told_to c out) (told_to c out))
    by true rest = (h.0, rest)
    by false rest = rest

module _ (p : Settings) where
  -- serving a lock tells of leases
  serve_one : (b : Bool) (l : LockName) (waiter : Waiter) (served : LeaseTable) (rest : List Sent) → EachTold IsOfLease rest → EachTold IsOfLease (cond b (recalls p l waiter served) (ToClient waiter.client (down.Grant l waiter.level) ∷ rest))
  serve_one true l waiter served rest h = told_each_map IsOfLease (λ d. d) (λ d. down.Recall l) _ (λ d. tt)
  serve_one false l waiter served rest h = (tt, h)

  pub serve_each : (l : LockName) (queue : List Waiter) (served : LeaseTable) → EachTold IsOfLease (serve_queue p l queue served)
  serve_each l [] served = tt
  serve_each l (waiter ∷ queue) served = serve_one (list_any (is_against waiter served) (clients_of p)) l waiter served (serve_queue p l queue (with_grant waiter served)) (serve_each l queue (with_grant waiter served))

  serves_told : (c : ℕ) (l : LockName) (es : List Entry) → AllByRecursion IsOfLease (told_to c (serves p l es))
  serves_told c l es = each_told IsOfLease c (serves p l es) (serve_each l (queue_of l es) (leases_so_far l es))

  -- and so does serving all
  pub serves_all_told : (es : List Entry) → EachTold IsOfLease (serves_all p es)
  serves_all_told es = told_each_flat IsOfLease (λ l. serves p l es) (requested es) (λ l. serve_each l (queue_of l es) (leases_so_far l es))

  all_told : (c : ℕ) (es : List Entry) → AllByRecursion IsOfLease (told_to c (serves_all p es))
  all_told c es = each_told IsOfLease c (serves_all p es) (serves_all_told es)

-- For a fault the client itself is told the object as it is stored, no other client anything.
pub record TellsObject (p : Settings) (c d o : ℕ) (server : List Entry) (ms : List Down) : Type 0 where
  pub body : Body
  pub its : body.object ≡ o
  pub is_stored : stored p.shape o server ≡ Some body
  pub tells : ms ≡ cond (eqb c d) (down.Object body ∷ []) []

-- For a record the client itself is told that it was taken, each other one the sets of objects that it holds; and then who is
-- woken.
pub record TellsRecord (c d : ℕ) (txn : Txn) (server : List Entry) (ms : List Down) : Type 0 where
  pub woken : List Down
  pub wake : AllByRecursion IsWake woken
  pub tells : ms ≡ cond (eqb c d) (down.Ack txn.seq ∷ []) (changes_down (sets_for c txn server)) ++ woken

-- What client c is told for a message of client d that isn't lost; the server's entries are those that count, before this one.
abbrev pub IsTold : Settings → ℕ → ℕ → Up → List Entry → List Down → Type 0
IsTold p c d up.IdAsk server ms = ms ≡ cond (eqb c d) (down.Ids (next_batch server) ∷ []) []
IsTold p c d (up.Fault o) server ms = TellsObject p c d o server ms
IsTold p c d (up.Flushed o) server ms = ms ≡ []
IsTold p c d (up.Request l level) server ms = AllByRecursion IsOfLease ms
IsTold p c d (up.Return l threads) server ms = AllByRecursion IsOfLease ms
IsTold p c d (up.Commit txn) server ms = TellsRecord c d txn server ms

-- What it is told for anything that the server takes in: for a message of a lost client nothing, and nothing for a break or a
-- rejoin of a connection; for a loss leases alone.
abbrev pub IsToldOn : Settings → ℕ → Input → Bool → List Entry → List Down → Type 0
IsToldOn p c i true server ms = ms ≡ []
IsToldOn p c (input.TookUp d m) false server ms = IsTold p c d m server ms
IsToldOn p c (input.Lose d) false server ms = AllByRecursion IsOfLease ms
IsToldOn p c other false server ms = ms ≡ []

-- what a client holds is the same with another client's entry in front
other_holds : (c d o : ℕ) (m : Up) (e : Entry) (es : List Entry) → e.input ≡ input.TookUp d m → eqb c d ≡ false → holds_object c o (unsent e ∷ es) ≡ holds_object c o es
other_holds c d o m e es is other = ap (λ i. held_by c o i (holds_object c o es)) is ∙ unless_true (eqb c d) _ (holds_object c o es) other

other_sets : (c d : ℕ) (m : Up) (txn : Txn) (e : Entry) (es : List Entry) → e.input ≡ input.TookUp d m → eqb c d ≡ false → sets_for c txn (unsent e ∷ es) ≡ sets_for c txn es
other_sets c d m txn e es is other = λ i. filter (λ set. other_holds c d set.object m e es is other i) txn.sets

module _ (p : Settings) (next : ThreadId → List Event → Option Request) (c : ℕ) (e : Entry) (es : List Entry) (follow : AllFollow p next es) where
  abbrev server : List Entry
  server = counted (entries_of Server es)

  -- the entry without what it sends, in front
  abbrev now : List Entry
  now = unsent e ∷ server

  -- the changes alone
  changes_told : (d : ℕ) (txn : Txn) (b : Bool) → eqb c d ≡ b → e.input ≡ input.TookUp d (up.Commit txn)
      → cond b (down.Ack txn.seq ∷ told_to c (changes_of p d txn now)) (told_to c (changes_of p d txn now)) ≡ cond b (down.Ack txn.seq ∷ []) (changes_down (sets_for c txn server))
  changes_told d txn true same is = ap (λ ms. down.Ack txn.seq ∷ ms) (told_of_changes c d txn now p ∙ ap (λ ms. cond (list_any (eqb c) (clients_of p)) ms []) (if_true (eqb c d) [] _ same) ∙ neither (list_any (eqb c) (clients_of p)))
    where
      neither : (b : Bool) → ◌≡◌ {A = List Down} (cond b [] []) []
      neither true = refl
      neither false = refl
  changes_told d txn false other is = told_of_changes c d txn now p
      ∙ ap (λ ms. cond (list_any (eqb c) (clients_of p)) ms []) (unless_true (eqb c d) [] _ other ∙ ap changes_down (other_sets c d (up.Commit txn) txn e server is other))
      ∙ told_if_client p next c txn.sets es follow

  -- and wakings behind them
  pub record_told : (d : ℕ) (txn : Txn) (woken : List Sent) → e.input ≡ input.TookUp d (up.Commit txn)
      → told_to c (ToClient d (down.Ack txn.seq) ∷ changes_of p d txn now ++ woken) ≡ cond (eqb c d) (down.Ack txn.seq ∷ []) (changes_down (sets_for c txn server)) ++ told_to c woken
  record_told d txn woken is = by (eqb c d) (told_append c (changes_of p d txn now) woken) ∙ ap (λ ms. ms ++ told_to c woken) (changes_told d txn (eqb c d) refl is)
    where
      by : (b : Bool) → told_to c (changes_of p d txn now ++ woken) ≡ told_to c (changes_of p d txn now) ++ told_to c woken
          → cond b (down.Ack txn.seq ∷ told_to c (changes_of p d txn now ++ woken)) (told_to c (changes_of p d txn now ++ woken))
          ≡ cond b (down.Ack txn.seq ∷ told_to c (changes_of p d txn now)) (told_to c (changes_of p d txn now)) ++ told_to c woken
      by true h = ap (λ ms. down.Ack txn.seq ∷ ms) h
      by false h = h

  -- by the message
  told_for : (d : ℕ) (m : Up) → e.input ≡ input.TookUp d m → HeardStep p d m e server → IsTold p c d m server (told_to c e.sent)
  told_for d up.IdAsk is h = ap (told_to c) h.sends
  told_for d (up.Fault o) is h =
      let body = found o (stored p.shape o server) h.fits.0 (stored_is_of p.shape o server) in
      record {
        body = body.its;
        its = body.object;
        is_stored = body.is;
        tells = ap (told_to c) (h.sends ∙ ap (object_to d) (fault_stores p d o o e server is ∙ body.is));
      }
  told_for d (up.Flushed o) is h = ap (told_to c) h.sends
  told_for d (up.Request l level) is h = subst (λ out. AllByRecursion IsOfLease (told_to c out)) (sym h.sends) (serves_told p c l now)
  told_for d (up.Return l threads) is h = subst (λ out. AllByRecursion IsOfLease (told_to c out)) (sym h.sends) (serves_told p c l now)
  told_for d (up.Commit txn) is h =
      let woken : List Sent = wakes_of txn (λ l. waiters_of l now) in
      record {
        woken = told_to c woken;
        wake = each_told IsWake c woken (each_woken IsWake (λ l t. tt) txn (λ l. waiters_of l now));
        tells = ap (told_to c) h.sends ∙ record_told d txn woken is;
      }

  told_heard : (d : ℕ) (m : Up) (b : Bool) → e.input ≡ input.TookUp d m → HeardOrLost p d m b e server → IsToldOn p c (input.TookUp d m) b server (told_to c e.sent)
  told_heard d m true is h = ap (told_to c) h
  told_heard d m false is h = told_for d m is h

  told_on : (i : Input) → e.input ≡ i → ServerStepOn p i e (entries_of Server es) → IsToldOn p c i (is_of_lost i (entries_of Server es)) server (told_to c e.sent)
  told_on (input.TookUp d m) is h = told_heard d m (is_lost d (entries_of Server es)) is h.heard
  told_on (input.Lose d) is h = subst (λ out. AllByRecursion IsOfLease (told_to c out)) (sym h.sends) (all_told p c now)
  told_on (input.Break d) is h = ap (told_to c) h.sends
  told_on (input.Rejoin d) is h = ap (told_to c) h.sends
  told_on other is h = absurd h

  -- What the server's entry tells the client.
  pub what_is_told : ServerFollows p next e es → IsToldOn p c e.input (is_of_lost e.input (entries_of Server es)) server (told_to c e.sent)
  what_is_told h = told_on e.input refl h.step

-- For a record of a client that isn't lost it tells whether it was taken, what it sets, and then who is woken.
pub record_is_told : (p : Settings) (next : ThreadId → List Event → Option Request) (c : ℕ) (e : Entry) (es : List Entry) → AllFollow p next es → ServerFollows p next e es
    → (d : ℕ) (txn : Txn) → e.input ≡ input.TookUp d (up.Commit txn) → is_lost d (entries_of Server es) ≡ false → TellsRecord c d txn (counted (entries_of Server es)) (told_to c e.sent)
record_is_told p next c e es follow h d txn is alive =
    subst (λ b. IsToldOn p c (input.TookUp d (up.Commit txn)) b (counted (entries_of Server es)) (told_to c e.sent)) alive
    (subst (λ i. IsToldOn p c i (is_of_lost i (entries_of Server es)) (counted (entries_of Server es)) (told_to c e.sent)) is (what_is_told p next c e es follow h))

-- what the server takes in is neither a fault of the client nor a record of another one
abbrev pub IsElse : ℕ → Input → Type 0
IsElse c (input.TookUp d (up.Fault o)) = eqb c d ≡ false
IsElse c (input.TookUp d (up.Commit txn)) = eqb c d ≡ true
IsElse c i = Unit {0}

-- one message or none
silent_if : (b : Bool) (m : Down) → IsSilent m → AllByRecursion IsSilent (cond b (m ∷ []) [])
silent_if true m h = (h, tt)
silent_if false m h = tt

silent_none : (ms : List Down) → ms ≡ [] → AllByRecursion IsSilent ms
silent_none ms e = subst (AllByRecursion IsSilent) (sym e) tt

silent_behind : (xs ys : List Down) → AllByRecursion IsSilent xs → AllByRecursion IsSilent ys → AllByRecursion IsSilent (xs ++ ys)
silent_behind [] ys h k = k
silent_behind (x ∷ xs) ys h k = (h.0, silent_behind xs ys h.1 k)

silent_on : (p : Settings) (c : ℕ) (i : Input) (b : Bool) (es : List Entry) (ms : List Down) → IsElse c i → IsToldOn p c i b es ms → AllByRecursion IsSilent ms
silent_on p c i true es ms other h = silent_none ms h
silent_on p c (input.TookUp d up.IdAsk) false es ms other h = subst (AllByRecursion IsSilent) (sym h) (silent_if (eqb c d) (down.Ids (next_batch es)) (λ o. refl))
silent_on p c (input.TookUp d (up.Fault o)) false es ms other h = silent_none ms (h.tells ∙ unless_true (eqb c d) (down.Object h.body ∷ []) [] other)
silent_on p c (input.TookUp d (up.Flushed o)) false es ms other h = silent_none ms h
silent_on p c (input.TookUp d (up.Request l level)) false es ms other h = each_so lease_silent ms h
silent_on p c (input.TookUp d (up.Return l threads)) false es ms other h = each_so lease_silent ms h
silent_on p c (input.TookUp d (up.Commit txn)) false es ms other h = subst (AllByRecursion IsSilent)
    (sym (h.tells ∙ ap (λ first. first ++ h.woken) (if_true (eqb c d) (down.Ack txn.seq ∷ []) (changes_down (sets_for c txn es)) other)))
    (silent_behind (down.Ack txn.seq ∷ []) h.woken ((λ o. refl), tt) (each_so wake_silent h.woken h.wake))
silent_on p c (input.Lose d) false es ms other h = each_so lease_silent ms h
silent_on p c i false es ms other h = silent_none ms h

-- All else tells the client of no object.
pub told_silent : (p : Settings) (next : ThreadId → List Event → Option Request) (c : ℕ) (e : Entry) (es : List Entry) → AllFollow p next es → ServerFollows p next e es → IsElse c e.input → AllByRecursion IsSilent (told_to c e.sent)
told_silent p next c e es follow h other = silent_on p c e.input (is_of_lost e.input (entries_of Server es)) (counted (entries_of Server es)) (told_to c e.sent) other (what_is_told p next c e es follow h)

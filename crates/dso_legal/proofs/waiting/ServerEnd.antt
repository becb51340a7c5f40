-- The server's end of a waiter: who is in its list is who is gone to it, each once, and its wakes may come to their threads.
use Rattle.std.specs.List.{list_any}
use Rattle.std.proofs.Common.{ℕ, ◌≡◌, ◌↔◌, refl, sym, ◌∙◌, ap, subst, Bool, true, false, cond, eqb, ◌&&◌, ◌||◌, List, [], ◌∷◌, ◌++◌}
use Rattle.dso_base.specs.declared.journal.Entry.{Entry}
use Rattle.dso_base.specs.declared.journal.Input.{Input}
use Rattle.dso_base.specs.declared.journal.Input.TheVariants as input
use Rattle.dso_base.specs.declared.journal.Sent.{Sent}
use Rattle.dso_base.specs.declared.journal.Sent.TheVariants.{ToClient}
use Rattle.dso_base.specs.declared.lock.LockName.{LockName}
use Rattle.dso_base.specs.declared.lock.ThreadId.{ThreadId}
use Rattle.dso_base.specs.declared.message.Down.TheVariants as down
use Rattle.dso_base.specs.declared.message.Up.{Up}
use Rattle.dso_base.specs.declared.message.Up.TheVariants as up
use Rattle.dso_base.specs.declared.record.Txn.{Txn}
use Rattle.dso_base.specs.Following.{is_thread}
use Rattle.dso_plain.specs.KeyTests.{is_lock}
use Rattle.dso_plain.proofs.keys.SameKeys.{same_lock, same_number, number_self}
use Rattle.dso_law.specs.Entries.{unsent, by_taken_up, if_to}
use Rattle.dso_law.specs.FitsUp.{AreDistinct, IsNewWaiter, FitsReturn, FitsUp}
use Rattle.dso_law.specs.Granting.{queue_of, leases_so_far}
use Rattle.dso_law.specs.ServerReadings.{loses, is_of_lost, counted}
use Rattle.dso_law.specs.ServerStep.{changes_of, HeardStep, HeardOrLost, ServerStepOn}
use Rattle.dso_law.specs.ServerWaiters.{waiters_by, waiters_of, wakes_of, lists_noted}
use Rattle.dso_law.specs.Settings.{Settings}
use Rattle.dso_law.specs.Store.{stored}
use Rattle.dso_legal.specs.Agreement.{EachMay}
use Rattle.dso_legal.specs.Places.{Place, Gone, places_noted, place_up, place_down, MayPlaceUp, MayPlaceDown, place_with}
use Rattle.dso_legal.specs.Resolved.{WaiterLists}
use Rattle.dso_legal.proofs.blocks.EachEvent.{each_follows}
use Rattle.dso_legal.proofs.blocks.Histories.{client_of_thread}
use Rattle.dso_legal.proofs.channels.InFlight.{told_to}
use Rattle.dso_legal.proofs.copies.ServerMessages.{IsOfLease, serve_each, serves_all_told}
use Rattle.dso_legal.proofs.leases.LeaseSteps.{no_both}
use Rattle.dso_legal.proofs.records.ServerSent.{EachTold, told_each_so}
use Rattle.dso_legal.proofs.waiting.PlacesCommute.{said}
use Rattle.dso_legal.proofs.waiting.ServerWakes.{EachWakes, woken_both, lists_ended, record_wakes, ListedAreGone, PlacesFollow, places_follow}
use Rattle.dso_legal.proofs.waiting.ServerWaiters.{IsNoWake, lease_wakes_none, changes_wake_none, object_wakes_none, none_woken, sent_once, all_noted_gone, ended_gone, any_append, found, once_both, without_client_has, without_client_once}

-- At the server who is in the list of the lock is who is gone, and the list has each thread once.
pub record StandsAtServer (l : LockName) (t : ThreadId) (server : List Entry) : Type 0 where
  pub gone : ListedAreGone l t (waiters_of l server) (place_with t.client l t server)
  pub once : AreDistinct (waiters_of l server)

-- What an entry of the server makes of it: the same, and what it tells the thread's client may come to the thread as it stands.
pub record StepsOn (l : LockName) (t : ThreadId) (e : Entry) (server : List Entry) : Type 0 where
  pub comes : EachMay (MayPlaceDown l t) (place_down l t) (told_to t.client e.sent) (by_taken_up (if_to t.client (place_up l t)) e.input (place_with t.client l t server))
  pub stand : StandsAtServer l t (e ∷ server)

-- either way the same
same_either_way : {A : Type 0} (b : Bool) (x : A) → cond b x x ≡ x
same_either_way true x = refl
same_either_way false x = refl

module _ (p : Settings) (l : LockName) (t : ThreadId) (e : Entry) (server : List Entry) (stand : StandsAtServer l t server) where
  abbrev ts : List ThreadId
  ts = waiters_of l server

  abbrev s : Place
  s = place_with t.client l t server

  -- what is so once the input is heard, before anything is sent
  record Heard (i : Input) : Type 0 where
    gone : ListedAreGone l t (waiters_by l i ts) (by_taken_up (if_to t.client (place_up l t)) i s)
    once : AreDistinct (waiters_by l i ts)

  -- a message that leaves list and place
  quiet_heard : (d : ℕ) → ListedAreGone l t ts (cond (eqb t.client d) s s)
  quiet_heard d = subst (ListedAreGone l t ts) (sym (same_either_way (eqb t.client d) s)) stand.gone

  -- a return: its threads are the client's, in no list of the server's before
  module _ (d : ℕ) (k : LockName) (threads : List ThreadId) (fits : FitsReturn p d k threads server) where
    returns_gone : (a b c : Bool) → is_lock l k ≡ a → list_any (is_thread t) threads ≡ b → eqb t.client d ≡ c
        → ListedAreGone l t (cond a (ts ++ threads) ts) (cond c (cond (a && b) Gone s) s)
    returns_gone true true true is there its = ((λ _. refl), λ _. any_append (is_thread t) ts threads ∙ ap (λ b. list_any (is_thread t) ts || b) there ∙ at_end (list_any (is_thread t) ts))
      where
        at_end : (b : Bool) → (b || true) ≡ true
        at_end true = refl
        at_end false = refl
    returns_gone true true false is there other =
        no_both (eqb t.client d) (ap (eqb t.client) (sym (client_of_thread p d t (found (IsNewWaiter p d k server) t threads there fits.new).0)) ∙ number_self t.client) other
    returns_gone true false c is none its = subst (λ x. ListedAreGone l t (ts ++ threads) x) (sym (same_either_way c s))
        (subst (λ x. (x ≡ true) ↔ (s ≡ Gone)) (sym (any_append (is_thread t) ts threads ∙ ap (λ b. list_any (is_thread t) ts || b) none ∙ no_more (list_any (is_thread t) ts))) stand.gone)
      where
        no_more : (b : Bool) → (b || false) ≡ b
        no_more true = refl
        no_more false = refl
    returns_gone false b c is there its = subst (λ x. ListedAreGone l t ts x) (sym (same_either_way c s)) stand.gone

    returns_once : (a : Bool) → is_lock l k ≡ a → AreDistinct (cond a (ts ++ threads) ts)
    returns_once true is = once_both ts threads stand.once fits.once
        (each_follows (IsNewWaiter p d k server) (λ u. list_any (is_thread u) ts ≡ false) (λ u new. subst (λ x. list_any (is_thread u) (waiters_of x server) ≡ false) (same_lock l k is) new.1) threads fits.new)
    returns_once false other = stand.once

  -- a record puts nobody in the list and takes nobody out
  commit_gone : (d : ℕ) (txn : Txn) (b : Bool) → eqb t.client d ≡ b → (eqb t.client d ≡ true → MayPlaceUp l t (up.Commit txn) s) → ListedAreGone l t ts (cond b (place_up l t (up.Commit txn) s) s)
  commit_gone d txn true its may = (
    (λ there.
        let is : s ≡ Gone = stand.gone.0 there in
        ap (place_up l t (up.Commit txn)) is ∙ (said l t (up.Commit txn) (subst (MayPlaceUp l t (up.Commit txn)) is (may its))).gone),
    λ gone. stand.gone.1 (all_noted_gone l t txn.notes s (ended_gone l t txn.thread txn.ending (places_noted l t txn.notes s) gone)),
  )
  commit_gone d txn false other may = stand.gone

  -- each message, where it fits and may come
  took : (d : ℕ) (m : Up) → FitsUp p d m server → (eqb t.client d ≡ true → MayPlaceUp l t m s) → Heard (input.TookUp d m)
  took d (up.Return k threads) fits may = record { gone = returns_gone d k threads fits (is_lock l k) (list_any (is_thread t) threads) (eqb t.client d) refl refl refl; once = returns_once d k threads fits (is_lock l k) refl }
  took d (up.Commit txn) fits may = record { gone = commit_gone d txn (eqb t.client d) refl may; once = stand.once }
  took d up.IdAsk fits may = record { gone = quiet_heard d; once = stand.once }
  took d (up.Fault o) fits may = record { gone = quiet_heard d; once = stand.once }
  took d (up.Flushed o) fits may = record { gone = quiet_heard d; once = stand.once }
  took d (up.Request k level) fits may = record { gone = quiet_heard d; once = stand.once }

  -- the list as the entry sends
  abbrev heard_list : List ThreadId
  heard_list = waiters_by l e.input ts

  none : (out : List Sent) → EachTold IsNoWake out → e.sent ≡ out → EachWakes l e.sent heard_list
  none out quiet sends = subst (λ out. EachWakes l out heard_list) (sym sends) (none_woken l out heard_list quiet).each

  leases : (out : List Sent) → EachTold IsOfLease out → e.sent ≡ out → EachWakes l e.sent heard_list
  leases out each sends = none out (told_each_so IsOfLease IsNoWake lease_wakes_none out each) sends

  -- what is sent for a message
  sent_for : (d : ℕ) (m : Up) → AreDistinct heard_list → HeardStep p d m e server → EachWakes l e.sent heard_list
  sent_for d (up.Commit txn) once h =
      let lists : WaiterLists = λ k. waiters_of k (unsent e ∷ server) in
      let front : List Sent = ToClient d (down.Ack txn.seq) ∷ changes_of p d txn (unsent e ∷ server) in
      subst (λ out. EachWakes l out heard_list) (sym h.sends)
      (woken_both l front (wakes_of txn lists) heard_list heard_list (lists_ended txn.thread txn.ending (lists_noted txn.notes lists) l)
      (none_woken l front heard_list (tt, changes_wake_none p d txn (unsent e ∷ server))) (record_wakes l txn lists once)).each
  sent_for d up.IdAsk once h = none _ (tt, tt) h.sends
  sent_for d (up.Fault o) once h = none _ (object_wakes_none d (stored p.shape o (unsent e ∷ server))) h.sends
  sent_for d (up.Flushed o) once h = none [] tt h.sends
  sent_for d (up.Request k level) once h = leases _ (serve_each p k (queue_of k (unsent e ∷ server)) (leases_so_far k (unsent e ∷ server))) h.sends
  sent_for d (up.Return k threads) once h = leases _ (serve_each p k (queue_of k (unsent e ∷ server)) (leases_so_far k (unsent e ∷ server))) h.sends

  -- the step, by what is heard and sent
  steps : Heard e.input → EachWakes l e.sent heard_list → StepsOn l t e server
  steps heard each =
      let follow : PlacesFollow l t e.sent heard_list (by_taken_up (if_to t.client (place_up l t)) e.input s) = places_follow l t e.sent heard_list (by_taken_up (if_to t.client (place_up l t)) e.input s) each heard.gone in
      record { comes = follow.comes; stand = record { gone = follow.moves; once = sent_once l e.sent heard_list heard.once } }

  heard_steps : (d : ℕ) (m : Up) → e.input ≡ input.TookUp d m → HeardStep p d m e server → (eqb t.client d ≡ true → MayPlaceUp l t m s) → StepsOn l t e server
  heard_steps d m is h may =
      let heard : Heard e.input = subst Heard (sym is) (took d m h.fits may) in
      steps heard (sent_for d m heard.once h)

-- Each entry of the server that counts and doesn't lose the thread's client steps so, where what it takes of that client may come.
pub server_steps : (p : Settings) (l : LockName) (t : ThreadId) (e : Entry) (all : List Entry) (i : Input) → e.input ≡ i → ServerStepOn p i e all → is_of_lost i all ≡ false → loses t.client i ≡ false
    → ((m : Up) → i ≡ input.TookUp t.client m → MayPlaceUp l t m (place_with t.client l t (counted all))) → StandsAtServer l t (counted all) → StepsOn l t e (counted all)
server_steps p l t e all (input.TookUp d m) is h counts stays may stand =
    heard_steps p l t e (counted all) stand d m is (subst (λ b. HeardOrLost p d m b e (counted all)) counts h.heard) (λ its. may m (ap (λ n. input.TookUp n m) (sym (same_number t.client d its))))
server_steps p l t e all (input.Lose d) is h counts stays may stand =
    let heard : Heard p l t e (counted all) stand (input.Lose d) = record {
      gone = subst (λ x. (x ≡ true) ↔ (place_with t.client l t (counted all) ≡ Gone)) (sym (without_client_has d t (waiters_of l (counted all)) stays)) stand.gone;
      once = without_client_once d (waiters_of l (counted all)) stand.once;
    } in
    steps p l t e (counted all) stand (subst (Heard p l t e (counted all) stand) (sym is) heard) (leases p l t e (counted all) stand _ (serves_all_told p (unsent e ∷ counted all)) h.sends)
server_steps p l t e all (input.Break d) is h counts stays may stand =
    let heard : Heard p l t e (counted all) stand (input.Break d) = record { gone = stand.gone; once = stand.once } in
    steps p l t e (counted all) stand (subst (Heard p l t e (counted all) stand) (sym is) heard) (none p l t e (counted all) stand [] tt h.sends)
server_steps p l t e all (input.Rejoin d) is h counts stays may stand =
    let heard : Heard p l t e (counted all) stand (input.Rejoin d) = record { gone = stand.gone; once = stand.once } in
    steps p l t e (counted all) stand (subst (Heard p l t e (counted all) stand) (sym is) heard) (none p l t e (counted all) stand [] tt h.sends)
server_steps p l t e all other is h counts stays may stand = absurd h

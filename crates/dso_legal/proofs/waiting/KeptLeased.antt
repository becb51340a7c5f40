-- Where the server has a thread kept by its client, the client has the lock at Write.
use Rattle.std.specs.List.{list_any}
use Rattle.std.proofs.Common.{ℕ, ◌≡◌, refl, sym, ap, subst, Bool, true, false, cond, eqb, ◌&&◌, Option, Some, None, List, [], ◌∷◌}
use Rattle.dso_base.specs.declared.journal.Entry.{Entry}
use Rattle.dso_base.specs.declared.journal.Input.{Input}
use Rattle.dso_base.specs.declared.journal.Input.TheVariants as input
use Rattle.dso_base.specs.declared.journal.Node.{Node}
use Rattle.dso_base.specs.declared.journal.Node.TheVariants.{Server, Client}
use Rattle.dso_base.specs.declared.journal.Sent.{Sent}
use Rattle.dso_base.specs.declared.journal.Sent.TheVariants.{ToServer, ToClient}
use Rattle.dso_base.specs.declared.lock.Level.TheVariants.{Write}
use Rattle.dso_base.specs.declared.lock.LockName.{LockName}
use Rattle.dso_base.specs.declared.lock.ThreadId.{ThreadId}
use Rattle.dso_base.specs.declared.message.Down.{Down}
use Rattle.dso_base.specs.declared.message.Down.TheVariants as down
use Rattle.dso_base.specs.declared.message.Up.{Up}
use Rattle.dso_base.specs.declared.message.Up.TheVariants as up
use Rattle.dso_base.specs.declared.record.Ending.{Ending}
use Rattle.dso_base.specs.declared.record.Ending.TheVariants as ending
use Rattle.dso_base.specs.declared.request.Event.{Event}
use Rattle.dso_base.specs.declared.request.Request.{Request}
use Rattle.dso_base.specs.Following.{is_thread}
use Rattle.dso_plain.specs.KeyTests.{is_lock}
use Rattle.dso_plain.proofs.keys.SameKeys.{same_lock, same_number}
use Rattle.dso_law.specs.declared.readings.LockStanding.{LockStanding}
use Rattle.dso_law.specs.Channels.{IsFirst, TakesFirst, up_in_flight}
use Rattle.dso_law.specs.Entries.{entries_of, by_taken_up, by_sent_down, if_to}
use Rattle.dso_law.specs.FitsUp.{FitsEnding, FitsUp}
use Rattle.dso_law.specs.Granting.{standing_by, standing_with, leased_to}
use Rattle.dso_law.specs.Leases.{idle, standing_up}
use Rattle.dso_law.specs.RequestNeeds.{is_enough}
use Rattle.dso_law.specs.ServerReadings.{loses, is_lost, is_of_lost, counted}
use Rattle.dso_law.specs.ServerStep.{HeardOrLost, ServerStepOn}
use Rattle.dso_law.specs.Settings.{Settings}
use Rattle.dso_legal.specs.Lawful.{ServerFollows, NodeFollows, AllFollow}
use Rattle.dso_legal.specs.Places.{Place, Away, Kept, Gone, unkept, places_noted, place_ended, place_up, place_down, MayPlaceUp, MayPlaceDown, place_of, place_with}
use Rattle.dso_legal.specs.SoundProgram.{AsksSoundly}
use Rattle.dso_legal.proofs.leases.ClientLeases.{neither}
use Rattle.dso_legal.proofs.leases.LeaseSteps.{no_both}
use Rattle.dso_legal.proofs.line.LineElsewhere.{told_grow}
use Rattle.dso_legal.proofs.records.BothEnds.{server_with, not_lost_before, first_may_up}
use Rattle.dso_legal.proofs.waiting.NotedPlaces.{kept_before}
use Rattle.dso_legal.proofs.waiting.Waiters.{WaitersStand, waiters_stand}

-- who is kept once messages are sent down was kept before
kept_down : (l : LockName) (t : ThreadId) (m : Down) (s : Place) → place_down l t m s ≡ Kept → s ≡ Kept
kept_down l t (down.Wake k u) s = by (is_lock l k && is_thread t u)
  where
    by : (b : Bool) → cond b Away s ≡ Kept → s ≡ Kept
    by true kept = absurd (cc kept)
    by false kept = kept
kept_down l t m s = λ kept. kept

kept_sent : (c : ℕ) (l : LockName) (t : ThreadId) (out : List Sent) (s : Place) → by_sent_down (if_to c (place_down l t)) out s ≡ Kept → s ≡ Kept
kept_sent c l t [] s kept = kept
kept_sent c l t (ToServer m ∷ out) s kept = kept_sent c l t out s kept
kept_sent c l t (ToClient d m ∷ out) s kept = by (eqb c d) (kept_sent c l t out (if_to c (place_down l t) d m s) kept)
  where
    by : (b : Bool) → cond b (place_down l t m s) s ≡ Kept → s ≡ Kept
    by true kept = kept_down l t m s kept
    by false kept = kept

-- never is a thread kept that is taken out of its list
unkept_isnt : (s : Place) → unkept s ≡ Kept → s ≡ Kept
unkept_isnt Away e = absurd (cc e)
unkept_isnt Kept e = refl
unkept_isnt Gone e = absurd (cc e)

-- At the server: a client d's message that fits and may come.
module _ (p : Settings) (d : ℕ) (l : LockName) (t : ThreadId) (server : List Entry) (s : Place) where
  abbrev IsLeased : LockStanding → Type 0
  IsLeased st = is_enough Write st.lease ≡ true

  abbrev st : LockStanding
  st = standing_with d l server

  -- after an ending
  kept_ended : (u : ThreadId) (end : Ending) → FitsEnding d u end server → place_ended l t u end s ≡ Kept → (s ≡ Kept → IsLeased st) → IsLeased st
  kept_ended u (ending.Wait k) fits kept before = by (is_lock l k) (is_thread t u) refl kept
    where
      by : (a b : Bool) → is_lock l k ≡ a → cond (a && b) Kept s ≡ Kept → IsLeased st
      by true true same kept = ap (is_enough Write) (subst (λ x. leased_to d x server ≡ Some Write) (same_lock l k same) fits)
      by true false same kept = before kept
      by false b other kept = before kept
  kept_ended u (ending.Timeout k) fits kept before = by (is_lock l k && is_thread t u) kept
    where
      by : (b : Bool) → cond b (unkept s) s ≡ Kept → IsLeased st
      by true kept = before (unkept_isnt s kept)
      by false kept = before kept
  kept_ended u (ending.Exit k) fits kept before = before kept
  kept_ended u (ending.End fault) fits kept before = before kept

  -- after a return
  kept_returned : (k : LockName) (threads : List ThreadId) → MayPlaceUp l t (up.Return k threads) s → place_up l t (up.Return k threads) s ≡ Kept → (s ≡ Kept → IsLeased st) → IsLeased (standing_up l (up.Return k threads) st)
  kept_returned k threads may kept before = by (is_lock l k) (list_any (is_thread t) threads) refl refl kept
    where
      by : (a b : Bool) → is_lock l k ≡ a → list_any (is_thread t) threads ≡ b → cond (a && b) Gone s ≡ Kept → IsLeased (cond a (let r : LockStanding = record st { lease = None } in r) st)
      by true true same there kept = absurd (cc kept)
      by true false same out kept = no_both (list_any (is_thread t) threads) ((may same).1 kept) out
      by false b other there kept = before kept

kept_heard : (p : Settings) (d : ℕ) (l : LockName) (t : ThreadId) (server : List Entry) (s : Place) (m : Up) → FitsUp p d m server → MayPlaceUp l t m s → place_up l t m s ≡ Kept
    → (s ≡ Kept → IsLeased p d l t server s (standing_with d l server)) → IsLeased p d l t server s (standing_up l m (standing_with d l server))
kept_heard p d l t server s (up.Return k threads) fits may kept before = kept_returned p d l t server s k threads may kept before
kept_heard p d l t server s (up.Commit txn) fits may kept before = kept_ended p d l t server (places_noted l t txn.notes s) txn.thread txn.ending fits.ending kept (λ noted. before (kept_before l t txn.notes s noted))
kept_heard p d l t server s (up.Request k level) fits may kept before = by (is_lock l k)
  where
    by : (b : Bool) → IsLeased p d l t server s (cond b (let st : LockStanding = standing_with d l server in let r : LockStanding = record st { is_asked = true } in r) (standing_with d l server))
    by true = before kept
    by false = before kept
kept_heard p d l t server s up.IdAsk fits may kept before = before kept
kept_heard p d l t server s (up.Fault o) fits may kept before = before kept
kept_heard p d l t server s (up.Flushed o) fits may kept before = before kept

module _ (p : Settings) (next : ThreadId → List Event → Option Request) (sound : AsksSoundly p.shape next) where
  -- who is kept has a client with the lock at Write
  abbrev pub IsKeptLeased : LockName → ThreadId → List Entry → Type 0
  IsKeptLeased l t server = place_with t.client l t server ≡ Kept → is_enough Write (leased_to t.client l server) ≡ true

  module _ (e : Entry) (es : List Entry) (follow : AllFollow p next es) (stand : WaitersStand p next sound es) (l : LockName) (t : ThreadId) (alive : is_lost t.client (entries_of Server es) ≡ false)
      (before : IsKeptLeased l t (counted (entries_of Server es))) where
    abbrev server : List Entry
    server = counted (entries_of Server es)

    -- once the input is heard
    after_input : (i : Input) → e.input ≡ i → TakesFirst i Server es → ServerStepOn p i e (entries_of Server es) → is_of_lost i (entries_of Server es) ≡ false → loses t.client i ≡ false
        → by_taken_up (if_to t.client (place_up l t)) i (place_with t.client l t server) ≡ Kept → is_enough Write (standing_by t.client l i (standing_with t.client l server)).lease ≡ true
    after_input (input.TookUp d m) is first step counts stays kept = by (eqb t.client d) refl kept
      where
        own : t.client ≡ d → place_up l t m (place_with t.client l t server) ≡ Kept → is_enough Write (standing_up l m (standing_with t.client l server)).lease ≡ true
        own same kept = kept_heard p t.client l t server (place_with t.client l t server) m
            (subst (λ n. FitsUp p n m server) (sym same) (subst (λ b. HeardOrLost p d m b e server) counts step.heard).fits)
            (first_may_up p next t.client (MayPlaceUp l t) (place_up l t) (MayPlaceDown l t) (place_down l t) (place_of l t) (place_with t.client l t) es (stand.agree l t alive) m (subst (λ n. IsFirst m (up_in_flight n es)) (sym same) first))
            kept before

        by : (b : Bool) → eqb t.client d ≡ b → cond b (place_up l t m (place_with t.client l t server)) (place_with t.client l t server) ≡ Kept → is_enough Write (cond b (standing_up l m (standing_with t.client l server)) (standing_with t.client l server)).lease ≡ true
        by true same kept = own (same_number t.client d same) kept
        by false other kept = before kept
    after_input (input.Lose d) is first step counts stays kept = by (eqb t.client d) stays
      where
        by : (b : Bool) → b ≡ false → is_enough Write (cond b idle (standing_with t.client l server)).lease ≡ true
        by true lost = absurd (cc lost)
        by false other = before kept
    after_input other is first step counts stays kept = before kept

    after_entry : TakesFirst e.input Server es → ServerFollows p next e es → is_of_lost e.input (entries_of Server es) ≡ false → loses t.client e.input ≡ false
        → IsKeptLeased l t (e ∷ server)
    after_entry first rule counts stays kept = told_grow p next t.client e es follow rule counts l Write
        (after_input e.input refl first rule.step counts stays (kept_sent t.client l t e.sent (by_taken_up (if_to t.client (place_up l t)) e.input (place_with t.client l t server)) kept))

    -- by the entry's node
    kept_at : (node : Node) → TakesFirst e.input node es → NodeFollows p next node e es → is_lost t.client (server_with node e es) ≡ false → IsKeptLeased l t (counted (server_with node e es))
    kept_at Server first rule still = by (is_of_lost e.input (entries_of Server es)) refl
      where
        by : (b : Bool) → is_of_lost e.input (entries_of Server es) ≡ b → IsKeptLeased l t (cond b server (e ∷ server))
        by true skipped = before
        by false counts = after_entry first rule counts (neither (loses t.client e.input) (is_lost t.client (entries_of Server es)) still).0
    kept_at (Client d) first rule still = before

  -- Over entries that follow one another.
  pub kept_leased : (es : List Entry) → AllFollow p next es → (l : LockName) (t : ThreadId) → is_lost t.client (entries_of Server es) ≡ false → IsKeptLeased l t (counted (entries_of Server es))
  kept_leased [] follow l t alive = λ kept. absurd (cc kept)
  kept_leased (e ∷ es) follow l t alive =
      let before : is_lost t.client (entries_of Server es) ≡ false = not_lost_before t.client e.node e es alive in
      kept_at e es follow.0 (waiters_stand p next sound es follow.0) l t before (kept_leased es follow.0 l t before) e.node follow.1.channels follow.1.rule alive

-- The two ends of a client's connection, over lawful journals: where each end's reading steps with the messages, and each message
-- sent may come where the sender's reading stands, both agree while the client isn't lost.
use Rattle.std.proofs.Common.{ℕ, ◌≡◌, refl, sym, ◌∙◌, ap, subst, Bool, true, false, cond, eqb, List, [], ◌∷◌}
use Rattle.std.specs.Prelude.{Option, drop}
use Rattle.dso_base.specs.declared.journal.Entry.{Entry}
use Rattle.dso_base.specs.declared.journal.Input.{Input}
use Rattle.dso_base.specs.declared.journal.Input.TheVariants as input
use Rattle.dso_base.specs.declared.journal.Node.{Node}
use Rattle.dso_base.specs.declared.journal.Node.TheVariants.{Server, Client}
use Rattle.dso_base.specs.declared.lock.ThreadId.{ThreadId}
use Rattle.dso_base.specs.declared.message.Down.{Down}
use Rattle.dso_base.specs.declared.message.Up.{Up}
use Rattle.dso_base.specs.declared.request.Event.{Event}
use Rattle.dso_base.specs.declared.request.Request.{Request}
use Rattle.dso_plain.proofs.keys.SameKeys.{same_number}
use Rattle.dso_law.specs.Settings.{Settings}
use Rattle.dso_law.specs.Entries.{is_node, entries_of, by_taken_down, by_taken_up, by_sent_up, by_sent_down, if_to}
use Rattle.dso_law.specs.Channels.{Letter, takes_up, takes_down, up_in_flight, in_flight_after, to_server, down_in_flight, to_client, IsFirst, TakesFirst, posted}
use Rattle.dso_law.specs.ServerReadings.{loses, is_lost, is_of_lost, counted}
use Rattle.dso_law.specs.ServerStep.{HeardOrLost, ServerStepOn}
use Rattle.dso_legal.specs.Agreement.{messages, EachMay, Agree}
use Rattle.dso_legal.specs.Lawful.{ClientFollows, ServerFollows, NodeFollows, AllFollow}
use Rattle.dso_legal.proofs.channels.Agreement.{Commutes}
use Rattle.dso_legal.proofs.leases.ClientLeases.{neither}
use Rattle.dso_legal.proofs.leases.LeaseSteps.{unless_true, if_true, no_both}
use Rattle.dso_legal.proofs.channels.InFlight.{said_of, told_to, client_takes, server_hears, client_sends, server_sends}

-- the entries of the server, with one more of this node
abbrev pub server_with : Node → Entry → List Entry → List Entry
server_with node e es = cond (is_node Server node) (e ∷ entries_of Server es) (entries_of Server es)

-- those of a client, with one more of this node
abbrev pub client_with : ℕ → Node → Entry → List Entry → List Entry
client_with c node e es = cond (is_node (Client c) node) (e ∷ entries_of (Client c) es) (entries_of (Client c) es)

-- who isn't lost at one more entry wasn't before
pub not_lost_before : (c : ℕ) (node : Node) (e : Entry) (es : List Entry) → is_lost c (server_with node e es) ≡ false → is_lost c (entries_of Server es) ≡ false
not_lost_before c Server e es h = (neither (loses c e.input) (is_lost c (entries_of Server es)) h).1
not_lost_before c (Client d) e es h = h

-- a message of a lost client isn't of one that isn't
pub skipped_way : (c : ℕ) (input : Input) (server : List Entry) → is_of_lost input server ≡ true → is_lost c server ≡ false → takes_up c input ≡ false
skipped_way c (input.TookUp d m) server skipped alive = by (eqb c d) refl
  where
    by : (b : Bool) → eqb c d ≡ b → b ≡ false
    by true e = no_both (is_lost d server) skipped (subst (λ n. is_lost n server ≡ false) (same_number c d e) alive)
    by false e = refl
skipped_way c other server skipped alive = refl

-- and is answered by nothing
pub skipped_silent : (p : Settings) (e : Entry) (server : List Entry) (input : Input) → ServerStepOn p input e server → is_of_lost input server ≡ true → e.sent ≡ []
skipped_silent p e server (input.TookUp d m) h skipped = subst (λ b. HeardOrLost p d m b e (counted server)) skipped h.heard
skipped_silent p e server other h skipped = absurd (cc skipped)

module _ {S : Type 0} (p : Settings) (next : ThreadId → List Event → Option Request) (c : ℕ) (may_up : Up → S → Type 0) (step_up : Up → S → S) (may_down : Down → S → Type 0) (step_down : Down → S → S) (client server : List Entry → S) where
  -- both agree after the entries
  abbrev pub AgreeAt : List Entry → Type 0
  AgreeAt es = Agree may_up step_up may_down step_down (messages (up_in_flight c es)) (messages (down_in_flight c es)) (server (counted (entries_of Server es))) (client (entries_of (Client c) es))

  -- the client's end: what its entry says may come, and its reading steps with the messages
  pub record ClientEnd (e : Entry) (es : List Entry) : Type 0 where
    pub comes : EachMay may_up step_up (said_of e.sent) (by_taken_down step_down e.input (client es))
    pub reads : client (e ∷ es) ≡ by_sent_up step_up e.sent (by_taken_down step_down e.input (client es))

  -- and the server's end, for this client
  pub record ServerEnd (e : Entry) (es : List Entry) : Type 0 where
    pub comes : EachMay may_down step_down (told_to c e.sent) (by_taken_up (if_to c step_up) e.input (server es))
    pub reads : server (e ∷ es) ≡ by_sent_down (if_to c step_down) e.sent (by_taken_up (if_to c step_up) e.input (server es))

  -- The two ends: so at each entry of the client, and at each that counts of the server and doesn't lose the client.
  pub record Ends : Type 0 where
    pub start : server [] ≡ client []
    pub at_client : (e : Entry) (es : List Entry) → AllFollow p next es → ClientFollows p next c e es → ClientEnd e (entries_of (Client c) es)
    pub at_server : (e : Entry) (es : List Entry) → AllFollow p next es → ServerFollows p next e es → is_of_lost e.input (entries_of Server es) ≡ false → loses c e.input ≡ false
        → ServerEnd e (counted (entries_of Server es))

  -- The two ends at one entry that takes what is the first in flight.
  pub record EndsAt (e : Entry) (es : List Entry) : Type 0 where
    pub at_client : TakesFirst e.input (Client c) es → ClientFollows p next c e es → ClientEnd e (entries_of (Client c) es)
    pub at_server : TakesFirst e.input Server es → ServerFollows p next e es → is_of_lost e.input (entries_of Server es) ≡ false → loses c e.input ≡ false
        → ServerEnd e (counted (entries_of Server es))

  module _ (commutes : Commutes may_up step_up may_down step_down) (e : Entry) (es : List Entry) (ends : EndsAt e es) where
    -- what is in flight and the readings after an entry of this node
    abbrev pub AgreeAfter : Node → Type 0
    AgreeAfter node = Agree may_up step_up may_down step_down (messages (in_flight_after (to_server c) e node (up_in_flight c es))) (messages (in_flight_after (to_client c) e node (down_in_flight c es)))
        (server (counted (server_with node e es))) (client (client_with c node e es))

    -- an entry of the server that doesn't count
    agree_skipped : ServerFollows p next e es → is_of_lost e.input (entries_of Server es) ≡ true → is_lost c (entries_of Server es) ≡ false → AgreeAt es → AgreeAfter Server
    agree_skipped h skipped alive a =
        let up : in_flight_after (to_server c) e Server (up_in_flight c es) ≡ up_in_flight c es = unless_true (takes_up c e.input) (drop 1 (up_in_flight c es)) (up_in_flight c es) (skipped_way c e.input (entries_of Server es) skipped alive) in
        let down : in_flight_after (to_client c) e Server (down_in_flight c es) ≡ down_in_flight c es = ap (λ out. by_sent_down (if_to c (posted e.clock)) out (down_in_flight c es)) (skipped_silent p e (entries_of Server es) e.input h.step skipped) in
        let same : counted (e ∷ entries_of Server es) ≡ counted (entries_of Server es) = if_true (is_of_lost e.input (entries_of Server es)) _ _ skipped in
        subst (λ u. Agree may_up step_up may_down step_down (messages u) (messages (in_flight_after (to_client c) e Server (down_in_flight c es))) (server (counted (e ∷ entries_of Server es))) (client (entries_of (Client c) es))) (sym up)
        (subst (λ d. Agree may_up step_up may_down step_down (messages (up_in_flight c es)) (messages d) (server (counted (e ∷ entries_of Server es))) (client (entries_of (Client c) es))) (sym down)
        (subst (λ js. Agree may_up step_up may_down step_down (messages (up_in_flight c es)) (messages (down_in_flight c es)) (server js) (client (entries_of (Client c) es))) (sym same) a))

    -- and one that does
    agree_counted : ServerEnd e (counted (entries_of Server es)) → TakesFirst e.input Server es → is_of_lost e.input (entries_of Server es) ≡ false → AgreeAt es → AgreeAfter Server
    agree_counted end first counts a =
        let before = counted (entries_of Server es) in
        let same : counted (e ∷ entries_of Server es) ≡ e ∷ before = unless_true (is_of_lost e.input (entries_of Server es)) _ _ counts in
        subst (λ s. Agree may_up step_up may_down step_down (messages (in_flight_after (to_server c) e Server (up_in_flight c es))) (messages (in_flight_after (to_client c) e Server (down_in_flight c es))) s (client (entries_of (Client c) es)))
        (sym (ap server same ∙ end.reads))
        (server_sends may_up step_up may_down step_down commutes c e.clock e.sent
        (messages (in_flight_after (to_server c) e Server (up_in_flight c es))) (down_in_flight c es) (by_taken_up (if_to c step_up) e.input (server before)) (client (entries_of (Client c) es)) end.comes
        (server_hears may_up step_up may_down step_down c e.input es (messages (down_in_flight c es)) (server before) (client (entries_of (Client c) es)) first a))

    agree_server : (b : Bool) → is_of_lost e.input (entries_of Server es) ≡ b → ServerFollows p next e es → TakesFirst e.input Server es → is_lost c (e ∷ entries_of Server es) ≡ false → AgreeAt es → AgreeAfter Server
    agree_server true counts h first alive a = agree_skipped h counts (neither (loses c e.input) (is_lost c (entries_of Server es)) alive).1 a
    agree_server false counts h first alive a = agree_counted (ends.at_server first h counts (neither (loses c e.input) (is_lost c (entries_of Server es)) alive).0) first counts a

    -- an entry of client d
    agree_client : (b : Bool) (d : ℕ) → eqb c d ≡ b → TakesFirst e.input (Client d) es → ClientFollows p next d e es → AgreeAt es
        → Agree may_up step_up may_down step_down (messages (cond b (by_sent_up (posted e.clock) e.sent (up_in_flight c es)) (up_in_flight c es)))
        (messages (cond b (cond (takes_down e.input) (drop 1 (down_in_flight c es)) (down_in_flight c es)) (down_in_flight c es)))
        (server (counted (entries_of Server es))) (client (cond b (e ∷ entries_of (Client c) es) (entries_of (Client c) es)))
    agree_client true d own first h a =
        let end = ends.at_client (subst (λ n. TakesFirst e.input (Client n) es) (sym (same_number c d own)) first) (subst (λ n. ClientFollows p next n e es) (sym (same_number c d own)) h) in
        subst (λ s. Agree may_up step_up may_down step_down (messages (by_sent_up (posted e.clock) e.sent (up_in_flight c es))) (messages (cond (takes_down e.input) (drop 1 (down_in_flight c es)) (down_in_flight c es))) (server (counted (entries_of Server es))) s)
        (sym end.reads)
        (client_sends may_up step_up may_down step_down commutes e.clock e.sent (up_in_flight c es)
        (messages (cond (takes_down e.input) (drop 1 (down_in_flight c es)) (down_in_flight c es))) (server (counted (entries_of Server es))) (by_taken_down step_down e.input (client (entries_of (Client c) es))) end.comes
        (client_takes may_up step_up may_down step_down c e.input es (messages (up_in_flight c es)) (server (counted (entries_of Server es))) (client (entries_of (Client c) es))
        (subst (λ n. TakesFirst e.input (Client n) es) (sym (same_number c d own)) first) a))
    agree_client false d own first h a = a

    -- Both ends agree after the entry.
    pub agree_after : (node : Node) → TakesFirst e.input node es → NodeFollows p next node e es → is_lost c (server_with node e es) ≡ false → AgreeAt es → AgreeAfter node
    agree_after Server first h alive a = agree_server (is_of_lost e.input (entries_of Server es)) refl h first alive a
    agree_after (Client d) first h alive a = agree_client (eqb c d) d refl first h a

  -- Both ends agree after every lawful journal that doesn't lose the client.
  pub ends_agree : Commutes may_up step_up may_down step_down → Ends → (es : List Entry) → AllFollow p next es → is_lost c (entries_of Server es) ≡ false → AgreeAt es
  ends_agree commutes ends [] follow alive = record { ups = tt; downs = tt; meet = ends.start }
  ends_agree commutes ends (e ∷ es) follow alive = agree_after commutes e es
      (record { at_client = λ first h. ends.at_client e es follow.0 h; at_server = λ first h. ends.at_server e es follow.0 h })
      e.node follow.1.channels follow.1.rule alive (ends_agree commutes ends es follow.0 (not_lost_before c e.node e es alive))

  -- the first message in flight to the server may come where the server's reading stands
  first_up : (m : Up) (letters : List (Letter Up)) (s : S) → IsFirst m letters → EachMay may_up step_up (messages letters) s → may_up m s
  first_up m [] s f may = absurd f
  first_up m (letter ∷ letters) s f may = subst (λ n. may_up n s) (sym f) may.0

  -- and in flight to the client where the client's stands
  pub first_down : (m : Down) (letters : List (Letter Down)) (s : S) → IsFirst m letters → EachMay may_down step_down (messages letters) s → may_down m s
  first_down m [] s f may = absurd f
  first_down m (letter ∷ letters) s f may = subst (λ n. may_down n s) (sym f) may.0

  pub first_may_up : (es : List Entry) → AgreeAt es → (m : Up) → IsFirst m (up_in_flight c es) → may_up m (server (counted (entries_of Server es)))
  first_may_up es a m f = first_up m (up_in_flight c es) (server (counted (entries_of Server es))) f a.ups

  pub first_may_down : (es : List Entry) → AgreeAt es → (m : Down) → IsFirst m (down_in_flight c es) → may_down m (client (entries_of (Client c) es))
  first_may_down es a m f = first_down m (down_in_flight c es) (client (entries_of (Client c) es)) f a.downs

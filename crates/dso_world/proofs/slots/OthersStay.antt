-- A slot that an entry doesn't touch is open with it exactly where it was open before.
use Rattle.std.specs.List.{list_any}
use Rattle.std.proofs.Common.{ℕ, suc, ◌≡◌, refl, sym, ◌∙◌, ap, Bool, true, false, cond, eqb, ltb, not, ◌&&◌, ◌||◌, Option, List, [], ◌∷◌, drop, filter, length}
use Rattle.dso_base.specs.declared.journal.Entry.{Entry}
use Rattle.dso_base.specs.declared.journal.Input.{Input}
use Rattle.dso_base.specs.declared.journal.Input.TheVariants as input
use Rattle.dso_base.specs.declared.journal.Node.{Node}
use Rattle.dso_base.specs.declared.journal.Node.TheVariants.{Server, Client}
use Rattle.dso_base.specs.declared.journal.Sent.{Sent}
use Rattle.dso_base.specs.declared.journal.Sent.TheVariants.{ToServer, ToClient}
use Rattle.dso_base.specs.declared.lock.ThreadId.{ThreadId}
use Rattle.dso_base.specs.declared.message.Down.{Down}
use Rattle.dso_base.specs.declared.request.Event.{Event}
use Rattle.dso_base.specs.declared.request.Request.{Request}
use Rattle.dso_plain.proofs.keys.SameKeys.{number_self, same_number}
use Rattle.dso_law.specs.Settings.{Settings}
use Rattle.dso_law.specs.Channels.{Letter, breaks, count_inputs, down_in_flight, is_broken, posted, rejoins, takes_down, takes_up, up_in_flight}
use Rattle.dso_law.specs.ClientStep.{may_act, may_flush}
use Rattle.dso_law.specs.Entries.{by_sent_down, by_sent_up, entries_of, events_in, if_to}
use Rattle.dso_law.specs.ServerReadings.{is_lost, is_reached, loses, taken_count}
use Rattle.dso_legal.specs.Lawful.{next_after}
use Rattle.dso_legal.specs.Slots.{Slot, Acts, TakesDown, Flushes, TakesUp, Loses, Breaks, is_any, is_loss_or_break_due, is_open}
use Rattle.dso_world.specs.Touched.{OthersStay, goes_to, is_input_of, is_touched}
use Rattle.dso_world.proofs.premises.OwnRun.{same_may_act}

-- two numbers are the same either way round
apart_too : (c d : ℕ) → eqb c d ≡ false → eqb d c ≡ false
apart_too c d other = by (eqb d c) refl
  where
    by : (b : Bool) → eqb d c ≡ b → b ≡ false
    by false is = refl
    by true is = absurd (cc (sym (number_self c) ∙ (ap (eqb c) (sym (same_number d c is)) ∙ other)))

neither : (a b : Bool) → (a || b) ≡ false → (a ≡ false) × (b ≡ false)
neither true b is = absurd (cc is)
neither false b is = (refl, is)

-- a reading of what is sent to a client stays where nothing is
none_sent : {S : Type 0} (c : ℕ) (step : Down → S → S) (sent : List Sent) (s : S) → list_any (goes_to c) sent ≡ false → by_sent_down (if_to c step) sent s ≡ s
none_sent c step [] s none = refl
none_sent c step (ToServer m ∷ rest) s none = none_sent c step rest s none
none_sent c step (ToClient d m ∷ rest) s none =
    let both = neither (eqb c d) (list_any (goes_to c) rest) none in
    ap (λ b. by_sent_down (if_to c step) rest (cond b (step m s) s)) both.0 ∙ none_sent c step rest s both.1

module _ (p : Settings) (next : ThreadId → List Event → Option Request) (e : Entry) (es : List Entry) where
  -- with the entry at this node
  abbrev at : Node → List Entry
  at node = record e { node = node } ∷ es

  -- ---- a client whose entries stay

  module _ (node : Node) (c : ℕ) (same : entries_of (Client c) (at node) ≡ entries_of (Client c) es) where
    acts_stay : (t : ThreadId) → t.client ≡ c → is_open p next (at node) (Acts t) ≡ is_open p next es (Acts t)
    acts_stay t its =
        let own : entries_of (Client t.client) (at node) ≡ entries_of (Client t.client) es = ap (λ n. entries_of (Client n) (at node)) its ∙ same ∙ ap (λ n. entries_of (Client n) es) (sym its) in
        same_may_act p t.client (next_after next (at node)) (next_after next es) (next_stays own) t (entries_of (Client t.client) (at node)) (number_self t.client)
        ∙ ap (may_act p t.client (next_after next es) t) own
      where
        next_stays : entries_of (Client t.client) (at node) ≡ entries_of (Client t.client) es → (u : ThreadId) → eqb u.client t.client ≡ true → next_after next (at node) u ≡ next_after next es u
        next_stays own u mine =
            let client : u.client ≡ t.client = same_number u.client t.client mine in
            ap (λ n. next u (events_in u (entries_of (Client n) (at node)))) client ∙ ap (λ entries. next u (events_in u entries)) own ∙ ap (λ n. next u (events_in u (entries_of (Client n) es))) (sym client)

    flushes_stay : is_open p next (at node) (Flushes c) ≡ is_open p next es (Flushes c)
    flushes_stay = ap (may_flush p c) same

  -- ---- an entry of the server that takes in nothing of the client

  record LeavesOut (c : ℕ) (input : Input) : Type 0 where
    lost : loses c input ≡ false
    taken : takes_up c input ≡ false
    broke : breaks c input ≡ false
    rejoined : rejoins c input ≡ false

  left_out : (c : ℕ) (input : Input) → is_input_of c input ≡ false → LeavesOut c input
  left_out c (input.TookUp d m) none = record { lost = refl; taken = none; broke = refl; rejoined = refl }
  left_out c (input.Lose d) none = record { lost = none; taken = refl; broke = refl; rejoined = refl }
  left_out c (input.Break d) none = record { lost = refl; taken = refl; broke = none; rejoined = refl }
  left_out c (input.Rejoin d) none = record { lost = refl; taken = refl; broke = refl; rejoined = none }
  left_out c (input.TookDown m) none = record { lost = refl; taken = refl; broke = refl; rejoined = refl }
  left_out c (input.Act index) none = record { lost = refl; taken = refl; broke = refl; rejoined = refl }
  left_out c (input.Flush o) none = record { lost = refl; taken = refl; broke = refl; rejoined = refl }

  module _ (c : ℕ) where
    abbrev server : List Entry
    server = entries_of Server es

    -- what is due, by what the entry takes in
    abbrev taken_by : Bool → ℕ
    taken_by taken = cond taken (suc (taken_count c server)) (taken_count c server)

    abbrev broke_by : Bool → ℕ
    broke_by broke = cond broke (suc (count_inputs (breaks c) server)) (count_inputs (breaks c) server)

    abbrev loss_by : Bool → Bool → Bool
    loss_by lost taken = not (lost || is_lost c server) && list_any (is_reached c (taken_by taken)) p.losses

    abbrev break_by : Bool → Bool → Bool → Bool
    break_by lost taken broke = not (lost || is_lost c server) && (not (loss_by lost taken) && ltb (broke_by broke) (length (filter (is_reached c (taken_by taken)) p.breaks)))

    -- what the server can take
    abbrev takes_by : Bool → Bool → Bool → Bool → Bool
    takes_by lost taken broke rejoined = not (loss_by lost taken || break_by lost taken broke)
        && cond (cond broke true (cond rejoined false (is_broken c server))) (not (ltb (count_inputs (rejoins c) (entries_of (Client c) es)) (broke_by broke)))
        (is_any (cond taken (drop 1 (up_in_flight c es)) (up_in_flight c es)))

    losses_stay : LeavesOut c e.input → is_open p next (at Server) (Loses c) ≡ is_open p next es (Loses c)
    losses_stay none = ap (λ lost. loss_by lost (takes_up c e.input)) none.lost ∙ ap (loss_by false) none.taken

    breaks_stay : LeavesOut c e.input → is_open p next (at Server) (Breaks c) ≡ is_open p next es (Breaks c)
    breaks_stay none = ap (λ lost. break_by lost (takes_up c e.input) (breaks c e.input)) none.lost ∙ ap (λ taken. break_by false taken (breaks c e.input)) none.taken ∙ ap (break_by false false) none.broke

    takes_stay : LeavesOut c e.input → is_open p next (at Server) (TakesUp c) ≡ is_open p next es (TakesUp c)
    takes_stay none = ap (λ lost. takes_by lost (takes_up c e.input) (breaks c e.input) (rejoins c e.input)) none.lost
        ∙ ap (λ taken. takes_by false taken (breaks c e.input) (rejoins c e.input)) none.taken
        ∙ ap (λ broke. takes_by false false broke (rejoins c e.input)) none.broke ∙ ap (takes_by false false false) none.rejoined

    -- what the client can take
    abbrev takes_down_by : Bool → Bool → List (Letter Down) → Bool
    takes_down_by broke rejoined letters = cond (cond broke true (cond rejoined false (is_broken c server)))
        (not (not (ltb (count_inputs (rejoins c) (entries_of (Client c) es)) (broke_by broke)))) (is_any letters)

    downs_stay : LeavesOut c e.input → list_any (goes_to c) e.sent ≡ false → is_open p next (at Server) (TakesDown c) ≡ is_open p next es (TakesDown c)
    downs_stay none unsent = ap (λ broke. takes_down_by broke (rejoins c e.input) (by_sent_down (if_to c (posted e.clock)) e.sent (down_in_flight c es))) none.broke
        ∙ ap (λ rejoined. takes_down_by false rejoined (by_sent_down (if_to c (posted e.clock)) e.sent (down_in_flight c es))) none.rejoined
        ∙ ap (takes_down_by false false) (none_sent c (posted e.clock) e.sent (down_in_flight c es) unsent)

  server_leaves : (slot : Slot) → is_touched Server e.input e.sent slot ≡ false → is_open p next (at Server) slot ≡ is_open p next es slot
  server_leaves (Acts t) none = acts_stay Server t.client refl t refl
  server_leaves (Flushes c) none = flushes_stay Server c refl
  server_leaves (TakesDown c) none =
      let both = neither (is_input_of c e.input) (list_any (goes_to c) e.sent) none in
      downs_stay c (left_out c e.input both.0) both.1
  server_leaves (TakesUp c) none = takes_stay c (left_out c e.input none)
  server_leaves (Loses c) none = losses_stay c (left_out c e.input none)
  server_leaves (Breaks c) none = breaks_stay c (left_out c e.input none)

  -- ---- an entry of another client

  module _ (d c : ℕ) (other : eqb d c ≡ false) where
    own_stay : entries_of (Client c) (at (Client d)) ≡ entries_of (Client c) es
    own_stay = ap (λ b. cond b (record e { node = Client d } ∷ entries_of (Client c) es) (entries_of (Client c) es)) (apart_too d c other)

    takes_down_stay : is_open p next (at (Client d)) (TakesDown c) ≡ is_open p next es (TakesDown c)
    takes_down_stay = ap (λ b. cond (is_broken c (entries_of Server es))
        (not (not (ltb (count_inputs (rejoins c) (cond b (record e { node = Client d } ∷ entries_of (Client c) es) (entries_of (Client c) es))) (count_inputs (breaks c) (entries_of Server es)))))
        (is_any (cond b (cond (takes_down e.input) (drop 1 (down_in_flight c es)) (down_in_flight c es)) (down_in_flight c es)))) (apart_too d c other)

    takes_up_stay : is_open p next (at (Client d)) (TakesUp c) ≡ is_open p next es (TakesUp c)
    takes_up_stay = ap (λ b. not (is_loss_or_break_due p c es) && cond (is_broken c (entries_of Server es))
        (not (ltb (count_inputs (rejoins c) (cond b (record e { node = Client d } ∷ entries_of (Client c) es) (entries_of (Client c) es))) (count_inputs (breaks c) (entries_of Server es))))
        (is_any (cond b (by_sent_up (posted e.clock) e.sent (up_in_flight c es)) (up_in_flight c es)))) (apart_too d c other)

  client_leaves : (d : ℕ) (slot : Slot) → is_touched (Client d) e.input e.sent slot ≡ false → is_open p next (at (Client d)) slot ≡ is_open p next es slot
  client_leaves d (Acts t) none = acts_stay (Client d) t.client (own_stay d t.client none) t refl
  client_leaves d (Flushes c) none = flushes_stay (Client d) c (own_stay d c none)
  client_leaves d (TakesDown c) none = takes_down_stay d c none
  client_leaves d (TakesUp c) none = takes_up_stay d c none
  client_leaves d (Loses c) none = refl
  client_leaves d (Breaks c) none = refl

-- Others stay.
pub others_stay : OthersStay
others_stay p next e es slot none = by e.node none
  where
    by : (node : Node) → is_touched node e.input e.sent slot ≡ false → is_open p next (record e { node = node } ∷ es) slot ≡ is_open p next es slot
    by Server none = server_leaves p next e es slot none
    by (Client d) none = client_leaves p next e es d slot none

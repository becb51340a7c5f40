-- A journal is replayed: each entry is made again from its node and its input, by the rules, and is what it was. Then it is lawful.
use Rattle.std.specs.Prelude.{ℕ, suc, max, ◌≡◌, Bool, true, false, cond, eqb, Option, Some, None, List, [], ◌∷◌, ◌++◌, map}
use Rattle.std.specs.List.{list_any}
use Rattle.std.proofs.Common.{refl, sym, ap}
use Rattle.dso_base.specs.declared.journal.Entry.{Entry}
use Rattle.dso_base.specs.declared.journal.Input.{Input}
use Rattle.dso_base.specs.declared.journal.Input.TheVariants as input
use Rattle.dso_base.specs.declared.journal.Node.{Node}
use Rattle.dso_base.specs.declared.journal.Node.TheVariants.{Server, Client}
use Rattle.dso_base.specs.declared.journal.Sent.{Sent}
use Rattle.dso_base.specs.declared.journal.Sent.TheVariants.{ToServer}
use Rattle.dso_base.specs.declared.lock.ThreadId.{ThreadId}
use Rattle.dso_base.specs.declared.message.Down.{Down}
use Rattle.dso_base.specs.declared.message.Up.{Up}
use Rattle.dso_base.specs.declared.message.Up.TheVariants as up
use Rattle.dso_base.specs.declared.request.Event.{Event}
use Rattle.dso_base.specs.declared.request.Event.TheVariants.{Act}
use Rattle.dso_base.specs.declared.request.Reply.{Reply}
use Rattle.dso_base.specs.declared.request.Request.{Request}
use Rattle.dso_base.specs.Following.{is_thread}
use Rattle.dso_law.specs.Channels.{Letter, up_in_flight, down_in_flight, IsFirst, TakesFirst, last_clock, taken_clock}
use Rattle.dso_law.specs.ClientStep.{commits, returns, asks_again, Does, Asks, DoesOrAsks, ActsOn, is_full, is_flushable, ClientStepOn}
use Rattle.dso_law.specs.Entries.{entries_of, unsent}
use Rattle.dso_law.specs.RequestNeeds.{Need, unmet, ask_for}
use Rattle.dso_law.specs.Replies.{woken_by, reply_of}
use Rattle.dso_law.specs.ServerReadings.{is_lost, counted, is_loss_due, is_break_due}
use Rattle.dso_law.specs.ServerStep.{answers, HeardOrLost, ServerStepOn}
use Rattle.dso_law.specs.Granting.{serves_all}
use Rattle.dso_law.specs.Settings.{Settings, clients_of}
use Rattle.dso_legal.specs.Lawful.{next_after, NodeFollows, MayFollow, AllFollow, IsLawful}
use Rattle.dso_legal.proofs.journals.Checks.{Checked, is_true, is_false, both, each, same_number, fits_down, fits_up, fits_connection, counts_rejoins}

-- ---- what is due of an entry

-- an entry's event, and what it sends
pub record Due : Type 0 where
  pub event : Option Event
  pub sent : List Sent

abbrev due_of : Entry → Due
due_of e = record { event = e.event; sent = e.sent }

-- no event, and these messages
abbrev only_sent : List Sent → Option Due
only_sent sent = Some (record { event = None; sent = sent })

-- what is there is the same where its options are
abbrev or_else : {X : Type 0} → X → Option X → X
or_else other None = other
or_else other (Some x) = x

same_in : {X : Type 0} (x y : X) → Some x ≡ Some y → x ≡ y
same_in x y same = ap (or_else x) same

-- what is sent and no event, as the entry has them
is_only_sent : (e : Entry) (sent : List Sent) → only_sent sent ≡ Some (due_of e) → (e.event ≡ None) × (e.sent ≡ sent)
is_only_sent e sent same =
    let due : record { event = None; sent = sent } ≡ due_of e = same_in (record { event = None; sent = sent }) (due_of e) same in
    (sym (ap (λ (d : Due). d.event) due), sym (ap (λ (d : Due). d.sent) due))

-- what is due only where a test passes
where_passed : (b : Bool) (due : Option Due) (d : Due) → cond b due None ≡ Some d → (b ≡ true) × (due ≡ Some d)
where_passed true due d same = (refl, same)
where_passed false due d same = absurd (cc same)

-- ---- a client's entry

module _ (p : Settings) (c : ℕ) (before after : ThreadId → Option Request) (e : Entry) (es : List Entry) where
  -- an act with its reply
  abbrev act_due : ThreadId → Request → Option Reply → Option Due
  act_due t request None = None
  act_due t request (Some reply) = Some (record {
    event = Some (Act t request reply (woken_by request reply es));
    sent = map ToServer (commits p t (Act t request reply (woken_by request reply es)) es ++ returns p c after (unsent e ∷ es) ++ asks_again p c before after (after t) (unsent e ∷ es) es);
  })

  -- or an ask for what it needs
  abbrev ask_due : Option Up → Option Due
  ask_due None = None
  ask_due (Some m) = only_sent (map ToServer (returns p c after (unsent e ∷ es) ++ m ∷ []))

  abbrev act_or_ask_due : ThreadId → Request → Option Need → Option Due
  act_or_ask_due t request None = act_due t request (reply_of p t request es)
  act_or_ask_due t request (Some need) = ask_due (ask_for need es)

  abbrev turn_due : ThreadId → Option Request → Option Due
  turn_due t None = None
  turn_due t (Some request) = act_or_ask_due t request (unmet p c before t request es)

  -- by what the entry takes in
  abbrev client_due : Input → Option Due
  client_due (input.Act index) = cond (list_any (is_thread (record { client = c; index = index })) p.threads) (turn_due (record { client = c; index = index }) (before (record { client = c; index = index }))) None
  client_due (input.TookDown m) = cond (fits_down p c m es).passes (only_sent (map ToServer (returns p c after (unsent e ∷ es)))) None
  client_due (input.Flush o) = cond (both (is_true (is_full p es)) (is_true (is_flushable p c o es))).passes (only_sent (ToServer (up.Flushed o) ∷ [])) None
  client_due (input.Rejoin d) = cond (same_number d c).passes (only_sent []) None
  client_due other = None

  does : (t : ThreadId) (request : Request) (answer : Option Reply) → reply_of p t request es ≡ answer → act_due t request answer ≡ Some (due_of e) → Does p c t request before after e es
  does t request None answered same = absurd (cc same)
  does t request (Some reply) answered same =
      let made : Due = record {
        event = Some (Act t request reply (woken_by request reply es));
        sent = map ToServer (commits p t (Act t request reply (woken_by request reply es)) es ++ returns p c after (unsent e ∷ es) ++ asks_again p c before after (after t) (unsent e ∷ es) es);
      } in
      let due : made ≡ due_of e = same_in made (due_of e) same in
      record { reply = reply; answered = answered; event = sym (ap (λ (d : Due). d.event) due); sends = sym (ap (λ (d : Due). d.sent) due) }

  asks : (need : Need) (asked : Option Up) → ask_for need es ≡ asked → ask_due asked ≡ Some (due_of e) → Asks p c need after e es
  asks need None is same = absurd (cc same)
  asks need (Some m) is same =
      let due = is_only_sent e (map ToServer (returns p c after (unsent e ∷ es) ++ m ∷ [])) same in
      record { message = m; asked = is; event = due.0; sends = due.1 }

  does_or_asks : (t : ThreadId) (request : Request) (need : Option Need) → act_or_ask_due t request need ≡ Some (due_of e) → DoesOrAsks p c t request need before after e es
  does_or_asks t request None same = does t request (reply_of p t request es) refl same
  does_or_asks t request (Some need) same = asks need (ask_for need es) refl same

  acts_on : (t : ThreadId) (request : Option Request) → turn_due t request ≡ Some (due_of e) → ActsOn p c t request before after e es
  acts_on t None same = absurd (cc same)
  acts_on t (Some request) same = does_or_asks t request (unmet p c before t request es) same

  client_step : (taken : Input) → client_due taken ≡ Some (due_of e) → ClientStepOn p c taken before after e es
  client_step (input.Act index) same =
      let t : ThreadId = record { client = c; index = index } in
      let made = where_passed (list_any (is_thread t) p.threads) (turn_due t (before t)) (due_of e) same in
      record { its = made.0; acts = acts_on t (before t) made.1 }
  client_step (input.TookDown m) same =
      let sent : List Sent = map ToServer (returns p c after (unsent e ∷ es)) in
      let made = where_passed (fits_down p c m es).passes (only_sent sent) (due_of e) same in
      let due = is_only_sent e sent made.1 in
      record { fits = (fits_down p c m es).holds made.0; event = due.0; sends = due.1 }
  client_step (input.Flush o) same =
      let may : Checked ((is_full p es ≡ true) × (is_flushable p c o es ≡ true)) = both (is_true (is_full p es)) (is_true (is_flushable p c o es)) in
      let made = where_passed may.passes (only_sent (ToServer (up.Flushed o) ∷ [])) (due_of e) same in
      let due = is_only_sent e (ToServer (up.Flushed o) ∷ []) made.1 in
      record { may = record { full = (may.holds made.0).0; flushable = (may.holds made.0).1 }; event = due.0; sends = due.1 }
  client_step (input.Rejoin d) same =
      let made = where_passed (same_number d c).passes (only_sent []) (due_of e) same in
      let due = is_only_sent e [] made.1 in
      record { its = (same_number d c).holds made.0; event = due.0; sends = due.1 }
  client_step (input.TookUp d m) same = absurd (cc same)
  client_step (input.Lose d) same = absurd (cc same)
  client_step (input.Break d) same = absurd (cc same)

-- ---- an entry of the server

module _ (p : Settings) (e : Entry) (es : List Entry) where
  -- the answer to a message, none to that of a lost client
  abbrev heard_due : ℕ → Up → Bool → Option Due
  heard_due c m true = only_sent []
  heard_due c m false = cond (fits_up p c m (counted es)).passes (only_sent (answers p c m (unsent e ∷ counted es))) None

  -- the client is one of the cluster's
  abbrev is_client : (c : ℕ) → Checked (list_any (eqb c) (clients_of p) ≡ true)
  is_client c = is_true (list_any (eqb c) (clients_of p))

  -- it is, and neither its loss nor a break of its connection is due
  abbrev none_due : (c : ℕ) → Checked ((list_any (eqb c) (clients_of p) ≡ true) × ((is_loss_due p c es ≡ false) × (is_break_due p c es ≡ false)))
  none_due c = both (is_client c) (both (is_false (is_loss_due p c es)) (is_false (is_break_due p c es)))

  -- by what the entry takes in
  abbrev server_due : Input → Option Due
  server_due (input.TookUp c m) = cond (none_due c).passes (heard_due c m (is_lost c es)) None
  server_due (input.Lose c) = cond (both (is_client c) (is_true (is_loss_due p c es))).passes (only_sent (serves_all p (unsent e ∷ counted es))) None
  server_due (input.Break c) = cond (both (is_client c) (is_true (is_break_due p c es))).passes (only_sent []) None
  server_due (input.Rejoin c) = cond (is_client c).passes (only_sent []) None
  server_due other = None

  heard : (c : ℕ) (m : Up) (lost : Bool) → heard_due c m lost ≡ Some (due_of e) → (e.event ≡ None) × HeardOrLost p c m lost e (counted es)
  heard c m true same = is_only_sent e [] same
  heard c m false same =
      let made = where_passed (fits_up p c m (counted es)).passes (only_sent (answers p c m (unsent e ∷ counted es))) (due_of e) same in
      let due = is_only_sent e (answers p c m (unsent e ∷ counted es)) made.1 in
      (due.0, record { fits = (fits_up p c m (counted es)).holds made.0; sends = due.1 })

  server_step : (taken : Input) → server_due taken ≡ Some (due_of e) → ServerStepOn p taken e es
  server_step (input.TookUp c m) same =
      let made = where_passed (none_due c).passes (heard_due c m (is_lost c es)) (due_of e) same in
      let may = (none_due c).holds made.0 in
      let answered = heard c m (is_lost c es) made.1 in
      record { its = may.0; no_loss = may.1.0; no_break = may.1.1; event = answered.0; heard = answered.1 }
  server_step (input.Lose c) same =
      let may : Checked ((list_any (eqb c) (clients_of p) ≡ true) × (is_loss_due p c es ≡ true)) = both (is_client c) (is_true (is_loss_due p c es)) in
      let made = where_passed may.passes (only_sent (serves_all p (unsent e ∷ counted es))) (due_of e) same in
      let due = is_only_sent e (serves_all p (unsent e ∷ counted es)) made.1 in
      record { its = (may.holds made.0).0; due = (may.holds made.0).1; event = due.0; sends = due.1 }
  server_step (input.Break c) same =
      let may : Checked ((list_any (eqb c) (clients_of p) ≡ true) × (is_break_due p c es ≡ true)) = both (is_client c) (is_true (is_break_due p c es)) in
      let made = where_passed may.passes (only_sent []) (due_of e) same in
      let due = is_only_sent e [] made.1 in
      record { its = (may.holds made.0).0; due = (may.holds made.0).1; event = due.0; sends = due.1 }
  server_step (input.Rejoin c) same =
      let made = where_passed (is_client c).passes (only_sent []) (due_of e) same in
      let due = is_only_sent e [] made.1 in
      record { its = (is_client c).holds made.0; event = due.0; sends = due.1 }
  server_step (input.Act index) same = absurd (cc same)
  server_step (input.TookDown m) same = absurd (cc same)
  server_step (input.Flush o) same = absurd (cc same)

-- ---- what an entry takes

-- the first message in flight, where an entry takes one; any other input as it is
abbrev first_up : ℕ → List (Letter Up) → Option Input
first_up c [] = None
first_up c (letter ∷ letters) = Some (input.TookUp c letter.message)

abbrev first_down : List (Letter Down) → Option Input
first_down [] = None
first_down (letter ∷ letters) = Some (input.TookDown letter.message)

abbrev input_due : Input → Node → List Entry → Option Input
input_due (input.TookUp c m) Server es = first_up c (up_in_flight c es)
input_due (input.TookDown m) (Client c) es = first_down (down_in_flight c es)
input_due taken node es = Some taken

-- the message that an input takes, if it is one of this kind
abbrev up_in : Up → Option Input → Up
up_in other (Some (input.TookUp c m)) = m
up_in other taken = other

abbrev down_in : Down → Option Input → Down
down_in other (Some (input.TookDown m)) = m
down_in other taken = other

is_first_up : (c : ℕ) (m : Up) (letters : List (Letter Up)) → first_up c letters ≡ Some (input.TookUp c m) → IsFirst m letters
is_first_up c m [] same = absurd (cc same)
is_first_up c m (letter ∷ letters) same = sym (ap (up_in m) same)

is_first_down : (m : Down) (letters : List (Letter Down)) → first_down letters ≡ Some (input.TookDown m) → IsFirst m letters
is_first_down m [] same = absurd (cc same)
is_first_down m (letter ∷ letters) same = sym (ap (down_in m) same)

takes_first : (taken : Input) (node : Node) (es : List Entry) → input_due taken node es ≡ Some taken → TakesFirst taken node es
takes_first (input.TookUp c m) Server es same = is_first_up c m (up_in_flight c es) same
takes_first (input.TookDown m) (Client c) es same = is_first_down m (down_in_flight c es) same
takes_first taken node es same = tt

-- ---- an entry made again

module _ (p : Settings) (next : ThreadId → List Event → Option Request) where
  -- by its node
  abbrev due_at : Node → Entry → List Entry → Option Due
  due_at Server e es = cond (fits_connection e.input (entries_of Server es)).passes (server_due p e (entries_of Server es) e.input) None
  due_at (Client c) e es = cond (list_any (eqb c) (clients_of p)) (client_due p c (next_after next es) (next_after next (e ∷ es)) e (entries_of (Client c) es) e.input) None

  follows : (node : Node) (e : Entry) (es : List Entry) → due_at node e es ≡ Some (due_of e) → NodeFollows p next node e es
  follows Server e es same =
      let made = where_passed (fits_connection e.input (entries_of Server es)).passes (server_due p e (entries_of Server es) e.input) (due_of e) same in
      record { step = server_step p e (entries_of Server es) e.input made.1; connection = (fits_connection e.input (entries_of Server es)).holds made.0 }
  follows (Client c) e es same =
      let made = where_passed (list_any (eqb c) (clients_of p)) (client_due p c (next_after next es) (next_after next (e ∷ es)) e (entries_of (Client c) es) e.input) (due_of e) same in
      record { its = made.0; step = client_step p c (next_after next es) (next_after next (e ∷ es)) e (entries_of (Client c) es) e.input made.1 }

  -- the clock, the input, and what is due, put together
  abbrev put_together : Entry → List Entry → Option Input → Option Due → Option Entry
  put_together e es (Some taken) (Some due) = Some (record { clock = suc (max (last_clock e.node es) (taken_clock e.input e.node es)); node = e.node; input = taken; sent = due.sent; event = due.event })
  put_together e es (Some taken) None = None
  put_together e es None due = None

  -- the entry as its rules make it, if they allow one of its input at its node
  abbrev pub remade : Entry → List Entry → Option Entry
  remade e es = put_together e es (input_due e.input e.node es) (due_at e.node e es)

  -- an entry that is what the rules make
  pub record IsRemade (e : Entry) (es : List Entry) (taken : Option Input) (due : Option Due) : Type 0 where
    pub clock : e.clock ≡ suc (max (last_clock e.node es) (taken_clock e.input e.node es))
    pub taken_in : taken ≡ Some e.input
    pub made : due ≡ Some (due_of e)

  is_remade : (e : Entry) (es : List Entry) (taken : Option Input) (due : Option Due) → put_together e es taken due ≡ Some e → IsRemade e es taken due
  is_remade e es None due same = absurd (cc same)
  is_remade e es (Some taken) None same = absurd (cc same)
  is_remade e es (Some taken) (Some due) same =
      let entry : Entry = record { clock = suc (max (last_clock e.node es) (taken_clock e.input e.node es)); node = e.node; input = taken; sent = due.sent; event = due.event } in
      let whole : entry ≡ e = same_in entry e same in
      record { clock = sym (ap (λ (x : Entry). x.clock) whole); taken_in = ap (λ (x : Entry). Some x.input) whole; made = ap (λ (x : Entry). Some (due_of x)) whole }

  may_follow : (e : Entry) (es : List Entry) → remade e es ≡ Some e → MayFollow p next e es
  may_follow e es same =
      let is = is_remade e es (input_due e.input e.node es) (due_at e.node e es) same in
      record { channels = takes_first e.input e.node es is.taken_in; clocks = is.clock; rule = follows e.node e es is.made }

  -- each entry made again after those before it
  abbrev pub replayed : List Entry → List (Option Entry)
  replayed [] = []
  replayed (e ∷ es) = remade e es ∷ replayed es

  abbrev first_or_none : List (Option Entry) → Option Entry
  first_or_none [] = None
  first_or_none (entry ∷ entries) = entry

  abbrev behind_first : List (Option Entry) → List (Option Entry)
  behind_first [] = []
  behind_first (entry ∷ entries) = entries

  all_follow : (es : List Entry) → replayed es ≡ map Some es → AllFollow p next es
  all_follow [] same = tt
  all_follow (e ∷ es) same = (all_follow es (ap behind_first same), may_follow e es (ap first_or_none same))

  -- A journal is lawful that replayed is what it was, and in which no client's connection is taken up too often. Both are computed.
  pub lawful_by_replay : (es : List Entry) → replayed es ≡ map Some es → (each (counts_rejoins es) (clients_of p)).passes ≡ true → IsLawful p next es
  lawful_by_replay es same counted = record { follow = all_follow es same; connections = (each (counts_rejoins es) (clients_of p)).holds counted }

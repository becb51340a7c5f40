-- What a thread ended before it settled is committed. The records that a client sent and the server didn't take are among those
-- that aren't acknowledged, of a lost client too: once all in flight to the client is taken, they are just these.
use Rattle.std.specs.List.{list_any}
use Rattle.std.proofs.Common.{ℕ, ◌≡◌, inl, inr, refl, sym, ◌∙◌, ap, subst, Bool, true, false, cond, not, eqb, ◌||◌, Option, Some, None, List, [], ◌∷◌, ◌++◌}
use Rattle.std.specs.Prelude.{drop}
use Rattle.std.proofs.lemmas.List.{append_assoc, append-nil, drop-append-le, take-append-drop}
use Rattle.dso_base.specs.declared.journal.Entry.{Entry}
use Rattle.dso_base.specs.declared.journal.Input.{Input}
use Rattle.dso_base.specs.declared.journal.Input.TheVariants as input
use Rattle.dso_base.specs.declared.journal.Node.{Node}
use Rattle.dso_base.specs.declared.journal.Node.TheVariants.{Server, Client}
use Rattle.dso_base.specs.declared.lock.ThreadId.{ThreadId}
use Rattle.dso_base.specs.declared.message.Down.{Down}
use Rattle.dso_base.specs.declared.message.Down.TheVariants as down
use Rattle.dso_base.specs.declared.message.Up.{Up}
use Rattle.dso_base.specs.declared.message.Up.TheVariants as up
use Rattle.dso_base.specs.declared.record.Txn.{Txn}
use Rattle.dso_base.specs.declared.request.Event.{Event}
use Rattle.dso_base.specs.declared.request.Event.TheVariants.{Act}
use Rattle.dso_base.specs.declared.request.Reply.{Reply}
use Rattle.dso_base.specs.declared.request.Request.{Request}
use Rattle.dso_base.specs.declared.request.Request.TheVariants.{Settle}
use Rattle.dso_base.specs.declared.shape.Shape.{Shape}
use Rattle.dso_base.specs.Following.{is_thread}
use Rattle.dso_plain.specs.History.{events_of}
use Rattle.dso_plain.proofs.histories.LegalGoesOn.{events_in_parts}
use Rattle.dso_plain.proofs.keys.SameKeys.{same_number}
use Rattle.dso_law.specs.Channels.{Letter, IsFirst, TakesFirst, takes_down, up_in_flight, down_in_flight}
use Rattle.dso_law.specs.Entries.{entries_of, by_taken_down}
use Rattle.dso_law.specs.Records.{unacked, unacked_by_taken, unacked_by_sent, is_settled}
use Rattle.dso_law.specs.RequestNeeds.{NeedsAck, unmet, unless}
use Rattle.dso_law.specs.ServerReadings.{is_lost}
use Rattle.dso_law.specs.Settings.{Settings}
use Rattle.dso_legal.specs.Agreement.{messages, after, EachMay}
use Rattle.dso_legal.specs.Committed.{committed_at, committed, ended_blocks}
use Rattle.dso_legal.specs.Lawful.{next_after, ClientFollows, NodeFollows, AllFollow}
use Rattle.dso_legal.specs.Numbered.{Always, IsOfFirst}
use Rattle.dso_legal.specs.PendingBlocks.{joined, handed_in, taken_in, pending, records_in, records_sent, AreRecordsOf}
use Rattle.dso_legal.specs.Resolved.{AreResolved}
use Rattle.dso_legal.specs.Settled.{SettledAreCommitted}
use Rattle.dso_legal.proofs.blocks.ClientBlocks.{joined_parts, no_events}
use Rattle.dso_legal.proofs.blocks.Histories.{holds_blocks}
use Rattle.dso_legal.proofs.blocks.OwnActs.{IsNextAct, next_act}
use Rattle.dso_legal.proofs.blocks.ResolvedBlocks.{resolved_of, history_resolved}
use Rattle.dso_legal.specs.AsMade.{as_made}
use Rattle.dso_legal.proofs.channels.AfterEntry.{OwnTurn, own_turn, other_turn, server_turn}
use Rattle.dso_legal.proofs.channels.Agreement.{up_past}
use Rattle.dso_legal.proofs.channels.InFlight.{said_of, said_status}
use Rattle.dso_legal.proofs.fitting.LostClients.{lost_told_none}
use Rattle.dso_legal.proofs.fitting.WaysDown.{downs_come}
use Rattle.dso_legal.proofs.records.ClientRecords.{records_more, records_are}
use Rattle.dso_legal.proofs.records.HandedIn.{hands_in, few_sent, records_dropped}
use Rattle.dso_legal.proofs.records.Handing.{lost_after_hands}
use Rattle.dso_legal.proofs.records.Numbered.{queue_commutes, queue_ends, records_in_order}

-- the records among what is said stand at the end of those that aren't acknowledged
queue_is : (ms : List Up) (txns : List Txn) → after unacked_by_sent ms txns ≡ txns ++ records_in ms
queue_is [] txns = sym (append-nil txns)
queue_is (up.Commit txn ∷ ms) txns = queue_is ms (txns ++ txn ∷ []) ∙ append_assoc txns (txn ∷ []) (records_in ms)
queue_is (m ∷ ms) txns = queue_is ms txns

-- what is said and what is in flight may be heard in either order
either_order : (ms : List Up) (downs : List Down) (txns : List Txn) → EachMay IsOfFirst unacked_by_taken downs txns
    → after unacked_by_taken downs (after unacked_by_sent ms txns) ≡ after unacked_by_sent ms (after unacked_by_taken downs txns)
either_order [] downs txns may = refl
either_order (m ∷ ms) downs txns may =
    let past = up_past Always unacked_by_sent IsOfFirst unacked_by_taken queue_commutes m downs txns tt may in
    either_order ms downs (unacked_by_sent m txns) past.comes ∙ ap (after unacked_by_sent ms) past.same

-- the first message is taken
first_taken : (c : ℕ) (i : Input) (letters : List (Letter Down)) (es : List Entry) (txns : List Txn) → letters ≡ down_in_flight c es → TakesFirst i (Client c) es
    → after unacked_by_taken (cond (takes_down i) (drop 1 (messages letters)) (messages letters)) (by_taken_down unacked_by_taken i txns) ≡ after unacked_by_taken (messages letters) txns
first_taken c (input.TookDown m) [] es txns same first = absurd (subst (IsFirst m) (sym same) first)
first_taken c (input.TookDown m) (letter ∷ letters) es txns same first =
    let it : IsFirst m (letter ∷ letters) = subst (IsFirst m) (sym same) first in
    ap (λ n. after unacked_by_taken (messages letters) (unacked_by_taken n txns)) it
first_taken c other letters es txns same first = refl

module _ (p : Settings) (next : ThreadId → List Event → Option Request) (c : ℕ) where
  -- the records that aren't acknowledged once all in flight to the client is taken
  abbrev left_over : List Entry → List Txn
  left_over es = after unacked_by_taken (messages (down_in_flight c es)) (unacked (entries_of (Client c) es))

  -- those that were sent and not taken
  abbrev untaken : List Entry → List Txn
  untaken es = drop (handed_in c es) (records_sent (entries_of (Client c) es))

  -- of a client that isn't lost
  alive_left : (es : List Entry) → AllFollow p next es → is_lost c (entries_of Server es) ≡ false → left_over es ≡ untaken es
  alive_left es follow alive = sym (records_in_order p next es follow c alive).acknowledged.meet ∙ queue_is (messages (up_in_flight c es)) [] ∙ (hands_in p next c es follow alive).in_flight

  -- after an entry by which, or before which, the client is lost
  module _ (e : Entry) (es : List Entry) (follow : AllFollow p next (e ∷ es)) (lost : is_lost c (entries_of Server (e ∷ es)) ≡ true) (before : left_over es ≡ untaken es) where
    abbrev own : List Entry
    own = entries_of (Client c) es

    -- as many were taken
    as_many : handed_in c (e ∷ es) ≡ handed_in c es
    as_many = lost_after_hands p next c e es lost

    -- where the client has no entry, and nothing more is told to it
    still_left : messages (down_in_flight c (e ∷ es)) ≡ messages (down_in_flight c es) → entries_of (Client c) (e ∷ es) ≡ own → left_over (e ∷ es) ≡ untaken (e ∷ es)
    still_left way same = ap (λ ms. after unacked_by_taken ms (unacked (entries_of (Client c) (e ∷ es)))) way ∙ ap (λ mine. after unacked_by_taken (messages (down_in_flight c es)) (unacked mine)) same
        ∙ before ∙ sym (ap (λ n. drop n (records_sent (entries_of (Client c) (e ∷ es)))) as_many ∙ ap (λ mine. drop (handed_in c es) (records_sent mine)) same)

    -- the client's own entry
    own_left : e.node ≡ Client c → left_over (e ∷ es) ≡ untaken (e ∷ es)
    own_left node =
        let turn : OwnTurn c e es = own_turn c e es node in
        let said : List Up = said_of e.sent in
        let ms : List Down = messages (down_in_flight c es) in
        let left : List Down = cond (takes_down e.input) (drop 1 ms) ms in
        let txns : List Txn = by_taken_down unacked_by_taken e.input (unacked own) in
        let first : TakesFirst e.input (Client c) es = subst (λ n. TakesFirst e.input n es) node follow.1.channels in
        let comes : EachMay IsOfFirst unacked_by_taken left txns = taken_comes e.input (down_in_flight c es) (unacked own) refl first
        (downs_come p next c Always unacked_by_sent IsOfFirst unacked_by_taken unacked (λ es. []) queue_commutes (queue_ends p next c) es follow.0) in
        ap (λ downs. after unacked_by_taken downs (unacked (entries_of (Client c) (e ∷ es)))) turn.down
        ∙ ap (λ mine. after unacked_by_taken left (unacked mine)) turn.own
        ∙ ap (after unacked_by_taken left) (said_status unacked_by_sent e.sent txns)
        ∙ either_order said left txns comes
        ∙ ap (after unacked_by_sent said) (first_taken c e.input (down_in_flight c es) es (unacked own) refl first ∙ before)
        ∙ queue_is said (untaken es)
        ∙ sym (ap (λ n. drop n (records_sent (entries_of (Client c) (e ∷ es)))) as_many ∙ ap (λ mine. drop (handed_in c es) (records_sent mine)) turn.own
        ∙ ap (drop (handed_in c es)) (records_more e own) ∙ drop-append-le (handed_in c es) (records_sent own) (records_in said) (few_sent p next c es follow.0))
      where
        taken_comes : (i : Input) (letters : List (Letter Down)) (txns : List Txn) → letters ≡ down_in_flight c es → TakesFirst i (Client c) es → EachMay IsOfFirst unacked_by_taken (messages letters) txns
            → EachMay IsOfFirst unacked_by_taken (cond (takes_down i) (drop 1 (messages letters)) (messages letters)) (by_taken_down unacked_by_taken i txns)
        taken_comes (input.TookDown m) [] txns same first h = tt
        taken_comes (input.TookDown m) (letter ∷ letters) txns same first h =
            let it : IsFirst m (letter ∷ letters) = subst (IsFirst m) (sym same) first in
            subst (λ n. EachMay IsOfFirst unacked_by_taken (messages letters) (unacked_by_taken n txns)) (sym it) h.1
        taken_comes other letters txns same first h = h

    left_at : (node : Node) → e.node ≡ node → left_over (e ∷ es) ≡ untaken (e ∷ es)
    left_at Server node = still_left ((server_turn c e es node).down ∙ ap (λ ms. messages (down_in_flight c es) ++ ms) (lost_told_none p next c e es follow node lost) ∙ append-nil (messages (down_in_flight c es)))
        (server_turn c e es node).own
    left_at (Client d) node = by (eqb c d) refl
      where
        by : (b : Bool) → eqb c d ≡ b → left_over (e ∷ es) ≡ untaken (e ∷ es)
        by true same = own_left (node ∙ ap Client (sym (same_number c d same)))
        by false other = still_left (ap messages (other_turn c d e es node other).down) (other_turn c d e es node other).own

  -- What isn't acknowledged, once all in flight to the client is taken, is what the server didn't take, of a lost client too.
  pub left_untaken : (es : List Entry) → AllFollow p next es → left_over es ≡ untaken es
  left_untaken [] follow = refl
  left_untaken (e ∷ es) follow = by (is_lost c (entries_of Server (e ∷ es))) refl (left_untaken es follow.0)
    where
      by : (b : Bool) → is_lost c (entries_of Server (e ∷ es)) ≡ b → left_over es ≡ untaken es → left_over (e ∷ es) ≡ untaken (e ∷ es)
      by true lost before = left_at e es follow lost before e.node refl
      by false alive before = alive_left (e ∷ es) follow alive

-- what no record of a list is, none is of those left when acknowledgements are taken
none_left : (test : Txn → Bool) (ms : List Down) (txns : List Txn) → list_any test txns ≡ false → list_any test (after unacked_by_taken ms txns) ≡ false
none_left test [] txns none = none
none_left test (m ∷ ms) txns none = none_left test ms (unacked_by_taken m txns) (one m txns none)
  where
    second : (a b : Bool) → (a || b) ≡ false → b ≡ false
    second true b none = absurd (cc none)
    second false b none = none

    one : (m : Down) (txns : List Txn) → list_any test txns ≡ false → list_any test (unacked_by_taken m txns) ≡ false
    one (down.Ack seq) [] none = refl
    one (down.Ack seq) (txn ∷ txns) none = second (test txn) (list_any test txns) none
    one m txns none = none

-- blocks none of whose records is of the thread have no event of it
none_of_thread : (shape : Shape) (t : ThreadId) (before : List (List Event)) (txns : List Txn) (blocks : List (List Event)) → AreRecordsOf shape before txns blocks
    → list_any (λ txn. is_thread t txn.thread) txns ≡ false → events_of t (joined blocks) ≡ []
none_of_thread shape t before [] [] are none = refl
none_of_thread shape t before (txn ∷ txns) (block ∷ blocks) are none = by (is_thread t txn.thread) refl none (none_of_thread shape t (before ++ block ∷ []) txns blocks are.1)
  where
    by : (b : Bool) → is_thread t txn.thread ≡ b → (b || list_any (λ txn. is_thread t txn.thread) txns) ≡ false → (list_any (λ txn. is_thread t txn.thread) txns ≡ false → events_of t (joined blocks) ≡ [])
        → events_of t (block ++ joined blocks) ≡ []
    by true its none rest = absurd (cc none)
    by false other none rest = events_in_parts t block (joined blocks) ∙ ap (λ events. events ++ events_of t (joined blocks)) (no_events t txn.thread block other are.0.acts) ∙ rest none
none_of_thread shape t before [] (block ∷ blocks) are none = absurd are
none_of_thread shape t before (txn ∷ txns) [] are none = absurd are

module _ (p : Settings) (next : ThreadId → List Event → Option Request) (t : ThreadId) where
  module _ (es : List Entry) (follow : AllFollow p next es) (settled : is_settled t (entries_of (Client t.client) es) ≡ true) where
    abbrev mine : List Entry
    mine = entries_of (Client t.client) es

    -- none of its records waits to be acknowledged,
    none_waits : list_any (λ txn. is_thread t txn.thread) (unacked mine) ≡ false
    none_waits = by (list_any (λ txn. is_thread t txn.thread) (unacked mine)) settled
      where
        by : (b : Bool) → not b ≡ true → b ≡ false
        by true is = absurd (cc is)
        by false is = refl

    -- so none is pending,
    none_pending : events_of t (joined (pending t.client es)) ≡ []
    none_pending = none_of_thread p.shape t (taken_in t.client es) (drop (handed_in t.client es) (records_sent mine)) (pending t.client es)
        (records_dropped p.shape (handed_in t.client es) [] (records_sent mine) (ended_blocks mine) (records_are p next t.client es follow))
        (subst (λ txns. list_any (λ txn. is_thread t txn.thread) txns ≡ false) (left_untaken p next t.client es follow) (none_left (λ txn. is_thread t txn.thread) (messages (down_in_flight t.client es)) (unacked mine) none_waits))

    -- and all that it ended was taken in.
    all_taken : events_of t (joined (ended_blocks mine)) ≡ events_of t (joined (taken_in t.client es))
    all_taken = ap (λ blocks. events_of t (joined blocks)) (sym (take-append-drop (handed_in t.client es) (ended_blocks mine)))
        ∙ ap (events_of t) (joined_parts (taken_in t.client es) (pending t.client es)) ∙ events_in_parts t (joined (taken_in t.client es)) (joined (pending t.client es))
        ∙ ap (λ events. events_of t (joined (taken_in t.client es)) ++ events) none_pending ∙ append-nil (events_of t (joined (taken_in t.client es)))

    all_committed : AreResolved (events_of t (joined (ended_blocks mine))) (events_of t (committed es))
    all_committed = subst (λ events. AreResolved events (events_of t (committed es))) (holds_blocks p next t es follow ∙ sym all_taken) (resolved_of t (as_made es) (committed es) (history_resolved es))

  -- a thread settles where it has settled
  settled_at : (e : Entry) (es : List Entry) → AllFollow p next (e ∷ es) → (reply : Reply) (woken : Option ThreadId) → e.node ≡ Client t.client → e.event ≡ Some (Act t Settle reply woken) → is_settled t (entries_of (Client t.client) es) ≡ true
  settled_at e es follow reply woken at is =
      elim (next_act p t.client (next_after next es) (next_after next (e ∷ es)) e (entries_of (Client t.client) es) (rule follow).step) [
        | inl none ↦ absurd (cc (sym none ∙ is))
        | inr it ↦ by (is_settled t (entries_of (Client t.client) es))
            (subst (λ request. unmet p t.client (next_after next es) t request (entries_of (Client t.client) es) ≡ None) (asks_settle it)
            (subst (λ u. unmet p t.client (next_after next es) u it.request (entries_of (Client t.client) es) ≡ None) (its_thread it) it.met))
      ]
    where
      rule : AllFollow p next (e ∷ es) → ClientFollows p next t.client e es
      rule follow = subst (λ n. NodeFollows p next n e es) at follow.1.rule

      its_thread : (it : IsNextAct p t.client (next_after next es) e (entries_of (Client t.client) es)) → it.thread ≡ t
      its_thread it = cc (sym it.event ∙ is)

      asks_settle : (it : IsNextAct p t.client (next_after next es) e (entries_of (Client t.client) es)) → it.request ≡ Settle
      asks_settle it = cc (sym it.event ∙ is)

      by : (b : Bool) → unless b NeedsAck ≡ None → b ≡ true
      by true met = refl
      by false met = absurd (cc met)

-- a journal that goes on goes on by its history's end
history_grows : (later es : List Entry) → (more : List Event) × (committed (later ++ es) ≡ committed es ++ more)
history_grows [] es = ([], sym (append-nil (committed es)))
history_grows (e ∷ later) es =
    let rest : (more : List Event) × (committed (later ++ es) ≡ committed es ++ more) = history_grows later es in
    let next : List Event = committed_at e.node e.input (later ++ es) in
    (rest.0 ++ next, ap (λ history. history ++ next) rest.1 ∙ append_assoc (committed es) rest.0 next)

-- what follows does so from the first entries on
follow_from : (p : Settings) (next : ThreadId → List Event → Option Request) (later es : List Entry) → AllFollow p next (later ++ es) → AllFollow p next es
follow_from p next [] es follow = follow
follow_from p next (e ∷ later) es follow = follow_from p next later es follow.0

-- What is settled is committed.
pub settled_are_committed : SettledAreCommitted
settled_are_committed p next later e es follow t reply woken at is =
    let here : AllFollow p next (e ∷ es) = follow_from p next later (e ∷ es) follow in
    let grows : (more : List Event) × (committed (later ++ e ∷ es) ≡ committed (e ∷ es) ++ more) = history_grows later (e ∷ es) in
    let now : List Event = committed_at e.node e.input es in
    record {
      first = events_of t (committed es);
      begins = record {
        rest = events_of t (now ++ grows.0);
        whole = ap (events_of t) (grows.1 ∙ append_assoc (committed es) now grows.0) ∙ events_in_parts t (committed es) (now ++ grows.0);
      };
      resolved = all_committed p next t es here.0 (settled_at p next t e es here reply woken at is);
    }

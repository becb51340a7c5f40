-- A client's line at an entry of its own: the messages that it sends stand behind it, and the block that it ends.
use Rattle.std.specs.List.{AllByRecursion}
use Rattle.std.proofs.Common.{ℕ, ◌≤◌, ◌≡◌, refl, sym, ◌∙◌, ap, subst, true, false, eqb, List, [], ◌∷◌, ◌++◌}
use Rattle.std.specs.Prelude.{Option, Some, drop, length}
use Rattle.std.proofs.lemmas.List.{append_assoc, append-nil, drop-append-le}
use Rattle.dso_base.specs.declared.journal.Entry.{Entry}
use Rattle.dso_base.specs.declared.journal.Node.TheVariants.{Server, Client}
use Rattle.dso_base.specs.declared.lock.Level.{Level}
use Rattle.dso_base.specs.declared.lock.LockName.{LockName}
use Rattle.dso_base.specs.declared.lock.ThreadId.{ThreadId}
use Rattle.dso_base.specs.declared.message.Up.{Up}
use Rattle.dso_base.specs.declared.message.Up.TheVariants as up
use Rattle.dso_base.specs.declared.record.Txn.{Txn}
use Rattle.dso_base.specs.declared.request.Event.{Event}
use Rattle.dso_base.specs.declared.request.Request.{Request}
use Rattle.dso_base.specs.declared.shape.Shape.{Shape}
use Rattle.dso_plain.specs.State.{PlainState, level_of}
use Rattle.dso_plain.specs.History.{RunsButMarks, end_of, last_state}
use Rattle.dso_plain.specs.Touches.{TouchesIn, AreActsOf}
use Rattle.dso_plain.proofs.keys.SameKeys.{number_self}
use Rattle.dso_plain.proofs.independence.RunsSwap.{ends_in_parts}
use Rattle.dso_law.specs.declared.readings.LockStanding.{LockStanding}
use Rattle.dso_law.specs.Settings.{Settings}
use Rattle.dso_law.specs.Entries.{entries_of, by_sent_up}
use Rattle.dso_law.specs.Channels.{posted, up_in_flight, in_flight_after, to_server, down_in_flight}
use Rattle.dso_law.specs.Leases.{standing_up, standing, leased}
use Rattle.dso_law.specs.RequestNeeds.{is_enough}
use Rattle.dso_law.specs.ServerReadings.{is_lost, counted, last_number}
use Rattle.dso_law.specs.Granting.{standing_with}
use Rattle.dso_legal.specs.Agreement.{messages, after}
use Rattle.dso_legal.specs.Committed.{ended_blocks}
use Rattle.dso_legal.specs.AsMade.{as_made, made_at}
use Rattle.dso_legal.specs.CopiesStand.{state_at}
use Rattle.dso_legal.specs.Lawful.{AllFollow}
use Rattle.dso_legal.specs.Line.{Standings, standings_up, HoldsWithin, Line}
use Rattle.dso_legal.specs.PendingBlocks.{joined, pending, handed_in}
use Rattle.dso_legal.specs.Tokens.{AgreeOnLock}
use Rattle.dso_legal.proofs.channels.Agreement.{after_append}
use Rattle.dso_legal.proofs.records.BothEnds.{server_with, client_with}
use Rattle.dso_legal.proofs.leases.LeaseSteps.{if_true}
use Rattle.dso_legal.proofs.line.LineParts.{is_record, leases_shrink, holds_grow, line_more_all, line_record}
use Rattle.dso_legal.proofs.leases.Tokens.{locks_agree}
use Rattle.dso_legal.proofs.line.LineElsewhere.{LineStands, grants_grow}
use Rattle.dso_legal.proofs.channels.InFlight.{said_of, said_letters}

-- how one lock stands after messages of all locks
pub after_at : (ms : List Up) (st : Standings) (l : LockName) → after standings_up ms st l ≡ after (standing_up l) ms (st l)
after_at [] st l = refl
after_at (m ∷ ms) st l = after_at ms (standings_up m st) l

-- the leases of the client at the end of what is in flight to the server, read from the server's on
abbrev pub leases_at_end : ℕ → List Entry → Standings
leases_at_end c es = after standings_up (messages (up_in_flight c es)) (λ l. standing_with c l (counted (entries_of Server es)))

-- a lease that the client has is there at the end of what is in flight to the server
pub lease_at_end : (c : ℕ) (l : LockName) (es : List Entry) (x : Level) → AgreeOnLock c l es → is_enough x (leased l (entries_of (Client c) es)) ≡ true → is_enough x (leases_at_end c es l).lease ≡ true
lease_at_end c l es x agree enough =
    ap (λ (s : LockStanding). is_enough x s.lease) (after_at (messages (up_in_flight c es)) (λ l. standing_with c l (counted (entries_of Server es))) l ∙ agree.meet)
    ∙ grants_grow l (messages (down_in_flight c es)) (standing l (entries_of (Client c) es)) x agree.downs enough

-- what the threads of the client hold in the state is within the leases that the client has
abbrev pub HoldsLeased : ℕ → List Entry → PlainState → Type 0
HoldsLeased c own s = (t : ThreadId) (l : LockName) (x : Level) → t.client ≡ c → level_of (s.monitors (l, t)) ≡ Some x → is_enough x (leased l own) ≡ true

-- so it is within those at the end of what is in flight to the server
pub held_at_end : (p : Settings) (next : ThreadId → List Event → Option Request) (es : List Entry) → AllFollow p next es → (c : ℕ) → is_lost c (entries_of Server es) ≡ false
    → (s : PlainState) → HoldsLeased c (entries_of (Client c) es) s → HoldsWithin c (leases_at_end c es) s
held_at_end p next es follow c alive s held t l x its e = lease_at_end c l es x (locks_agree p next c l es follow alive) (held t l x its e)

-- one more list behind joined ones
pub joined_more : {X : Type 0} (blocks : List (List X)) (block : List X) → joined (blocks ++ block ∷ []) ≡ joined blocks ++ block
joined_more [] block = append-nil block
joined_more (first ∷ blocks) block = ap (λ rest. first ++ rest) (joined_more blocks block) ∙ sym (append_assoc first (joined blocks) block)

-- a record and then messages that are no records, behind a line
line_goes_on : (shape : Shape) (c : ℕ) (txn : Txn) (block : List Event) (ns ms : List Up) (blocks : List (List Event)) (st : Standings) (s : PlainState) → AllByRecursion (λ m. is_record m ≡ false) ns
    → txn.thread.client ≡ c → AreActsOf txn.thread block → RunsButMarks shape block (end_of shape (joined blocks) s)
    → ((l : LockName) (x : Level) → TouchesIn shape block (end_of shape (joined blocks) s) l x → is_enough x (after standings_up ms st l).lease ≡ true)
    → HoldsWithin c (after standings_up (ms ++ up.Commit txn ∷ ns) st) (end_of shape block (end_of shape (joined blocks) s))
    → Line shape c ms blocks st s → Line shape c (ms ++ up.Commit txn ∷ ns) (blocks ++ block ∷ []) st s
line_goes_on shape c txn block ns ms blocks st s plain its acts runs within held line =
    let ends : end_of shape (joined (blocks ++ block ∷ [])) s ≡ end_of shape block (end_of shape (joined blocks) s) =
    ap (λ h. end_of shape h s) (joined_more blocks block) ∙ ends_in_parts shape (joined blocks) block s in
    let leases : after standings_up (ms ++ up.Commit txn ∷ ns) st ≡ after standings_up ns (after standings_up ms st) = after_append standings_up ms (up.Commit txn ∷ ns) st in
    let leases_too : after standings_up (ms ++ up.Commit txn ∷ []) st ≡ after standings_up ms st = after_append standings_up ms (up.Commit txn ∷ []) st in
    let held_now : HoldsWithin c (after standings_up ns (after standings_up ms st)) (end_of shape block (end_of shape (joined blocks) s)) =
    subst (λ r. HoldsWithin c r (end_of shape block (end_of shape (joined blocks) s))) leases held in
    subst (λ n. Line shape c n (blocks ++ block ∷ []) st s) (append_assoc ms (up.Commit txn ∷ []) ns)
    (line_more_all shape c ns (ms ++ up.Commit txn ∷ []) (blocks ++ block ∷ []) st s plain
    (line_record shape c txn block ms blocks st s line (record { its = its; acts = acts; runs = runs; within = within })
    (holds_grow shape c (after standings_up ns (after standings_up ms st)) (after standings_up ms st) (end_of shape block (end_of shape (joined blocks) s)) (leases_shrink ns (after standings_up ms st)) held_now))
    (subst (λ r. HoldsWithin c (after standings_up ns r) (end_of shape (joined (blocks ++ block ∷ [])) s)) (sym leases_too)
    (subst (λ r. HoldsWithin c (after standings_up ns (after standings_up ms st)) r) (sym ends) held_now)))

-- what an entry of its own leaves of a client whose pending blocks it doesn't change
pub record SendsOn (p : Settings) (c : ℕ) (e : Entry) (es : List Entry) : Type 0 where
  pub line : LineStands p c (e ∷ es)
  pub blocks : pending c (e ∷ es) ≡ pending c es
  pub history : as_made (e ∷ es) ≡ as_made es
  pub state : state_at p c (e ∷ es) ≡ state_at p c es

-- and of one for which it ends a block
pub record EndsBlock (p : Settings) (c : ℕ) (block : List Event) (e : Entry) (es : List Entry) : Type 0 where
  pub line : LineStands p c (e ∷ es)
  pub blocks : pending c (e ∷ es) ≡ pending c es ++ block ∷ []
  pub history : as_made (e ∷ es) ≡ as_made es
  pub state : state_at p c (e ∷ es) ≡ end_of p.shape block (state_at p c es)

module _ (p : Settings) (next : ThreadId → List Event → Option Request) (e : Entry) (es : List Entry) (follow : AllFollow p next (e ∷ es)) (c : ℕ) (is : e.node ≡ Client c) (alive : is_lost c (entries_of Server es) ≡ false) where
  abbrev own : List Entry
  own = entries_of (Client c) es

  abbrev st : Standings
  st l = standing_with c l (counted (entries_of Server es))

  abbrev s : PlainState
  s = last_state p.shape (as_made es)

  -- the server's entries stay, the client's are one more, what it says is in flight, and the history stays
  server_now : entries_of Server (e ∷ es) ≡ entries_of Server es
  server_now = ap (λ n. server_with n e es) is

  pub own_now : entries_of (Client c) (e ∷ es) ≡ e ∷ own
  own_now = ap (λ n. client_with c n e es) is ∙ if_true (eqb c c) (e ∷ own) own (number_self c)

  pub way_now : messages (up_in_flight c (e ∷ es)) ≡ messages (up_in_flight c es) ++ said_of e.sent
  way_now = ap (λ n. messages (in_flight_after (to_server c) e n (up_in_flight c es))) is ∙ ap (λ letters. messages letters) (if_true (eqb c c) (by_sent_up (posted e.clock) e.sent (up_in_flight c es)) (up_in_flight c es) (number_self c)) ∙ said_letters e.clock e.sent (up_in_flight c es)

  history_now : as_made (e ∷ es) ≡ as_made es
  history_now = ap (λ n. as_made es ++ made_at n e.input es) is ∙ append-nil (as_made es)

  -- the pending blocks have behind them those that the entry ends
  pub pending_now : (more : List (List Event)) → handed_in c es ≤ length (ended_blocks own) → ended_blocks (e ∷ own) ≡ ended_blocks own ++ more → pending c (e ∷ es) ≡ pending c es ++ more
  pending_now more few ended = ap (λ server. drop (last_number c (counted server)) (ended_blocks (entries_of (Client c) (e ∷ es)))) server_now
      ∙ ap (λ blocks. drop (handed_in c es) blocks) (ap ended_blocks own_now ∙ ended)
      ∙ drop-append-le (handed_in c es) (ended_blocks own) more few

  -- the line from its parts
  stands : (ms : List Up) (blocks : List (List Event)) → messages (up_in_flight c (e ∷ es)) ≡ ms → pending c (e ∷ es) ≡ blocks → Line p.shape c ms blocks st s → LineStands p c (e ∷ es)
  stands ms blocks way ended line = subst (λ n. Line p.shape c n (pending c (e ∷ es)) (λ l. standing_with c l (counted (entries_of Server (e ∷ es)))) (last_state p.shape (as_made (e ∷ es)))) (sym way)
      (subst (λ n. Line p.shape c ms n (λ l. standing_with c l (counted (entries_of Server (e ∷ es)))) (last_state p.shape (as_made (e ∷ es)))) (sym ended)
      (subst (λ server. Line p.shape c ms blocks (λ l. standing_with c l (counted server)) (last_state p.shape (as_made (e ∷ es)))) (sym server_now)
      (subst (λ h. Line p.shape c ms blocks st (last_state p.shape h)) (sym history_now) line)))

  -- what is held within the client's leases after the entry is so at the end of what is in flight to the server
  held_now : (r : PlainState) → HoldsLeased c (e ∷ own) r → HoldsWithin c (after standings_up (messages (up_in_flight c es) ++ said_of e.sent) st) r
  held_now r held =
      subst (λ ms. HoldsWithin c (after standings_up ms st) r) way_now
      (subst (λ server. HoldsWithin c (after standings_up (messages (up_in_flight c (e ∷ es))) (λ l. standing_with c l (counted server))) r) server_now
      (held_at_end p next (e ∷ es) follow c (ap (is_lost c) server_now ∙ alive) r (subst (λ mine. HoldsLeased c mine r) (sym own_now) held)))

  -- The line of a client at an entry of its own that ends no block: what is held is within the leases that the client has then.
  pub line_sent : AllByRecursion (λ m. is_record m ≡ false) (said_of e.sent) → handed_in c es ≤ length (ended_blocks own) → ended_blocks (e ∷ own) ≡ ended_blocks own → HoldsLeased c (e ∷ own) (state_at p c es)
      → LineStands p c es → SendsOn p c e es
  line_sent plain few ended held line =
      let blocks : pending c (e ∷ es) ≡ pending c es = pending_now [] few (ended ∙ sym (append-nil (ended_blocks own))) ∙ append-nil (pending c es) in
      let leases = after_append standings_up (messages (up_in_flight c es)) (said_of e.sent) st in
      record {
        line = stands (messages (up_in_flight c es) ++ said_of e.sent) (pending c es) way_now blocks
            (line_more_all p.shape c (said_of e.sent) (messages (up_in_flight c es)) (pending c es) st s plain line
            (subst (λ r. HoldsWithin c r (state_at p c es)) leases (held_now (state_at p c es) held)));
        blocks = blocks;
        history = history_now;
        state = ap (λ b. end_of p.shape (joined b) (last_state p.shape (as_made (e ∷ es)))) blocks ∙ ap (λ h. end_of p.shape (joined (pending c es)) (last_state p.shape h)) history_now;
      }

  -- The line of a client at an entry of its own that ends a block: the block can run, what it touches is within the leases that
  -- the client had, and what is held behind it within those that it has then.
  pub line_ended : (txn : Txn) (block : List Event) (ns : List Up) → said_of e.sent ≡ up.Commit txn ∷ ns → AllByRecursion (λ m. is_record m ≡ false) ns → handed_in c es ≤ length (ended_blocks own)
      → ended_blocks (e ∷ own) ≡ ended_blocks own ++ block ∷ [] → txn.thread.client ≡ c → AreActsOf txn.thread block → RunsButMarks p.shape block (state_at p c es)
      → ((l : LockName) (x : Level) → TouchesIn p.shape block (state_at p c es) l x → is_enough x (leased l own) ≡ true) → HoldsLeased c (e ∷ own) (end_of p.shape block (state_at p c es))
      → LineStands p c es → EndsBlock p c block e es
  line_ended txn block ns said plain few ended its acts runs within held line =
      let blocks : pending c (e ∷ es) ≡ pending c es ++ block ∷ [] = pending_now (block ∷ []) few ended in
      let s_here = state_at p c es in
      record {
        line = stands (messages (up_in_flight c es) ++ up.Commit txn ∷ ns) (pending c es ++ block ∷ []) (way_now ∙ ap (λ n. messages (up_in_flight c es) ++ n) said) blocks
            (line_goes_on p.shape c txn block ns (messages (up_in_flight c es)) (pending c es) st s plain its acts runs
            (λ l x touched. lease_at_end c l es x (locks_agree p next c l es follow.0 alive) (within l x touched))
            (subst (λ n. HoldsWithin c (after standings_up (messages (up_in_flight c es) ++ n) st) (end_of p.shape block s_here)) said (held_now (end_of p.shape block s_here) held))
            line);
        blocks = blocks;
        history = history_now;
        state = ap (λ b. end_of p.shape (joined b) (last_state p.shape (as_made (e ∷ es)))) blocks ∙ ap (λ h. end_of p.shape (joined (pending c es ++ block ∷ [])) (last_state p.shape h)) history_now
            ∙ ap (λ h. end_of p.shape h s) (joined_more (pending c es) block) ∙ ends_in_parts p.shape (joined (pending c es)) block s;
      }

-- A client's line at an entry that is none of its own and moves no history: a message that the server takes and that is no record,
-- or of a lost client, a break or rejoin, an entry of another client. The line stands again, with the same history and the same
-- pending blocks.
use Rattle.std.proofs.Common.{ℕ, ◌≡◌, ◌⊎◌, inl, inr, refl, sym, ◌∙◌, ap, subst, Bool, true, false, cond, eqb, List, [], ◌∷◌, ◌++◌}
use Rattle.std.specs.Prelude.{Option, Some, drop}
use Rattle.std.proofs.lemmas.List.{append-nil}
use Rattle.dso_base.specs.declared.journal.Entry.{Entry}
use Rattle.dso_base.specs.declared.journal.Input.{Input}
use Rattle.dso_base.specs.declared.journal.Input.TheVariants as input
use Rattle.dso_base.specs.declared.journal.Node.{Node}
use Rattle.dso_base.specs.declared.journal.Node.TheVariants.{Server, Client}
use Rattle.dso_base.specs.declared.lock.Level.{Level}
use Rattle.dso_base.specs.declared.lock.LockName.{LockName}
use Rattle.dso_base.specs.declared.lock.ThreadId.{ThreadId}
use Rattle.dso_base.specs.declared.message.Down.{Down}
use Rattle.dso_base.specs.declared.message.Down.TheVariants as down
use Rattle.dso_base.specs.declared.message.Up.{Up}
use Rattle.dso_base.specs.declared.message.Up.TheVariants as up
use Rattle.dso_base.specs.declared.request.Event.{Event}
use Rattle.dso_base.specs.declared.request.Request.{Request}
use Rattle.dso_base.specs.declared.shape.Shape.{Shape}
use Rattle.dso_plain.specs.KeyTests.{is_lock}
use Rattle.dso_plain.specs.State.{PlainState}
use Rattle.dso_plain.specs.History.{end_of, last_state}
use Rattle.dso_plain.proofs.keys.SameKeys.{same_number}
use Rattle.dso_law.specs.declared.readings.LockStanding.{LockStanding}
use Rattle.dso_law.specs.Settings.{Settings}
use Rattle.dso_law.specs.Entries.{entries_of, by_taken_up}
use Rattle.dso_law.specs.Channels.{Letter, takes_up, up_in_flight, in_flight_after, to_server, IsFirst, TakesFirst}
use Rattle.dso_law.specs.Leases.{standing_up, standing_down}
use Rattle.dso_law.specs.RequestNeeds.{is_enough}
use Rattle.dso_law.specs.ServerReadings.{is_lost, is_of_lost, counted, number_by, last_number}
use Rattle.dso_law.specs.Granting.{standing_by, standing_with}
use Rattle.dso_legal.specs.Agreement.{messages, after, EachMay}
use Rattle.dso_legal.specs.Committed.{ended_blocks, block_numbered}
use Rattle.dso_legal.specs.AsMade.{as_made, made_by, made_at}
use Rattle.dso_legal.specs.CopiesStand.{state_at}
use Rattle.dso_legal.specs.Lawful.{ServerFollows, NodeFollows, AllFollow}
use Rattle.dso_legal.specs.Line.{Standings, standings_up, Line}
use Rattle.dso_legal.specs.PendingBlocks.{joined, pending}
use Rattle.dso_legal.specs.Tokens.{MayGoDown}
use Rattle.dso_legal.proofs.records.BothEnds.{server_with, client_with}
use Rattle.dso_legal.proofs.leases.LeaseSteps.{unless_true, if_true, no_both}
use Rattle.dso_legal.proofs.line.LineParts.{is_record, IsMore, line_grows}
use Rattle.dso_legal.proofs.leases.ServerLeases.{server_does, standing_after_told, tells_comes}
use Rattle.dso_legal.proofs.leases.Tokens.{known}
use Rattle.dso_legal.proofs.channels.InFlight.{told_to}

-- the line of a client, after the entries
abbrev pub LineStands : Settings → ℕ → List Entry → Type 0
LineStands p c es = Line p.shape c (messages (up_in_flight c es)) (pending c es) (λ l. standing_with c l (counted (entries_of Server es))) (last_state p.shape (as_made es))

-- whether the input moves the history: a record, or a loss
abbrev pub moves : Input → Bool
moves (input.TookUp d (up.Commit txn)) = true
moves (input.Lose d) = true
moves other = false

-- the server's input leaves the history: it is a message of a lost client, or moves nothing
abbrev pub LeavesHistory : Input → List Entry → Type 0
LeavesHistory input es = (is_of_lost input (entries_of Server es) ≡ true) ⊎ (moves input ≡ false)

-- the entry is the server's and leaves the history, or another client's
abbrev pub IsElsewhere : ℕ → Node → Input → List Entry → Type 0
IsElsewhere c Server input es = LeavesHistory input es
IsElsewhere c (Client d) input es = eqb c d ≡ false

-- an input that leaves the history gives it nothing
pub gives_none : (input : Input) (es : List Entry) → LeavesHistory input es → made_by input es ≡ []
gives_none (input.TookUp d (up.Commit txn)) es (inl skipped) = if_true (is_lost d (entries_of Server es)) [] (block_numbered txn.seq (ended_blocks (entries_of (Client d) es))) skipped
gives_none (input.TookUp d (up.Commit txn)) es (inr still) = absurd (cc still)
gives_none (input.TookUp d m) es leaves = refl
gives_none (input.Lose d) es (inl skipped) = absurd (cc skipped)
gives_none (input.Lose d) es (inr still) = absurd (cc still)
gives_none other es leaves = refl

-- where it counts, it moves nothing
counts_still : (input : Input) (es : List Entry) → LeavesHistory input es → is_of_lost input (entries_of Server es) ≡ false → moves input ≡ false
counts_still input es (inl skipped) counts = no_both (is_of_lost input (entries_of Server es)) skipped counts
counts_still input es (inr still) counts = still

-- and no number
pub number_still : (c : ℕ) (input : Input) (n : ℕ) → moves input ≡ false → by_taken_up (number_by c) input n ≡ n
number_still c (input.TookUp d (up.Commit txn)) n still = absurd (cc still)
number_still c (input.TookUp d m) n still = refl
number_still c (input.Lose d) n still = absurd (cc still)
number_still c other n still = refl

-- a grant that may come takes no lease away
grant_grows : (l : LockName) (m : Down) (s : LockStanding) (x : Level) → MayGoDown l m s → is_enough x s.lease ≡ true → is_enough x (standing_down l m s).lease ≡ true
grant_grows l (down.Grant k level) s x may e = by (is_lock l k) refl
  where
    by : (b : Bool) → is_lock l k ≡ b → is_enough x (cond b (record { lease = Some level; is_asked = false }) s).lease ≡ true
    by true is = absurd (cc (sym (ap (λ (r : LockStanding). is_enough x r.lease) (may is)) ∙ e))
    by false is = e
grant_grows l m s x may e = e

-- nor do messages down that may come
pub grants_grow : (l : LockName) (ms : List Down) (s : LockStanding) (x : Level) → EachMay (MayGoDown l) (standing_down l) ms s → is_enough x s.lease ≡ true → is_enough x (after (standing_down l) ms s).lease ≡ true
grants_grow l [] s x may e = e
grants_grow l (m ∷ ms) s x may e = grants_grow l ms (standing_down l m s) x may.1 (grant_grows l m s x may.0 e)

module _ (shape : Shape) (c : ℕ) where
  -- the first message leaves the line, where it is no record
  pub line_behind : (m : Up) (ms : List Up) (blocks : List (List Event)) (st : Standings) (s : PlainState) → is_record m ≡ false → Line shape c (m ∷ ms) blocks st s → Line shape c ms blocks (standings_up m st) s
  line_behind (up.Commit txn) ms blocks st s plain h = absurd (cc plain)
  line_behind m ms blocks st s plain h = h.1

  -- the server takes a message that is no record
  heard_one : (m : Up) (letters : List (Letter Up)) (blocks : List (List Event)) (st : Standings) (s : PlainState) → is_record m ≡ false → IsFirst m letters
      → Line shape c (messages letters) blocks st s → Line shape c (messages (drop 1 letters)) blocks (standings_up m st) s
  heard_one m [] blocks st s plain first h = absurd first
  heard_one m (letter ∷ letters) blocks st s plain first h = line_behind m (messages letters) blocks st s plain (subst (λ n. Line shape c (n ∷ messages letters) blocks st s) (sym first) h)

  -- of client d
  heard_by : (b : Bool) (d : ℕ) (m : Up) (es : List Entry) (blocks : List (List Event)) (st : Standings) (s : PlainState) → eqb c d ≡ b → is_record m ≡ false → IsFirst m (up_in_flight d es)
      → Line shape c (messages (up_in_flight c es)) blocks st s → Line shape c (messages (cond b (drop 1 (up_in_flight c es)) (up_in_flight c es))) blocks (λ l. cond b (standing_up l m (st l)) (st l)) s
  heard_by true d m es blocks st s is plain first h = heard_one m (up_in_flight c es) blocks st s plain (subst (λ n. IsFirst m (up_in_flight n es)) (sym (same_number c d is)) first) h
  heard_by false d m es blocks st s is plain first h = h

  -- the line after an input of the server that doesn't move the history
  heard : (input : Input) (es : List Entry) (blocks : List (List Event)) (st : Standings) (s : PlainState) → moves input ≡ false → TakesFirst input Server es
      → Line shape c (messages (up_in_flight c es)) blocks st s → Line shape c (messages (cond (takes_up c input) (drop 1 (up_in_flight c es)) (up_in_flight c es))) blocks (λ l. standing_by c l input (st l)) s
  heard (input.TookUp d (up.Commit txn)) es blocks st s still first h = absurd (cc still)
  heard (input.TookUp d m) es blocks st s still first h = heard_by (eqb c d) d m es blocks st s refl refl first h
  heard (input.Lose d) es blocks st s still first h = absurd (cc still)
  heard other es blocks st s still first h = h

-- a message of a lost client is none of one that isn't lost
skipped_way : (c : ℕ) (input : Input) (server : List Entry) → is_of_lost input server ≡ true → is_lost c server ≡ false → takes_up c input ≡ false
skipped_way c (input.TookUp d m) server skipped alive = by (eqb c d) refl
  where
    by : (b : Bool) → eqb c d ≡ b → b ≡ false
    by true e = no_both (is_lost d server) skipped (subst (λ n. is_lost n server ≡ false) (same_number c d e) alive)
    by false e = refl
skipped_way c other server skipped alive = refl

module _ (c : ℕ) (e : Entry) (es : List Entry) where
  -- the pending blocks, the history, and the line, after the entry at this node
  abbrev pub pending_with : Node → List (List Event)
  pending_with node = drop (last_number c (counted (server_with node e es))) (ended_blocks (client_with c node e es))

  abbrev pub committed_with : Node → List Event
  committed_with node = as_made es ++ made_at node e.input es

  abbrev pub standings_with : Node → Standings
  standings_with node l = standing_with c l (counted (server_with node e es))

  -- how the server's number of the client's records stays
  number_by_server : (b : Bool) → is_of_lost e.input (entries_of Server es) ≡ b → LeavesHistory e.input es → last_number c (counted (e ∷ entries_of Server es)) ≡ last_number c (counted (entries_of Server es))
  number_by_server true skipped leaves = ap (last_number c) (if_true (is_of_lost e.input (entries_of Server es)) (counted (entries_of Server es)) (e ∷ counted (entries_of Server es)) skipped)
  number_by_server false counts leaves = ap (last_number c) (unless_true (is_of_lost e.input (entries_of Server es)) (counted (entries_of Server es)) (e ∷ counted (entries_of Server es)) counts)
      ∙ number_still c e.input (last_number c (counted (entries_of Server es))) (counts_still e.input es leaves counts)

  -- The pending blocks stay.
  pub pending_still : (node : Node) → IsElsewhere c node e.input es → pending_with node ≡ pending c es
  pending_still Server leaves = ap (λ n. drop n (ended_blocks (entries_of (Client c) es))) (number_by_server (is_of_lost e.input (entries_of Server es)) refl leaves)
  pending_still (Client d) other = ap (λ own. drop (last_number c (counted (entries_of Server es))) (ended_blocks own)) (unless_true (eqb c d) (e ∷ entries_of (Client c) es) (entries_of (Client c) es) other)

  -- The history stays.
  pub committed_still : (node : Node) → IsElsewhere c node e.input es → committed_with node ≡ as_made es
  committed_still Server leaves = ap (λ more. as_made es ++ more) (gives_none e.input es leaves) ∙ append-nil (as_made es)
  committed_still (Client d) other = append-nil (as_made es)

module _ (p : Settings) (next : ThreadId → List Event → Option Request) (c : ℕ) (e : Entry) (es : List Entry) where
  -- what is told to the client lets its leases grow
  pub told_grow : AllFollow p next es → ServerFollows p next e es → is_of_lost e.input (entries_of Server es) ≡ false
      → IsMore (λ l. standing_by c l e.input (standing_with c l (counted (entries_of Server es)))) (λ l. standing_with c l (e ∷ counted (entries_of Server es)))
  told_grow follow h counts l x enough = elim (server_does p e (entries_of Server es) (known p next es follow).queues h.step) [
    | inl skip ↦ absurd (cc (sym skip.skipped ∙ counts))
    | inr here ↦
        let before = counted (entries_of Server es) in
        ap (λ (s : LockStanding). is_enough x s.lease) (standing_after_told c l e before)
        ∙ grants_grow l (told_to c e.sent) (standing_by c l e.input (standing_with c l before)) x (tells_comes p c l e before here.tells).comes enough
  ]

  -- the line after an entry of the server that counts
  line_counted : AllFollow p next es → TakesFirst e.input Server es → ServerFollows p next e es → is_of_lost e.input (entries_of Server es) ≡ false → moves e.input ≡ false → LineStands p c es
      → Line p.shape c (messages (in_flight_after (to_server c) e Server (up_in_flight c es))) (pending c es) (standings_with c e es Server) (last_state p.shape (as_made es))
  line_counted follow first h counts still line =
      let same : counted (e ∷ entries_of Server es) ≡ e ∷ counted (entries_of Server es) = unless_true (is_of_lost e.input (entries_of Server es)) (counted (entries_of Server es)) (e ∷ counted (entries_of Server es)) counts in
      subst (λ js. Line p.shape c (messages (in_flight_after (to_server c) e Server (up_in_flight c es))) (pending c es) (λ l. standing_with c l js) (last_state p.shape (as_made es))) (sym same)
      (line_grows p.shape c (messages (in_flight_after (to_server c) e Server (up_in_flight c es))) (pending c es) (λ l. standing_by c l e.input (standing_with c l (counted (entries_of Server es)))) (λ l. standing_with c l (e ∷ counted (entries_of Server es)))
      (last_state p.shape (as_made es)) (told_grow follow h counts)
      (heard p.shape c e.input es (pending c es) (λ l. standing_with c l (counted (entries_of Server es))) (last_state p.shape (as_made es)) still first line))

  -- and after one that doesn't
  line_skipped : is_of_lost e.input (entries_of Server es) ≡ true → is_lost c (entries_of Server es) ≡ false → LineStands p c es
      → Line p.shape c (messages (in_flight_after (to_server c) e Server (up_in_flight c es))) (pending c es) (standings_with c e es Server) (last_state p.shape (as_made es))
  line_skipped skipped alive line =
      let same : counted (e ∷ entries_of Server es) ≡ counted (entries_of Server es) = if_true (is_of_lost e.input (entries_of Server es)) (counted (entries_of Server es)) (e ∷ counted (entries_of Server es)) skipped in
      let way : in_flight_after (to_server c) e Server (up_in_flight c es) ≡ up_in_flight c es = unless_true (takes_up c e.input) (drop 1 (up_in_flight c es)) (up_in_flight c es) (skipped_way c e.input (entries_of Server es) skipped alive) in
      subst (λ js. Line p.shape c (messages (in_flight_after (to_server c) e Server (up_in_flight c es))) (pending c es) (λ l. standing_with c l js) (last_state p.shape (as_made es))) (sym same)
      (subst (λ w. Line p.shape c (messages w) (pending c es) (λ l. standing_with c l (counted (entries_of Server es))) (last_state p.shape (as_made es))) (sym way) line)

  -- by whether it counts
  line_by_server : (b : Bool) → is_of_lost e.input (entries_of Server es) ≡ b → AllFollow p next es → TakesFirst e.input Server es → ServerFollows p next e es → is_lost c (entries_of Server es) ≡ false → LeavesHistory e.input es → LineStands p c es
      → Line p.shape c (messages (in_flight_after (to_server c) e Server (up_in_flight c es))) (pending c es) (standings_with c e es Server) (last_state p.shape (as_made es))
  line_by_server true skipped follow first h alive leaves line = line_skipped skipped alive line
  line_by_server false counts follow first h alive leaves line = line_counted follow first h counts (counts_still e.input es leaves counts) line

  -- the line, with the pending blocks and the history that were before
  line_at : (node : Node) → AllFollow p next es → TakesFirst e.input node es → NodeFollows p next node e es → is_lost c (entries_of Server es) ≡ false → IsElsewhere c node e.input es → LineStands p c es
      → Line p.shape c (messages (in_flight_after (to_server c) e node (up_in_flight c es))) (pending c es) (standings_with c e es node) (last_state p.shape (as_made es))
  line_at Server follow first h alive leaves line = line_by_server (is_of_lost e.input (entries_of Server es)) refl follow first h alive leaves line
  line_at (Client d) follow first h alive other line = subst (λ w. Line p.shape c (messages w) (pending c es) (standings_with c e es (Client d)) (last_state p.shape (as_made es)))
      (sym (unless_true (eqb c d) _ (up_in_flight c es) other)) line

  line_with : (node : Node) → AllFollow p next es → TakesFirst e.input node es → NodeFollows p next node e es → is_lost c (entries_of Server es) ≡ false → IsElsewhere c node e.input es → LineStands p c es → Line p.shape c (messages (in_flight_after (to_server c) e node (up_in_flight c es))) (pending_with c e es node) (standings_with c e es node) (last_state p.shape (committed_with c e es node))
  line_with node follow first h alive elsewhere line =
      subst (λ blocks. Line p.shape c (messages (in_flight_after (to_server c) e node (up_in_flight c es))) blocks (standings_with c e es node) (last_state p.shape (committed_with c e es node))) (sym (pending_still c e es node elsewhere))
      (subst (λ h. Line p.shape c (messages (in_flight_after (to_server c) e node (up_in_flight c es))) (pending c es) (standings_with c e es node) (last_state p.shape h)) (sym (committed_still c e es node elsewhere))
      (line_at node follow first h alive elsewhere line))

-- what stays of a client at an entry elsewhere
pub record StandsStill (p : Settings) (c : ℕ) (e : Entry) (es : List Entry) : Type 0 where
  pub blocks : pending c (e ∷ es) ≡ pending c es
  pub history : as_made (e ∷ es) ≡ as_made es
  pub state : state_at p c (e ∷ es) ≡ state_at p c es

-- The pending blocks, the history and so the state at the client stay at an entry elsewhere.
pub stands_still : (p : Settings) (c : ℕ) (e : Entry) (es : List Entry) → IsElsewhere c e.node e.input es → StandsStill p c e es
stands_still p c e es elsewhere =
    let blocks : pending c (e ∷ es) ≡ pending c es = pending_still c e es e.node elsewhere in
    let history : as_made (e ∷ es) ≡ as_made es = committed_still c e es e.node elsewhere in
    record {
      blocks = blocks;
      history = history;
      state = ap (λ blocks. end_of p.shape (joined blocks) (last_state p.shape (as_made (e ∷ es)))) blocks ∙ ap (λ h. end_of p.shape (joined (pending c es)) (last_state p.shape h)) history;
    }

-- The line of a client that isn't lost stands again at an entry elsewhere.
pub line_still : (p : Settings) (next : ThreadId → List Event → Option Request) (c : ℕ) (e : Entry) (es : List Entry) → AllFollow p next (e ∷ es) → is_lost c (entries_of Server es) ≡ false → IsElsewhere c e.node e.input es
    → LineStands p c es → LineStands p c (e ∷ es)
line_still p next c e es follow alive elsewhere line = line_with p next c e es e.node follow.0 follow.1.channels follow.1.rule alive elsewhere line

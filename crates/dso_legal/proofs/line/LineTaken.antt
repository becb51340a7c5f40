-- A client's line where the server takes a record: the client's own line is cut behind the first block, which becomes the
-- history's last; another client's line has that block in front.
use Rattle.std.proofs.Common.{ℕ, ◌≡◌, ◌≢◌, refl, sym, ◌∙◌, ap, subst, Bool, true, false, cond, eqb, List, [], ◌∷◌, ◌++◌}
use Rattle.std.specs.Prelude.{Option, Some, None, drop}
use Rattle.dso_base.specs.declared.journal.Entry.{Entry}
use Rattle.dso_base.specs.declared.journal.Input.TheVariants as input
use Rattle.dso_base.specs.declared.journal.Node.TheVariants.{Server, Client}
use Rattle.dso_base.specs.declared.lock.Level.{Level}
use Rattle.dso_base.specs.declared.lock.Level.TheVariants.{Read, Write}
use Rattle.dso_base.specs.declared.lock.ThreadId.{ThreadId}
use Rattle.dso_base.specs.declared.message.Up.{Up}
use Rattle.dso_base.specs.declared.message.Up.TheVariants as up
use Rattle.dso_base.specs.declared.record.Txn.{Txn}
use Rattle.dso_base.specs.declared.request.Event.{Event}
use Rattle.dso_base.specs.declared.request.Request.{Request}
use Rattle.dso_base.specs.declared.shape.Shape.{Shape}
use Rattle.dso_plain.specs.State.{PlainState, opening}
use Rattle.dso_plain.specs.History.{RunsButMarks, end_of, last_state}
use Rattle.dso_plain.specs.Touches.{MakesIn, AreActsOf, NoCommonId}
use Rattle.dso_plain.proofs.keys.SameKeys.{number_self}
use Rattle.dso_plain.proofs.independence.RunsSwap.{runs_but_marks_in_parts, ends_in_parts}
use Rattle.dso_law.specs.declared.readings.LockStanding.{LockStanding}
use Rattle.dso_law.specs.Settings.{Settings}
use Rattle.dso_law.specs.Entries.{entries_of, by_taken_up}
use Rattle.dso_law.specs.Channels.{Letter, takes_up, up_in_flight, in_flight_after, to_server, IsFirst, TakesFirst}
use Rattle.dso_law.specs.RequestNeeds.{is_enough, conflicts}
use Rattle.dso_law.specs.ServerReadings.{is_lost, is_of_lost, counted, number_by, last_number}
use Rattle.dso_law.specs.Granting.{standing_by, standing_with, leased_to}
use Rattle.dso_legal.specs.Agreement.{messages}
use Rattle.dso_legal.specs.Committed.{ended_blocks}
use Rattle.dso_legal.specs.AsMade.{as_made}
use Rattle.dso_legal.specs.CopiesStand.{state_at}
use Rattle.dso_legal.specs.Lawful.{NodeFollows, AllFollow}
use Rattle.dso_legal.specs.Line.{Standings, HoldsWithin, CanRun, Line}
use Rattle.dso_legal.specs.PendingBlocks.{joined, pending}
use Rattle.dso_legal.proofs.records.BothEnds.{server_with, client_with}
use Rattle.dso_legal.proofs.leases.LeaseSteps.{unless_true, if_true}
use Rattle.dso_legal.proofs.leases.LeasesCompatible.{all_lent}
use Rattle.dso_legal.proofs.line.LineParts.{IsMore, line_grows}
use Rattle.dso_legal.proofs.line.LineForeign.{IsFreeOf, PassesLine, line_foreign}
use Rattle.dso_legal.proofs.line.LineElsewhere.{LineStands, told_grow}

-- what is enough within leases that don't conflict is Read
pub both_read : (a b : Level) (x y : Option Level) → is_enough a x ≡ true → is_enough b y ≡ true → ((z : Level) → y ≡ Some z → conflicts z x ≡ false) → (a ≡ Read) × (b ≡ Read)
both_read a b None y e f apart = absurd (cc e)
both_read a b (Some x) None e f apart = absurd (cc f)
both_read Read Read (Some x) (Some y) e f apart = (refl, refl)
both_read Write b (Some Read) (Some y) e f apart = absurd (cc e)
both_read Write b (Some Write) (Some Read) e f apart = absurd (cc (apart Read refl))
both_read Write b (Some Write) (Some Write) e f apart = absurd (cc (apart Write refl))
both_read Read Write (Some x) (Some Read) e f apart = absurd (cc f)
both_read Read Write (Some Read) (Some Write) e f apart = absurd (cc (apart Write refl))
both_read Read Write (Some Write) (Some Write) e f apart = absurd (cc (apart Write refl))

-- either way the same
same_either : {X : Type 0} (b : Bool) (x : X) → cond b x x ≡ x
same_either true x = refl
same_either false x = refl

-- a line whose first message is a record: what is held there, that its block can run, and the line behind it
pub record FirstBlock (shape : Shape) (c : ℕ) (txn : Txn) (letters : List (Letter Up)) (block : List Event) (blocks : List (List Event)) (st : Standings) (s : PlainState) : Type 0 where
  pub held : HoldsWithin c st s
  pub can : CanRun shape c txn block st s
  pub behind : Line shape c (messages (drop 1 letters)) blocks st (end_of shape block s)

first_block : (shape : Shape) (c : ℕ) (txn : Txn) (letters : List (Letter Up)) (block : List Event) (blocks : List (List Event)) (st : Standings) (s : PlainState) → IsFirst (up.Commit txn) letters
    → Line shape c (messages letters) (block ∷ blocks) st s → FirstBlock shape c txn letters block blocks st s
first_block shape c txn [] block blocks st s first h = absurd first
first_block shape c txn (letter ∷ letters) block blocks st s first h =
    let it : Line shape c (up.Commit txn ∷ messages letters) (block ∷ blocks) st s = subst (λ m. Line shape c (m ∷ messages letters) (block ∷ blocks) st s) (sym first) h in
    record { held = it.0; can = it.1; behind = it.2 }

-- What the server's taking of client d's record makes of client c's line: its pending blocks stay, the record's block runs
-- where they end and touches there no more than it did and nothing in conflict with c's leases, and the state at c is that
-- behind the block.
pub record RecordPasses (p : Settings) (c : ℕ) (txn : Txn) (block : List Event) (e : Entry) (es : List Entry) : Type 0 where
  pub line : LineStands p c (e ∷ es)
  pub other : txn.thread.client ≢ c
  pub acts : AreActsOf txn.thread block
  pub runs : RunsButMarks p.shape block (state_at p c es)
  pub free : IsFreeOf p.shape block (λ l. standing_with c l (counted (entries_of Server es))) (state_at p c es)
  pub state : state_at p c (e ∷ es) ≡ end_of p.shape block (state_at p c es)

module _ (p : Settings) (next : ThreadId → List Event → Option Request) (e : Entry) (es : List Entry) (follow : AllFollow p next (e ∷ es)) (d : ℕ) (txn : Txn) (is : e.node ≡ Server)
    (took : e.input ≡ input.TookUp d (up.Commit txn)) (alive : is_lost d (entries_of Server es) ≡ false) where
  -- the server's entries before, those that count
  abbrev before : List Entry
  before = counted (entries_of Server es)

  first : IsFirst (up.Commit txn) (up_in_flight d es)
  first = subst (λ i. TakesFirst i Server es) took (subst (λ n. TakesFirst e.input n es) is follow.1.channels)

  counts : is_of_lost e.input (entries_of Server es) ≡ false
  counts = ap (λ i. is_of_lost i (entries_of Server es)) took ∙ alive

  now : counted (entries_of Server (e ∷ es)) ≡ e ∷ before
  now = ap (λ n. counted (server_with n e es)) is ∙ unless_true (is_of_lost e.input (entries_of Server es)) before (e ∷ before) counts

  -- leases only grow by what is sent
  pub record_grows : (c : ℕ) → IsMore (λ l. standing_with c l before) (λ l. standing_with c l (counted (entries_of Server (e ∷ es))))
  record_grows c l x enough =
      let same : standing_by c l e.input (standing_with c l before) ≡ standing_with c l before = ap (λ i. standing_by c l i (standing_with c l before)) took ∙ same_either (eqb c d) (standing_with c l before) in
      ap (λ js. is_enough x (standing_with c l js).lease) now
      ∙ told_grow p next c e es follow.0 (subst (λ n. NodeFollows p next n e es) is follow.1.rule) counts l x (ap (λ (s : LockStanding). is_enough x s.lease) same ∙ enough)

  -- what is in flight to the server
  way_now : (c : ℕ) → up_in_flight c (e ∷ es) ≡ cond (eqb c d) (drop 1 (up_in_flight c es)) (up_in_flight c es)
  way_now c = ap (λ n. in_flight_after (to_server c) e n (up_in_flight c es)) is ∙ ap (λ i. cond (takes_up c i) (drop 1 (up_in_flight c es)) (up_in_flight c es)) took

  -- the number of a client's records
  pub number_now : (c : ℕ) → last_number c (counted (entries_of Server (e ∷ es))) ≡ cond (eqb c d) txn.seq (last_number c before)
  number_now c = ap (last_number c) now ∙ ap (λ i. by_taken_up (number_by c) i (last_number c before)) took

  -- a client's ended blocks
  pub blocks_now : (c : ℕ) → ended_blocks (entries_of (Client c) (e ∷ es)) ≡ ended_blocks (entries_of (Client c) es)
  blocks_now c = ap (λ n. ended_blocks (client_with c n e es)) is

  -- another client's pending blocks stay
  pub pending_of_other : (c : ℕ) → eqb c d ≡ false → pending c (e ∷ es) ≡ pending c es
  pending_of_other c other = ap (λ n. drop n (ended_blocks (entries_of (Client c) (e ∷ es)))) (number_now c ∙ unless_true (eqb c d) txn.seq (last_number c before) other)
      ∙ ap (λ blocks. drop (last_number c before) blocks) (blocks_now c)

  module _ (block : List Event) (history : as_made (e ∷ es) ≡ as_made es ++ block) (mine : pending d es ≡ block ∷ pending d (e ∷ es)) (line : LineStands p d es) where
    abbrev s : PlainState
    s = last_state p.shape (as_made es)

    -- the history ends behind the block
    pub state_now : last_state p.shape (as_made (e ∷ es)) ≡ end_of p.shape block s
    state_now = ap (last_state p.shape) history ∙ ends_in_parts p.shape (as_made es) block (opening p.shape)

    -- The first block of the line is the record's.
    pub taken_block : FirstBlock p.shape d txn (up_in_flight d es) block (pending d (e ∷ es)) (λ l. standing_with d l before) s
    taken_block = first_block p.shape d txn (up_in_flight d es) block (pending d (e ∷ es)) (λ l. standing_with d l before) s first
        (subst (λ blocks. Line p.shape d (messages (up_in_flight d es)) blocks (λ l. standing_with d l before) s) mine line)

    -- The history runs with the block behind it.
    pub runs_taken : RunsButMarks p.shape (as_made es) (opening p.shape) → RunsButMarks p.shape (as_made (e ∷ es)) (opening p.shape)
    runs_taken runs = subst (λ h. RunsButMarks p.shape h (opening p.shape)) (sym history) ((runs_but_marks_in_parts p.shape (as_made es) block (opening p.shape)).1 (runs, taken_block.can.runs))

    -- The client's own line stands again.
    pub line_taken : LineStands p d (e ∷ es)
    line_taken = subst (λ w. Line p.shape d (messages w) (pending d (e ∷ es)) (λ l. standing_with d l (counted (entries_of Server (e ∷ es)))) (last_state p.shape (as_made (e ∷ es))))
        (sym (way_now d ∙ if_true (eqb d d) (drop 1 (up_in_flight d es)) (up_in_flight d es) (number_self d)))
        (subst (λ r. Line p.shape d (messages (drop 1 (up_in_flight d es))) (pending d (e ∷ es)) (λ l. standing_with d l (counted (entries_of Server (e ∷ es)))) r) (sym state_now)
        (line_grows p.shape d (messages (drop 1 (up_in_flight d es))) (pending d (e ∷ es)) (λ l. standing_with d l before) (λ l. standing_with d l (counted (entries_of Server (e ∷ es)))) (end_of p.shape block s) (record_grows d) taken_block.behind))

    -- The state at the client stays.
    pub state_taken : state_at p d (e ∷ es) ≡ state_at p d es
    state_taken = ap (λ r. end_of p.shape (joined (pending d (e ∷ es))) r) state_now ∙ sym (ends_in_parts p.shape block (joined (pending d (e ∷ es))) s) ∙ ap (λ blocks. end_of p.shape (joined blocks) s) (sym mine)

    module _ (c : ℕ) (apart : eqb c d ≡ false) (ids : NoCommonId (MakesIn block) (MakesIn (joined (pending c es)))) (its : LineStands p c es) where
      -- the block touches nothing in conflict with the other client's leases
      free_block : IsFreeOf p.shape block (λ l. standing_with c l before) s
      free_block l a b touched enough = both_read a b (leased_to d l before) (leased_to c l before) (taken_block.can.within l a touched) enough
          (λ z e. (all_lent p next es follow.0 l).compatible c d z apart e)

      foreign : txn.thread.client ≢ c
      foreign same = absurd (cc (sym (number_self c) ∙ ap (eqb c) (sym same ∙ taken_block.can.its) ∙ apart))

      passes : PassesLine p.shape c block (messages (up_in_flight c es)) (pending c es) (λ l. standing_with c l before) s
      passes = line_foreign p.shape c txn.thread foreign block taken_block.can.acts (messages (up_in_flight c es)) (pending c es) (λ l. standing_with c l before) s taken_block.can.runs free_block ids its

      -- Another client's line stands again, and the block runs where it ends.
      pub line_passed : RecordPasses p c txn block e es
      line_passed = record {
        line = subst (λ w. Line p.shape c (messages w) (pending c (e ∷ es)) (λ l. standing_with c l (counted (entries_of Server (e ∷ es)))) (last_state p.shape (as_made (e ∷ es))))
            (sym (way_now c ∙ unless_true (eqb c d) (drop 1 (up_in_flight c es)) (up_in_flight c es) apart))
            (subst (λ blocks. Line p.shape c (messages (up_in_flight c es)) blocks (λ l. standing_with c l (counted (entries_of Server (e ∷ es)))) (last_state p.shape (as_made (e ∷ es)))) (sym (pending_of_other c apart))
            (subst (λ r. Line p.shape c (messages (up_in_flight c es)) (pending c es) (λ l. standing_with c l (counted (entries_of Server (e ∷ es)))) r) (sym state_now)
            (line_grows p.shape c (messages (up_in_flight c es)) (pending c es) (λ l. standing_with c l before) (λ l. standing_with c l (counted (entries_of Server (e ∷ es)))) (end_of p.shape block s) (record_grows c) passes.line)));
        other = foreign;
        acts = taken_block.can.acts;
        runs = passes.runs;
        free = λ l a b touched enough. free_block l a b (passes.touches l a touched) enough;
        state = ap (λ blocks. end_of p.shape (joined blocks) (last_state p.shape (as_made (e ∷ es)))) (pending_of_other c apart) ∙ ap (λ r. end_of p.shape (joined (pending c es)) r) state_now ∙ passes.same;
      }

-- A client's ended blocks: the server took the first of them in, of a lost client too; and of one that isn't lost the others are
-- pending, whose records are in flight.
use Rattle.std.proofs.Common.{ℕ, zero, suc, ◌+◌, ◌≤◌, ◌≡◌, ◌⊎◌, inl, inr, refl, sym, ◌∙◌, ap, subst, Bool, true, false, cond, eqb, Option, Some, None, List, [], ◌∷◌, ◌++◌, length, arith}
use Rattle.std.specs.Prelude.{take, drop}
use Rattle.std.proofs.lemmas.List.{append_assoc, append-nil, length-append, drop-append-le, take-append-le}
use Rattle.dso_base.specs.declared.journal.Entry.{Entry}
use Rattle.dso_base.specs.declared.journal.Input.TheVariants as input
use Rattle.dso_base.specs.declared.journal.Node.{Node}
use Rattle.dso_base.specs.declared.journal.Node.TheVariants.{Server, Client}
use Rattle.dso_base.specs.declared.lock.ThreadId.{ThreadId}
use Rattle.dso_base.specs.declared.message.Up.TheVariants as up
use Rattle.dso_base.specs.declared.record.Txn.{Txn}
use Rattle.dso_base.specs.declared.request.Event.{Event}
use Rattle.dso_base.specs.declared.request.Request.{Request}
use Rattle.dso_base.specs.declared.shape.Shape.{Shape}
use Rattle.dso_law.specs.Settings.{Settings}
use Rattle.dso_law.specs.Entries.{entries_of, by_event}
use Rattle.dso_law.specs.Channels.{up_in_flight}
use Rattle.dso_law.specs.ServerReadings.{is_lost}
use Rattle.dso_legal.specs.Agreement.{messages}
use Rattle.dso_legal.specs.Lawful.{ClientFollows, NodeFollows, MayFollow, AllFollow}
use Rattle.dso_legal.specs.Committed.{or_empty, block_numbered, ended_by, ended_blocks}
use Rattle.dso_legal.specs.PendingBlocks.{handed_in, taken_in, pending, records_in, records_sent, IsRecordOf, AreRecordsOf}
use Rattle.dso_legal.specs.Blocks.{IsHandedIn, BlocksAreHandedIn}
use Rattle.dso_legal.proofs.records.ClientRecords.{records_in_parts, records_more, as_many, EndsNone, EndsBlock, block_ended, client_ends, records_are}
use Rattle.dso_legal.proofs.channels.Dropping.{DropsOne, drops_one}
use Rattle.dso_legal.proofs.records.BothEnds.{client_with, not_lost_before}
use Rattle.dso_legal.proofs.records.Handing.{lost_hands, handed_with, way_with, takes_record, takes_its_record, TakesRecord, SaysRecords, LeavesRecords, DoesToRecords, does_to_records}
use Rattle.dso_legal.proofs.channels.InFlight.{said_of}

still_few : (n m k : ℕ) → n ≤ m → n ≤ m + k
still_few n m k le = omega (arith, le)

-- the server took no more records than these, and those behind them are these
record HandsOver (n : ℕ) (sent : List Txn) (on_way : List Txn) : Type 0 where
  few : n ≤ length sent
  way : on_way ≡ drop n sent

-- after one more entry of this node
abbrev HandsWith : ℕ → Node → Entry → List Entry → Type 0
HandsWith c node e es = HandsOver (handed_with c node e es) (records_sent (client_with c node e es)) (records_in (way_with c node e es))

module _ (c : ℕ) (node : Node) (e : Entry) (es : List Entry) (before : HandsOver (handed_in c es) (records_sent (entries_of (Client c) es)) (records_in (messages (up_in_flight c es)))) where
  abbrev sent : List Txn
  sent = records_sent (entries_of (Client c) es)

  -- the record that the server takes is the next of those sent
  next_record : (txn : Txn) → TakesRecord c txn node e es → DropsOne (handed_in c es) sent txn (records_in (way_with c node e es))
  next_record txn takes = drops_one (handed_in c es) sent txn (records_in (way_with c node e es)) (sym before.way ∙ ap records_in takes.way)

  hands_after : DoesToRecords c node e es → HandsWith c node e es
  hands_after (inl (txn, takes)) =
      let it = next_record txn takes in
      subst (λ n. HandsOver n (records_sent (client_with c node e es)) (records_in (way_with c node e es))) (sym takes.taken)
      (subst (λ own. HandsOver (suc (handed_in c es)) (records_sent own) (records_in (way_with c node e es))) (sym takes.own)
      (record { few = it.more; way = sym it.later }))
  hands_after (inr (inl says)) =
      let said : List Txn = records_in (said_of e.sent) in
      subst (λ n. HandsOver n (records_sent (client_with c node e es)) (records_in (way_with c node e es))) (sym says.taken)
      (subst (λ own. HandsOver (handed_in c es) (records_sent own) (records_in (way_with c node e es))) (sym says.own)
      (subst (λ txns. HandsOver (handed_in c es) txns (records_in (way_with c node e es))) (sym (records_more e (entries_of (Client c) es)))
      (record {
        few = subst (λ n. handed_in c es ≤ n) (sym (length-append sent said)) (still_few (handed_in c es) (length sent) (length said) before.few);
        way = ap records_in says.way ∙ records_in_parts (messages (up_in_flight c es)) (said_of e.sent) ∙ ap (λ txns. txns ++ said) before.way
            ∙ sym (drop-append-le (handed_in c es) sent said before.few);
      })))
  hands_after (inr (inr leaves)) =
      subst (λ n. HandsOver n (records_sent (client_with c node e es)) (records_in (way_with c node e es))) (sym leaves.taken)
      (subst (λ own. HandsOver (handed_in c es) (records_sent own) (records_in (way_with c node e es))) (sym leaves.own)
      (subst (HandsOver (handed_in c es) sent) (sym leaves.way) before))

-- more were sent, or as many
more_sent : (c : ℕ) (node : Node) (e : Entry) (es : List Entry) (n : ℕ) → n ≤ length (records_sent (entries_of (Client c) es)) → n ≤ length (records_sent (client_with c node e es))
more_sent c Server e es n few = few
more_sent c (Client d) e es n few = by (eqb c d)
  where
    more : n ≤ length (records_sent (e ∷ entries_of (Client c) es))
    more = subst (λ txns. n ≤ length txns) (sym (records_more e (entries_of (Client c) es)))
        (subst (λ k. n ≤ k) (sym (length-append (records_sent (entries_of (Client c) es)) (records_in (said_of e.sent)))) (still_few n (length (records_sent (entries_of (Client c) es))) (length (records_in (said_of e.sent))) few))

    by : (b : Bool) → n ≤ length (records_sent (cond b (e ∷ entries_of (Client c) es) (entries_of (Client c) es)))
    by true = more
    by false = few

-- the first blocks stay where others stand behind them
still_taken : (c : ℕ) (node : Node) (e : Entry) (es : List Entry) (n : ℕ) → n ≤ length (ended_blocks (entries_of (Client c) es)) → take n (ended_blocks (client_with c node e es)) ≡ take n (ended_blocks (entries_of (Client c) es))
still_taken c Server e es n few = refl
still_taken c (Client d) e es n few = by (eqb c d)
  where
    own : List Entry
    own = entries_of (Client c) es

    more : (event : Option Event) → take n (by_event (λ event blocks. blocks ++ ended_by event own) event (ended_blocks own)) ≡ take n (ended_blocks own)
    more None = refl
    more (Some event) = take-append-le n (ended_blocks own) (ended_by event own) few

    by : (b : Bool) → take n (ended_blocks (cond b (e ∷ own) own)) ≡ take n (ended_blocks own)
    by true = more e.event
    by false = refl

-- where the records are those of the blocks, so are the ones that are left when the first are dropped
pub records_dropped : (shape : Shape) (n : ℕ) (before : List (List Event)) (txns : List Txn) (blocks : List (List Event)) → AreRecordsOf shape before txns blocks
    → AreRecordsOf shape (before ++ take n blocks) (drop n txns) (drop n blocks)
records_dropped shape zero before txns blocks are = subst (λ all. AreRecordsOf shape all txns blocks) (sym (append-nil before)) are
records_dropped shape (suc n) before [] [] are = tt
records_dropped shape (suc n) before (txn ∷ txns) (block ∷ blocks) are =
    subst (λ all. AreRecordsOf shape all (drop n txns) (drop n blocks)) (append_assoc before (block ∷ []) (take n blocks)) (records_dropped shape n (before ++ block ∷ []) txns blocks are.1)
records_dropped shape (suc n) before [] (block ∷ blocks) are = absurd are
records_dropped shape (suc n) before (txn ∷ txns) [] are = absurd are

-- the first record is that of the first block
record FirstBlock (shape : Shape) (before : List (List Event)) (txn : Txn) (blocks : List (List Event)) : Type 0 where
  block : List Event
  rest : List (List Event)
  is : blocks ≡ block ∷ rest
  its : IsRecordOf shape before txn block

first_block : (shape : Shape) (before : List (List Event)) (txn : Txn) (txns : List Txn) (blocks : List (List Event)) → AreRecordsOf shape before (txn ∷ txns) blocks → FirstBlock shape before txn blocks
first_block shape before txn txns [] are = absurd are
first_block shape before txn txns (block ∷ rest) are = record { block = block; rest = rest; is = refl; its = are.0 }

-- the server takes the record of the first block that is pending
pub record TakesBlock (p : Settings) (c : ℕ) (txn : Txn) (e : Entry) (es : List Entry) : Type 0 where
  pub block : List Event
  pub first : pending c es ≡ block ∷ pending c (e ∷ es)
  pub numbered : block ≡ block_numbered txn.seq (ended_blocks (entries_of (Client c) es))
  pub its : IsRecordOf p.shape (taken_in c es) txn block
  pub taken : taken_in c (e ∷ es) ≡ taken_in c es ++ block ∷ []
  pub does : TakesRecord c txn e.node e es

-- the entry ends a block of the client
pub record EndsOwn (p : Settings) (c : ℕ) (e : Entry) (es : List Entry) : Type 0 where
  pub ends : EndsBlock p e (entries_of (Client c) es)
  pub pending_more : pending c (e ∷ es) ≡ pending c es ++ block_ended ends ∷ []
  pub taken : taken_in c (e ∷ es) ≡ taken_in c es
  pub does : SaysRecords c e.node e es

-- what is pending and what was taken in stay
pub record KeepsBoth (c : ℕ) (e : Entry) (es : List Entry) : Type 0 where
  pub none : takes_record c e.node e.input ≡ false
  pub pending_stays : pending c (e ∷ es) ≡ pending c es
  pub taken_stays : taken_in c (e ∷ es) ≡ taken_in c es

-- an entry does one of these
abbrev pub DoesToBlocks : Settings → ℕ → Entry → List Entry → Type 0
DoesToBlocks p c e es = ((txn : Txn) × TakesBlock p c txn e es) ⊎ (EndsOwn p c e es ⊎ KeepsBoth c e es)

module _ (p : Settings) (next : ThreadId → List Event → Option Request) (c : ℕ) where
  -- what is in flight is what was sent and not taken
  hands_over : (es : List Entry) → AllFollow p next es → is_lost c (entries_of Server es) ≡ false
      → HandsOver (handed_in c es) (records_sent (entries_of (Client c) es)) (records_in (messages (up_in_flight c es)))
  hands_over [] follow alive = record { few = omega arith; way = refl }
  hands_over (e ∷ es) follow alive =
      let before = not_lost_before c e.node e es alive in
      hands_after c e.node e es (hands_over es follow.0 before) (does_to_records p next c e es follow.1 before)

  -- no more were taken than were sent, of a lost client too
  pub few_sent : (es : List Entry) → AllFollow p next es → handed_in c es ≤ length (records_sent (entries_of (Client c) es))
  few_sent [] follow = omega arith
  few_sent (e ∷ es) follow = by (is_lost c (entries_of Server es)) refl (few_sent es follow.0)
    where
      by : (b : Bool) → is_lost c (entries_of Server es) ≡ b → handed_in c es ≤ length (records_sent (entries_of (Client c) es)) → handed_in c (e ∷ es) ≤ length (records_sent (entries_of (Client c) (e ∷ es)))
      by true lost before = subst (λ n. n ≤ length (records_sent (entries_of (Client c) (e ∷ es)))) (sym (lost_hands p next c e es lost)) (more_sent c e.node e es (handed_in c es) before)
      by false alive before = (hands_after c e.node e es (hands_over es follow.0 alive) (does_to_records p next c e es follow.1 alive)).few

  -- No more blocks were taken in than there are.
  pub few_taken : (es : List Entry) → AllFollow p next es → handed_in c es ≤ length (ended_blocks (entries_of (Client c) es))
  few_taken es follow = subst (λ n. handed_in c es ≤ n) (as_many p.shape [] (records_sent (entries_of (Client c) es)) (ended_blocks (entries_of (Client c) es)) (records_are p next c es follow)) (few_sent es follow)

  -- Of a client that is lost before an entry, what was taken in stays.
  pub lost_keeps : (e : Entry) (es : List Entry) → AllFollow p next es → is_lost c (entries_of Server es) ≡ true → taken_in c (e ∷ es) ≡ taken_in c es
  lost_keeps e es follow lost = ap (λ n. take n (ended_blocks (entries_of (Client c) (e ∷ es)))) (lost_hands p next c e es lost) ∙ still_taken c e.node e es (handed_in c es) (few_taken es follow)

  module _ (es : List Entry) (follow : AllFollow p next es) (alive : is_lost c (entries_of Server es) ≡ false) where
    abbrev blocks : List (List Event)
    blocks = ended_blocks (entries_of (Client c) es)

    -- Blocks are handed in.
    pub hands_in : IsHandedIn c es
    hands_in = record { few = few_taken es follow; in_flight = (hands_over es follow alive).way }

    -- The records in flight are those of the pending blocks, behind those taken in.
    pub are_records_split : AreRecordsOf p.shape (taken_in c es) (records_in (messages (up_in_flight c es))) (pending c es)
    are_records_split = subst (λ txns. AreRecordsOf p.shape (taken_in c es) txns (pending c es)) (sym (hands_over es follow alive).way)
        (records_dropped p.shape (handed_in c es) [] (records_sent (entries_of (Client c) es)) blocks (records_are p next c es follow))

    module _ (e : Entry) where
      -- the blocks after an entry
      blocks_after : (own : List Entry) → client_with c e.node e es ≡ own → ended_blocks (entries_of (Client c) (e ∷ es)) ≡ ended_blocks own
      blocks_after own is = ap ended_blocks is

      takes_block : (txn : Txn) → TakesRecord c txn e.node e es → TakesBlock p c txn e es
      takes_block txn takes =
          let first = first_block p.shape (taken_in c es) txn (records_in (way_with c e.node e es)) (pending c es)
          (subst (λ ms. AreRecordsOf p.shape (taken_in c es) (records_in ms) (pending c es)) takes.way are_records_split) in
          let it = drops_one (handed_in c es) blocks first.block first.rest first.is in
          record {
            block = first.block;
            first = first.is ∙ ap (λ rest. first.block ∷ rest) (sym (ap (λ n. drop n (ended_blocks (entries_of (Client c) (e ∷ es)))) takes.taken ∙ ap (drop (suc (handed_in c es))) (blocks_after (entries_of (Client c) es) takes.own) ∙ it.later));
            numbered = sym (ap (λ n. block_numbered n blocks) takes.number ∙ ap or_empty it.there);
            its = first.its;
            taken = ap (λ n. take n (ended_blocks (entries_of (Client c) (e ∷ es)))) takes.taken ∙ ap (take (suc (handed_in c es))) (blocks_after (entries_of (Client c) es) takes.own) ∙ it.earlier;
            does = takes;
          }

      -- where as many were taken as before
      module _ (same : handed_with c e.node e es ≡ handed_in c es) (now : List (List Event)) (is : ended_blocks (entries_of (Client c) (e ∷ es)) ≡ now) where
        pending_is : pending c (e ∷ es) ≡ drop (handed_in c es) now
        pending_is = ap (λ n. drop n (ended_blocks (entries_of (Client c) (e ∷ es)))) same ∙ ap (drop (handed_in c es)) is

        taken_is : taken_in c (e ∷ es) ≡ take (handed_in c es) now
        taken_is = ap (λ n. take n (ended_blocks (entries_of (Client c) (e ∷ es)))) same ∙ ap (take (handed_in c es)) is

      -- an entry of the client that ends no block
      pub ends_none : SaysRecords c e.node e es → EndsNone e (entries_of (Client c) es) → KeepsBoth c e es
      ends_none says none =
          let is = blocks_after (e ∷ entries_of (Client c) es) says.own ∙ none.blocks in
          record { none = ap (λ node. takes_record c node e.input) says.node_is; pending_stays = pending_is says.taken blocks is; taken_stays = taken_is says.taken blocks is }

      module _ (says : SaysRecords c e.node e es) (ends : EndsBlock p e (entries_of (Client c) es)) where
        with_ended : ended_blocks (entries_of (Client c) (e ∷ es)) ≡ blocks ++ block_ended ends ∷ []
        with_ended = blocks_after (e ∷ entries_of (Client c) es) says.own ∙ ends.blocks

        -- An ended block is pending, behind the others,
        pub pending_ended : pending c (e ∷ es) ≡ pending c es ++ block_ended ends ∷ []
        pending_ended = pending_is says.taken (blocks ++ block_ended ends ∷ []) with_ended ∙ drop-append-le (handed_in c es) blocks (block_ended ends ∷ []) (few_taken es follow)

        -- and none is taken in.
        pub taken_ended : taken_in c (e ∷ es) ≡ taken_in c es
        taken_ended = taken_is says.taken (blocks ++ block_ended ends ∷ []) with_ended ∙ take-append-le (handed_in c es) blocks (block_ended ends ∷ []) (few_taken es follow)

      says_block : SaysRecords c e.node e es → EndsNone e (entries_of (Client c) es) ⊎ EndsBlock p e (entries_of (Client c) es) → EndsOwn p c e es ⊎ KeepsBoth c e es
      says_block says (inl none) = inr (ends_none says none)
      says_block says (inr ends) = inl (record { ends = ends; pending_more = pending_ended says ends; taken = taken_ended says ends; does = says })

      leaves_blocks : LeavesRecords c e.node e es → KeepsBoth c e es
      leaves_blocks leaves =
          let is = blocks_after (entries_of (Client c) es) leaves.own in
          record { none = leaves.none; pending_stays = pending_is leaves.taken blocks is; taken_stays = taken_is leaves.taken blocks is }

      module _ (follows : MayFollow p next e es) where
        -- the client's own entry follows by the client rule
        own_follows : e.node ≡ Client c → ClientFollows p next c e es
        own_follows own = subst (λ node. NodeFollows p next node e es) own follows.rule

        blocks_by : DoesToRecords c e.node e es → DoesToBlocks p c e es
        blocks_by (inl (txn, takes)) = inl (txn, takes_block txn takes)
        blocks_by (inr (inl says)) = inr (says_block says (client_ends p next c e es (own_follows says.node_is)))
        blocks_by (inr (inr leaves)) = inr (inr (leaves_blocks leaves))

        -- The server takes the record of a block.
        pub takes_its_block : (txn : Txn) → e.node ≡ Server → e.input ≡ input.TookUp c (up.Commit txn) → TakesBlock p c txn e es
        takes_its_block txn at is = takes_block txn (takes_its_record p next c e es txn follows alive at is)

        -- What an entry does to the blocks of a client that isn't lost before it.
        pub does_to_blocks : DoesToBlocks p c e es
        does_to_blocks = blocks_by (does_to_records p next c e es follows alive)

-- Blocks are handed in, in every lawful journal, by each client that isn't lost.
pub blocks_are_handed_in : BlocksAreHandedIn
blocks_are_handed_in p next es lawful c alive = hands_in p next c es lawful.follow alive

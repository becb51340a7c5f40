-- A client's copies stand again after an entry of its own.
use Rattle.std.proofs.Common.{ℕ, ◌≡◌, ◌⊎◌, inl, inr, refl, sym, ◌∙◌, ap, subst, false, List, [], ◌∷◌, ◌++◌}
use Rattle.std.specs.Prelude.{Option}
use Rattle.std.proofs.lemmas.List.{append-nil}
use Rattle.dso_base.specs.declared.journal.Entry.{Entry}
use Rattle.dso_base.specs.declared.journal.Input.{Input}
use Rattle.dso_base.specs.declared.journal.Input.TheVariants as input
use Rattle.dso_base.specs.declared.journal.Node.TheVariants.{Server, Client}
use Rattle.dso_base.specs.declared.lock.ThreadId.{ThreadId}
use Rattle.dso_base.specs.declared.message.Down.{Down}
use Rattle.dso_base.specs.declared.message.Up.{Up}
use Rattle.dso_base.specs.declared.message.Up.TheVariants as up
use Rattle.dso_base.specs.declared.record.Txn.{Txn}
use Rattle.dso_base.specs.declared.request.Event.{Event}
use Rattle.dso_base.specs.declared.request.Request.{Request}
use Rattle.dso_plain.specs.History.{RunsButMarks, end_of, last_state}
use Rattle.dso_plain.specs.State.{PlainState}
use Rattle.dso_plain.proofs.independence.RunsSwap.{runs_but_marks_in_parts}
use Rattle.dso_law.specs.Channels.{Letter, IsFirst, TakesFirst, down_in_flight, up_in_flight}
use Rattle.dso_law.specs.Entries.{entries_of}
use Rattle.dso_law.specs.ServerReadings.{is_lost, counted}
use Rattle.dso_law.specs.Granting.{standing_with}
use Rattle.dso_law.specs.Settings.{Settings}
use Rattle.dso_legal.specs.Agreement.{messages}
use Rattle.dso_legal.specs.AsMade.{as_made}
use Rattle.dso_legal.specs.CopiesStand.{state_at, CopiesStand}
use Rattle.dso_legal.specs.Lawful.{next_after, ClientFollows, NodeFollows, AllFollow}
use Rattle.dso_legal.specs.PendingBlocks.{joined, pending, records_in}
use Rattle.dso_legal.proofs.blocks.BlockSteps.{own_keeps, own_ends, state_ended}
use Rattle.dso_legal.proofs.blocks.ClientBlocks.{joined_more}
use Rattle.dso_legal.proofs.records.ClientRecords.{records_in_parts, EndsNone, EndsBlock, block_ended, record_ended, client_ends}
use Rattle.dso_legal.proofs.records.ClientWords.{EachQuiet, Word, Silent, Records, AsksFor, Flushes, spoken, IsAct, IsWord, ClientWord, client_word}
use Rattle.dso_legal.proofs.copies.CopiesAtClient.{NoRecord, FirstOf, behind, copies_after_own}
use Rattle.dso_legal.proofs.copies.CopiesOwn.{copies_after_ending}
use Rattle.dso_legal.proofs.line.AtBlockEnd.{ends_stand}
use Rattle.dso_legal.proofs.line.LineParts.{line_runs}
use Rattle.dso_legal.proofs.line.StandsOn.{AllStand}
use Rattle.dso_legal.proofs.channels.AfterEntry.{own_turn}
use Rattle.dso_legal.proofs.channels.InFlight.{said_of}

-- quiet messages have no record
quiet_records : (ms : List Up) → EachQuiet ms → records_in ms ≡ []
quiet_records [] quiet = refl
quiet_records (up.Commit txn ∷ ms) quiet = absurd quiet.0
quiet_records (m ∷ ms) quiet = quiet_records ms quiet.1

-- the records that an entry sends are those of its word
records_of_word : {p : Settings} {c : ℕ} {e : Entry} {own : List Entry} → (w : ClientWord p c e own) → records_in (said_of e.sent) ≡ records_in (spoken w.word)
records_of_word w = ap records_in w.whole ∙ records_in_parts w.before (spoken w.word ++ w.behind)
    ∙ ap (λ txns. txns ++ records_in (spoken w.word ++ w.behind)) (quiet_records w.before w.quiet_before)
    ∙ records_in_parts (spoken w.word) w.behind ∙ ap (λ txns. records_in (spoken w.word) ++ txns) (quiet_records w.behind w.quiet_behind)
    ∙ append-nil (records_in (spoken w.word))

-- a word without records is no record
no_record : (word : Word) → records_in (spoken word) ≡ [] → NoRecord word
no_record Silent none = tt
no_record (Records txn) none = cc none
no_record (AsksFor o) none = tt
no_record (Flushes o) none = tt

-- and one with this record alone is this record
one_record : (word : Word) (txn : Txn) → records_in (spoken word) ≡ txn ∷ [] → word ≡ Records txn
one_record Silent txn one = absurd (cc one)
one_record (Records first) txn one = ap Records (same first one)
  where
    same : (first : Txn) → first ∷ [] ≡ txn ∷ [] → first ≡ txn
    same first e = cc e
one_record (AsksFor o) txn one = absurd (cc one)
one_record (Flushes o) txn one = absurd (cc one)

-- what is the first letter's message is the first message
first_message : (m : Down) (letters : List (Letter Down)) → IsFirst m letters → FirstOf (input.TookDown m) (messages letters)
first_message m [] first = first
first_message m (letter ∷ letters) first = first

-- a client takes the first of the messages in flight
first_taken : (c : ℕ) (i : Input) (es : List Entry) → TakesFirst i (Client c) es → FirstOf i (messages (down_in_flight c es))
first_taken c (input.TookDown m) es first = first_message m (down_in_flight c es) first
first_taken c (input.Act index) es first = tt
first_taken c (input.TookUp d m) es first = tt
first_taken c (input.Flush o) es first = tt
first_taken c (input.Lose d) es first = tt
first_taken c (input.Break d) es first = tt
first_taken c (input.Rejoin d) es first = tt

-- an act leaves the messages in flight
act_behind : (i : Input) (ms : List Down) → IsAct i → behind i ms ≡ ms
act_behind (input.Act index) ms is = refl
act_behind other ms is = absurd is

module _ (p : Settings) (next : ThreadId → List Event → Option Request) (e : Entry) (es : List Entry) (follow : AllFollow p next (e ∷ es)) (stand : AllStand p es) (stand_now : AllStand p (e ∷ es))
    (c : ℕ) (at : e.node ≡ Client c) (alive : is_lost c (entries_of Server es) ≡ false) (h : CopiesStand p.shape c (state_at p c es) (messages (down_in_flight c es)) (entries_of (Client c) es)) where
  abbrev own : List Entry
  own = entries_of (Client c) es

  -- where the client stands
  abbrev s : PlainState
  s = state_at p c es

  -- the messages in flight
  abbrev ms : List Down
  ms = messages (down_in_flight c es)

  rule : ClientFollows p next c e es
  rule = subst (λ node. NodeFollows p next node e es) at follow.1.rule

  word : ClientWord p c e own
  word = client_word p c (next_after next es) (next_after next (e ∷ es)) e own rule.step

  -- the first message is what the entry takes
  first : FirstOf e.input ms
  first = first_taken c e.input es (subst (λ node. TakesFirst e.input node es) at follow.1.channels)

  -- the copies, by the state and the messages as they are after the entry
  copies_now : (r : PlainState) → state_at p c (e ∷ es) ≡ r → CopiesStand p.shape c r (behind e.input ms) (e ∷ own)
      → CopiesStand p.shape c (state_at p c (e ∷ es)) (messages (down_in_flight c (e ∷ es))) (entries_of (Client c) (e ∷ es))
  copies_now r state copies =
      let turn = own_turn c e es at in
      subst (λ mine. CopiesStand p.shape c (state_at p c (e ∷ es)) (messages (down_in_flight c (e ∷ es))) mine) (sym turn.own)
      (subst (λ down. CopiesStand p.shape c (state_at p c (e ∷ es)) down (e ∷ own)) (sym turn.down)
      (subst (λ r. CopiesStand p.shape c r (behind e.input ms) (e ∷ own)) (sym state) copies))

  -- an entry that ends no block leaves the state
  state_same : EndsNone e own → state_at p c (e ∷ es) ≡ s
  state_same none = ap (λ blocks. end_of p.shape (joined blocks) (last_state p.shape (as_made (e ∷ es)))) (own_keeps p next c es follow.0 alive e follow.1 at none).pending_stays
      ∙ ap (λ history. end_of p.shape (joined (pending c es)) (last_state p.shape history)) (own_turn c e es at).history

  -- after an entry that ends no block
  after_none : EndsNone e own → CopiesStand p.shape c (state_at p c (e ∷ es)) (messages (down_in_flight c (e ∷ es))) (entries_of (Client c) (e ∷ es))
  after_none none = copies_now s (state_same none) (copies_after_own p.shape c s p e own ms word (no_record word.word (sym (records_of_word word) ∙ none.sent)) first h)

  module _ (it : EndsBlock p e own) where
    -- the block runs from where the client stands
    block_runs : RunsButMarks p.shape (block_ended it) s
    block_runs = ((runs_but_marks_in_parts p.shape (joined (pending c es)) (block_ended it) (last_state p.shape (as_made es))).0 both_run).1
      where
        -- the blocks in flight after the entry
        now_run : RunsButMarks p.shape (joined (pending c (e ∷ es))) (last_state p.shape (as_made (e ∷ es)))
        now_run = line_runs p.shape c (messages (up_in_flight c (e ∷ es))) (pending c (e ∷ es)) (λ l. standing_with c l (counted (entries_of Server (e ∷ es)))) (last_state p.shape (as_made (e ∷ es))) (stand_now.lines c (ap (is_lost c) (own_turn c e es at).server ∙ alive)).line

        both_run : RunsButMarks p.shape (joined (pending c es) ++ block_ended it) (last_state p.shape (as_made es))
        both_run = subst (λ history. RunsButMarks p.shape (joined (pending c es) ++ block_ended it) (last_state p.shape history)) (own_turn c e es at).history
            (subst (λ events. RunsButMarks p.shape events (last_state p.shape (as_made (e ∷ es))))
            (ap joined (own_ends p next c es follow.0 alive e follow.1 at it) ∙ joined_more (pending c es) (block_ended it)) now_run)

    -- the word is its record
    word_is : word.word ≡ Records (record_ended it)
    word_is = one_record word.word (record_ended it) (sym (records_of_word word) ∙ it.sent)

    -- after an entry that ends a block
    after_block : CopiesStand p.shape c (state_at p c (e ∷ es)) (messages (down_in_flight c (e ∷ es))) (entries_of (Client c) (e ∷ es))
    after_block = copies_now (end_of p.shape (block_ended it) s) (state_ended p next c es follow.0 alive e follow.1 at it)
        (subst (λ down. CopiesStand p.shape c (end_of p.shape (block_ended it) s) down (e ∷ own)) (sym (act_behind e.input ms (subst (IsWord p c e own e.input) word_is word.is).0))
        (copies_after_ending p c it.thread _ s (end_of p.shape (block_ended it) s) ms e own (ends_stand p next e es follow stand c at alive it block_runs word word_is) h))

  -- by whether it ends a block
  after_either : EndsNone e own ⊎ EndsBlock p e own → CopiesStand p.shape c (state_at p c (e ∷ es)) (messages (down_in_flight c (e ∷ es))) (entries_of (Client c) (e ∷ es))
  after_either (inl none) = after_none none
  after_either (inr it) = after_block it

-- A client's copies stand again after an entry of its own.
pub own_copies : (p : Settings) (next : ThreadId → List Event → Option Request) (e : Entry) (es : List Entry) → AllFollow p next (e ∷ es) → AllStand p es → AllStand p (e ∷ es)
    → (c : ℕ) → e.node ≡ Client c → is_lost c (entries_of Server es) ≡ false → CopiesStand p.shape c (state_at p c es) (messages (down_in_flight c es)) (entries_of (Client c) es)
    → CopiesStand p.shape c (state_at p c (e ∷ es)) (messages (down_in_flight c (e ∷ es))) (entries_of (Client c) (e ∷ es))
own_copies p next e es follow stand stand_now c at alive h = after_either p next e es follow stand stand_now c at alive h
    (client_ends p next c e es (subst (λ node. NodeFollows p next node e es) at follow.1.rule))

-- A client's line at an entry of its own, by what the entry does: it is quiet, its event is no ending, or its event ends a
-- block.
use Rattle.std.specs.List.{AllByRecursion}
use Rattle.std.proofs.Common.{ℕ, suc, ◌≤◌, ◌≡◌, refl, sym, ◌∙◌, ap, subst, false, List, [], ◌∷◌, ◌++◌}
use Rattle.std.specs.Prelude.{Option, Some, None, length}
use Rattle.std.proofs.lemmas.List.{append-nil}
use Rattle.dso_base.specs.declared.journal.Entry.{Entry}
use Rattle.dso_base.specs.declared.journal.Input.{Input}
use Rattle.dso_base.specs.declared.journal.Input.TheVariants as input
use Rattle.dso_base.specs.declared.journal.Node.TheVariants.{Server, Client}
use Rattle.dso_base.specs.declared.lock.ThreadId.{ThreadId}
use Rattle.dso_base.specs.declared.message.Up.{Up}
use Rattle.dso_base.specs.declared.message.Up.TheVariants as up
use Rattle.dso_base.specs.declared.record.Ending.{Ending}
use Rattle.dso_base.specs.declared.record.Txn.{Txn}
use Rattle.dso_base.specs.declared.request.Event.{Event}
use Rattle.dso_base.specs.declared.request.Event.TheVariants.{Act}
use Rattle.dso_base.specs.declared.request.Reply.{Reply}
use Rattle.dso_base.specs.declared.request.Request.{Request}
use Rattle.dso_base.specs.Block.{txn_of}
use Rattle.dso_plain.specs.History.{RunsButMarks, end_of}
use Rattle.dso_plain.specs.Touches.{IsActOf, AreActsOf}
use Rattle.dso_law.specs.Settings.{Settings}
use Rattle.dso_law.specs.Entries.{entries_of, by_event}
use Rattle.dso_law.specs.ClientStep.{record_of, DoesOrAsks, ActsOn, ClientStepOn, ClientStep}
use Rattle.dso_law.specs.RequestNeeds.{Need, unmet}
use Rattle.dso_law.specs.Records.{records}
use Rattle.dso_law.specs.Replies.{woken_by}
use Rattle.dso_law.specs.ServerReadings.{is_lost}
use Rattle.dso_law.specs.Threads.{ending_of, locks_of, open_block, privates_before}
use Rattle.dso_legal.specs.Committed.{block_if, ended_by, ended_blocks}
use Rattle.dso_legal.specs.CopiesStand.{state_at}
use Rattle.dso_legal.specs.Lawful.{AllFollow}
use Rattle.dso_legal.specs.PendingBlocks.{handed_in}
use Rattle.dso_legal.proofs.acts.ClientActs.{IsNoRecord, NoRecords, IsQuiet, HasEvent}
use Rattle.dso_legal.proofs.line.LineParts.{is_record}
use Rattle.dso_legal.proofs.line.LineSent.{HoldsLeased, SendsOn, EndsBlock, line_sent, line_ended}
use Rattle.dso_legal.proofs.blocks.OpenBlocksHold.{OpensFrom, held_leased, ended_touches}
use Rattle.dso_legal.proofs.channels.InFlight.{said_of}
use Rattle.dso_legal.proofs.line.LineElsewhere.{LineStands}

-- a message that is no record is told so
plain_one : (m : Up) → IsNoRecord m → is_record m ≡ false
plain_one (up.Commit txn) h = absurd h
plain_one m h = refl

-- so are messages
pub all_plain : (ms : List Up) → NoRecords ms → AllByRecursion (λ m. is_record m ≡ false) ms
all_plain [] h = tt
all_plain (m ∷ ms) h = (plain_one m h.0, all_plain ms h.1)

-- acts and one more
pub acts_more : (t : ThreadId) (xs : List Event) (event : Event) → AreActsOf t xs → IsActOf t event → AreActsOf t (xs ++ event ∷ [])
acts_more t [] event acts its = (its, tt)
acts_more t (x ∷ xs) event acts its = (acts.0, acts_more t xs event acts.1 its)

-- the event is of one of the client's threads
abbrev IsEventOfClient : ℕ → Option Event → Type 0
IsEventOfClient c event = (t : ThreadId) (request : Request) (reply : Reply) (woken : Option ThreadId) → event ≡ Some (Act t request reply woken) → t.client ≡ c

module _ (p : Settings) (c : ℕ) (before after : ThreadId → Option Request) (e : Entry) (own : List Entry) where
  its_silent : e.event ≡ None → IsEventOfClient c e.event
  its_silent none t request reply woken is = absurd (cc (sym none ∙ is))

  its_does_or_asks : (u : ThreadId) (wanted : Request) (need : Option Need) → u.client ≡ c → DoesOrAsks p c u wanted need before after e own → IsEventOfClient c e.event
  its_does_or_asks u wanted None its does t request reply woken is =
      let both : Some (Act u wanted does.reply (woken_by wanted does.reply own)) ≡ Some (Act t request reply woken) = sym does.event ∙ is in
      let same : u ≡ t = cc both in
      ap (λ (w : ThreadId). w.client) (sym same) ∙ its
  its_does_or_asks u wanted (Some need) its asks t request reply woken is = its_silent asks.event t request reply woken is

  its_acts : (u : ThreadId) (wanted : Option Request) → u.client ≡ c → ActsOn p c u wanted before after e own → IsEventOfClient c e.event
  its_acts u None its step = absurd step
  its_acts u (Some wanted) its step = its_does_or_asks u wanted (unmet p c before u wanted own) its step

  its_input : (i : Input) → ClientStepOn p c i before after e own → IsEventOfClient c e.event
  its_input (input.Act index) step = its_acts (record { client = c; index = index }) (before (record { client = c; index = index })) refl step.acts
  its_input (input.TookDown m) step = its_silent step.event
  its_input (input.Flush o) step = its_silent step.event
  its_input (input.Rejoin d) step = its_silent step.event
  its_input other step = absurd step

  -- The event of a client's entry is of one of its threads.
  pub thread_is_its : ClientStep p c before after e own → (it : HasEvent p e own) → it.thread.client ≡ c
  thread_is_its step it = its_input e.input step it.thread it.request it.reply (woken_by it.request it.reply own) it.event

module _ (p : Settings) (e : Entry) (own : List Entry) where
  -- the event of an entry that has one
  abbrev pub event_it : HasEvent p e own → Event
  event_it it = Act it.thread it.request it.reply (woken_by it.request it.reply own)

  -- the block that it would end
  abbrev pub block_it : HasEvent p e own → List Event
  block_it it = open_block it.thread own ++ event_it it ∷ []

  -- the record that it sends where it ends the block
  abbrev pub record_it : HasEvent p e own → Ending → Txn
  record_it it ending = txn_of p.shape (suc (records own)) it.thread (privates_before p.shape it.thread own) (block_it it) ending

  -- the ended blocks after the entry
  blocks_with : (it : HasEvent p e own) (ending : Option Ending) → ending_of (event_it it) (locks_of it.thread own) ≡ ending → ended_blocks (e ∷ own) ≡ ended_blocks own ++ block_if ending (block_it it)
  blocks_with it ending is = ap (λ event. by_event (λ event blocks. blocks ++ ended_by event own) event (ended_blocks own)) it.event ∙ ap (λ ending. ended_blocks own ++ block_if ending (block_it it)) is

  -- what it says
  says_with : (it : HasEvent p e own) (ending : Option Ending) → ending_of (event_it it) (locks_of it.thread own) ≡ ending → said_of e.sent ≡ record_of p it.thread (event_it it) ending own ++ it.rest
  says_with it ending is = it.whole ∙ ap (λ ending. record_of p it.thread (event_it it) ending own ++ it.rest) is

module _ (p : Settings) (next : ThreadId → List Event → Option Request) (e : Entry) (es : List Entry) (follow : AllFollow p next (e ∷ es)) (c : ℕ) (is : e.node ≡ Client c) (alive : is_lost c (entries_of Server es) ≡ false)
    (few : handed_in c es ≤ length (ended_blocks (entries_of (Client c) es))) (line : LineStands p c es) where
  abbrev own : List Entry
  own = entries_of (Client c) es

  -- The line after a quiet entry.
  pub own_quiet : IsQuiet e → HoldsLeased c (e ∷ own) (state_at p c es) → SendsOn p c e es
  own_quiet quiet held = line_sent p next e es follow c is alive (all_plain (said_of e.sent) quiet.no_records) few
      (ap (λ event. by_event (λ event blocks. blocks ++ ended_by event own) event (ended_blocks own)) quiet.event) held line

  -- The line after an act that is no ending.
  pub own_goes_on : (it : HasEvent p e own) → ending_of (event_it p e own it) (locks_of it.thread own) ≡ None → HoldsLeased c (e ∷ own) (state_at p c es) → SendsOn p c e es
  own_goes_on it none held = line_sent p next e es follow c is alive
      (subst (AllByRecursion (λ m. is_record m ≡ false)) (sym (says_with p e own it None none)) (all_plain it.rest it.no_records)) few
      (blocks_with p e own it None none ∙ append-nil (ended_blocks own)) held line

  -- The line after an act that ends a block.
  pub own_ends : (it : HasEvent p e own) (ending : Ending) → ending_of (event_it p e own it) (locks_of it.thread own) ≡ Some ending → it.thread.client ≡ c → OpensFrom p.shape it.thread own (state_at p c es)
      → RunsButMarks p.shape (block_it p e own it) (state_at p c es) → HoldsLeased c (e ∷ own) (end_of p.shape (block_it p e own it) (state_at p c es)) → EndsBlock p c (block_it p e own it) e es
  own_ends it ending ends its opens runs held =
      let acts : AreActsOf it.thread (block_it p e own it) = acts_more it.thread (open_block it.thread own) (event_it p e own it) opens.keeps.acts refl in
      line_ended p next e es follow c is alive (record_it p e own it ending) (block_it p e own it) it.rest (says_with p e own it (Some ending) ends) (all_plain it.rest it.no_records) few
      (blocks_with p e own it (Some ending) ends) its acts runs
      (λ l x touched. held_leased p next es follow.0 c it.thread l x (ended_touches p next es follow.0 c it.thread (state_at p c es) opens ending (event_it p e own it) refl ends acts runs l x touched))
      held line

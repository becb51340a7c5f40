-- The records that a client sends are those of its ended blocks, one for one and in their order.
use Rattle.std.proofs.Common.{ℕ, suc, ◌≡◌, ◌⊎◌, inl, inr, refl, sym, ◌∙◌, ap, subst, Bool, true, false, cond, eqb, Option, Some, None, List, [], ◌∷◌, ◌++◌, length}
use Rattle.std.proofs.lemmas.List.{append_assoc, append-nil}
use Rattle.dso_base.specs.declared.journal.Entry.{Entry}
use Rattle.dso_base.specs.declared.journal.Node.{Node}
use Rattle.dso_base.specs.declared.journal.Node.TheVariants.{Server, Client}
use Rattle.dso_base.specs.declared.lock.ThreadId.{ThreadId}
use Rattle.dso_base.specs.declared.message.Up.{Up}
use Rattle.dso_base.specs.declared.message.Up.TheVariants as up
use Rattle.dso_base.specs.declared.record.Ending.{Ending}
use Rattle.dso_base.specs.declared.record.Txn.{Txn}
use Rattle.dso_base.specs.declared.request.Event.{Event}
use Rattle.dso_base.specs.declared.request.Event.TheVariants.{Act}
use Rattle.dso_base.specs.declared.request.Reply.{Reply}
use Rattle.dso_base.specs.declared.request.Request.{Request}
use Rattle.dso_base.specs.declared.shape.Shape.{Shape}
use Rattle.dso_base.specs.Block.{txn_of}
use Rattle.dso_plain.proofs.keys.SameKeys.{same_number}
use Rattle.dso_law.specs.Settings.{Settings}
use Rattle.dso_law.specs.Entries.{entries_of, by_event}
use Rattle.dso_law.specs.Threads.{locks_of, ending_of, open_block, privates_before}
use Rattle.dso_law.specs.Records.{records_by_sent, records}
use Rattle.dso_law.specs.ClientStep.{record_of, commits}
use Rattle.dso_law.specs.Replies.{woken_by}
use Rattle.dso_legal.specs.Agreement.{after}
use Rattle.dso_legal.specs.Lawful.{next_after, ClientFollows, NodeFollows, AllFollow}
use Rattle.dso_legal.specs.Committed.{block_if, ended_by, ended_blocks}
use Rattle.dso_legal.specs.PendingBlocks.{records_in, with_record_sent, records_sent, IsRecordOf, AreRecordsOf}
use Rattle.dso_legal.specs.Blocks.{BlocksAreKept}
use Rattle.dso_legal.proofs.acts.ClientActs.{NoRecords, IsQuiet, HasEvent, client_acted}
use Rattle.dso_legal.proofs.blocks.ClientBlocks.{block_acts, keeps_thread, locks_at_block}
use Rattle.dso_legal.proofs.records.BothEnds.{client_with}
use Rattle.dso_legal.proofs.channels.InFlight.{said_of, said_status}

-- the records in two lists of messages
pub records_in_parts : (first second : List Up) → records_in (first ++ second) ≡ records_in first ++ records_in second
records_in_parts [] second = refl
records_in_parts (up.Commit txn ∷ first) second = ap (λ txns. txn ∷ txns) (records_in_parts first second)
records_in_parts (m ∷ first) second = records_in_parts first second

-- the records among what is said stand at the end
records_after : (ms : List Up) (txns : List Txn) → after with_record_sent ms txns ≡ txns ++ records_in ms
records_after [] txns = sym (append-nil txns)
records_after (up.Commit txn ∷ ms) txns = records_after ms (txns ++ txn ∷ []) ∙ append_assoc txns (txn ∷ []) (records_in ms)
records_after (m ∷ ms) txns = records_after ms txns

-- the records sent after one more entry
pub records_more : (e : Entry) (own : List Entry) → records_sent (e ∷ own) ≡ records_sent own ++ records_in (said_of e.sent)
records_more e own = said_status with_record_sent e.sent (records_sent own) ∙ records_after (said_of e.sent) (records_sent own)

-- one more where it is a record
count_said : (m : Up) (n : ℕ) (txns : List Txn) → n ≡ length txns → records_by_sent m n ≡ length (with_record_sent m txns)
count_said (up.Commit txn) n txns is = ap suc is ∙ sym (length_more txns)
  where
    length_more : (txns : List Txn) → length (txns ++ txn ∷ []) ≡ suc (length txns)
    length_more [] = refl
    length_more (first ∷ txns) = ap suc (length_more txns)
count_said m n txns is = is

count_all : (ms : List Up) (n : ℕ) (txns : List Txn) → n ≡ length txns → after records_by_sent ms n ≡ length (after with_record_sent ms txns)
count_all [] n txns is = is
count_all (m ∷ ms) n txns is = count_all ms (records_by_sent m n) (with_record_sent m txns) (count_said m n txns is)

-- how many records were sent
pub records_count : (own : List Entry) → records own ≡ length (records_sent own)
records_count [] = refl
records_count (e ∷ own) = said_status records_by_sent e.sent (records own) ∙ count_all (said_of e.sent) (records own) (records_sent own) (records_count own)
    ∙ sym (ap length (said_status with_record_sent e.sent (records_sent own)))

-- among messages that are no records there are none
pub no_records_in : (ms : List Up) → NoRecords ms → records_in ms ≡ []
no_records_in [] none = refl
no_records_in (up.Commit txn ∷ ms) none = absurd none.0
no_records_in (m ∷ ms) none = no_records_in ms none.1

-- records of blocks are as many as the blocks
pub as_many : (shape : Shape) (before : List (List Event)) (txns : List Txn) (blocks : List (List Event)) → AreRecordsOf shape before txns blocks → length txns ≡ length blocks
as_many shape before [] [] are = refl
as_many shape before (txn ∷ txns) (block ∷ blocks) are = ap suc (as_many shape (before ++ block ∷ []) txns blocks are.1)
as_many shape before [] (block ∷ blocks) are = absurd are
as_many shape before (txn ∷ txns) [] are = absurd are

-- one more record of one more block
record_added : (shape : Shape) (before : List (List Event)) (txns : List Txn) (blocks : List (List Event)) (txn : Txn) (block : List Event) → AreRecordsOf shape before txns blocks
    → IsRecordOf shape (before ++ blocks) txn block → AreRecordsOf shape before (txns ++ txn ∷ []) (blocks ++ block ∷ [])
record_added shape before [] [] txn block are is = (subst (λ all. IsRecordOf shape all txn block) (append-nil before) is, tt)
record_added shape before (first ∷ txns) (one ∷ blocks) txn block are is =
    (are.0, record_added shape (before ++ one ∷ []) txns blocks txn block are.1 (subst (λ all. IsRecordOf shape all txn block) (sym (append_assoc before (one ∷ []) blocks)) is))
record_added shape before [] (one ∷ blocks) txn block are is = absurd are
record_added shape before (first ∷ txns) [] txn block are is = absurd are

-- the entry ends no block, and sends no record
pub record EndsNone (e : Entry) (own : List Entry) : Type 0 where
  pub blocks : ended_blocks (e ∷ own) ≡ ended_blocks own
  pub sent : records_in (said_of e.sent) ≡ []

-- the entry's event ends the open block of its thread, and the entry sends the record of it alone
pub record EndsBlock (p : Settings) (e : Entry) (own : List Entry) : Type 0 where
  pub thread : ThreadId
  pub request : Request
  pub reply : Reply
  pub woken : Option ThreadId
  pub ending : Ending
  pub event : e.event ≡ Some (Act thread request reply woken)
  pub ends : ending_of (Act thread request reply woken) (locks_of thread own) ≡ Some ending
  pub blocks : ended_blocks (e ∷ own) ≡ ended_blocks own ++ (open_block thread own ++ Act thread request reply woken ∷ []) ∷ []
  pub sent : records_in (said_of e.sent) ≡ txn_of p.shape (suc (records own)) thread (privates_before p.shape thread own) (open_block thread own ++ Act thread request reply woken ∷ []) ending ∷ []

-- the block that ends
abbrev pub block_ended : {p : Settings} {e : Entry} {own : List Entry} → EndsBlock p e own → List Event
block_ended {own} it = open_block it.thread own ++ Act it.thread it.request it.reply it.woken ∷ []

-- and its record
abbrev pub record_ended : {p : Settings} {e : Entry} {own : List Entry} → EndsBlock p e own → Txn
record_ended {p} {own} it = txn_of p.shape (suc (records own)) it.thread (privates_before p.shape it.thread own) (block_ended it) it.ending

module _ (p : Settings) (e : Entry) (own : List Entry) where
  -- the blocks after the entry, by its event
  blocks_by : (event : Option Event) → e.event ≡ event → ended_blocks (e ∷ own) ≡ by_event (λ event blocks. blocks ++ ended_by event own) event (ended_blocks own)
  blocks_by event is = ap (λ event. by_event (λ event blocks. blocks ++ ended_by event own) event (ended_blocks own)) is

  module _ (it : HasEvent p e own) where
    -- the event
    abbrev event : Event
    event = Act it.thread it.request it.reply (woken_by it.request it.reply own)

    -- the records that the entry sends
    sent_by_event : records_in (said_of e.sent) ≡ records_in (commits p it.thread event own)
    sent_by_event = ap records_in it.whole ∙ records_in_parts (commits p it.thread event own) it.rest
        ∙ ap (λ txns. records_in (commits p it.thread event own) ++ txns) (no_records_in it.rest it.no_records) ∙ append-nil (records_in (commits p it.thread event own))

    -- an event that is no ending ends no block
    pub goes_on : ending_of event (locks_of it.thread own) ≡ None → EndsNone e own
    goes_on none = record {
      blocks = blocks_by (Some event) it.event ∙ ap (λ ending. ended_blocks own ++ block_if ending (open_block it.thread own ++ event ∷ [])) none ∙ append-nil (ended_blocks own);
      sent = sent_by_event ∙ ap (λ ending. records_in (record_of p it.thread event ending own)) none;
    }

    -- an ending ends the block
    pub ends_it : (ending : Ending) → ending_of event (locks_of it.thread own) ≡ Some ending → EndsBlock p e own
    ends_it ending some = record {
      thread = it.thread;
      request = it.request;
      reply = it.reply;
      woken = woken_by it.request it.reply own;
      ending = ending;
      event = it.event;
      ends = some;
      blocks = blocks_by (Some event) it.event ∙ ap (λ ending. ended_blocks own ++ block_if ending (open_block it.thread own ++ event ∷ [])) some;
      sent = sent_by_event ∙ ap (λ ending. records_in (record_of p it.thread event ending own)) some;
    }

    ends_by : (ending : Option Ending) → ending_of event (locks_of it.thread own) ≡ ending → EndsNone e own ⊎ EndsBlock p e own
    ends_by None none = inl (goes_on none)
    ends_by (Some ending) some = inr (ends_it ending some)

  -- an entry with no event ends no block
  pub quiet_ends_none : IsQuiet e → EndsNone e own
  quiet_ends_none quiet = record { blocks = blocks_by None quiet.event; sent = no_records_in (said_of e.sent) quiet.no_records }

  -- An entry ends a block and sends its record, or neither.
  pub ends_block : IsQuiet e ⊎ HasEvent p e own → EndsNone e own ⊎ EndsBlock p e own
  ends_block (inl quiet) = inl (quiet_ends_none quiet)
  ends_block (inr it) = ends_by it (ending_of (event it) (locks_of it.thread own)) refl

  -- the record is that of the block that ends
  pub record_is : (it : EndsBlock p e own) → AreRecordsOf p.shape [] (records_sent own) (ended_blocks own) → IsRecordOf p.shape (ended_blocks own) (record_ended it) (block_ended it)
  record_is it are =
      let kept = keeps_thread p.shape it.thread own in
      record {
        acts = block_acts it.thread it.request it.reply it.woken own;
        ends = record {
          earlier = open_block it.thread own;
          last = Act it.thread it.request it.reply it.woken;
          whole = refl;
          stays = kept.stays;
          ends = ap (ending_of (Act it.thread it.request it.reply it.woken)) (locks_at_block p.shape it.thread own) ∙ it.ends;
        };
        whole = ap (λ n. txn_of p.shape (suc n) it.thread (privates_before p.shape it.thread own) (block_ended it) it.ending) (records_count own ∙ as_many p.shape [] (records_sent own) (ended_blocks own) are)
            ∙ ap (λ privates. txn_of p.shape (suc (length (ended_blocks own))) it.thread privates (block_ended it) it.ending) kept.privates;
      }

  -- so the records stay those of the blocks
  records_kept : EndsNone e own ⊎ EndsBlock p e own → AreRecordsOf p.shape [] (records_sent own) (ended_blocks own) → AreRecordsOf p.shape [] (records_sent (e ∷ own)) (ended_blocks (e ∷ own))
  records_kept (inl it) are =
      subst (λ txns. AreRecordsOf p.shape [] txns (ended_blocks (e ∷ own))) (sym (records_more e own ∙ ap (λ txns. records_sent own ++ txns) it.sent ∙ append-nil (records_sent own)))
      (subst (AreRecordsOf p.shape [] (records_sent own)) (sym it.blocks) are)
  records_kept (inr it) are =
      subst (λ txns. AreRecordsOf p.shape [] txns (ended_blocks (e ∷ own))) (sym (records_more e own ∙ ap (λ txns. records_sent own ++ txns) it.sent))
      (subst (λ blocks. AreRecordsOf p.shape [] (records_sent own ++ record_ended it ∷ []) blocks) (sym it.blocks)
      (record_added p.shape [] (records_sent own) (ended_blocks own) (record_ended it) (block_ended it) are (record_is it are)))

module _ (p : Settings) (next : ThreadId → List Event → Option Request) (c : ℕ) where
  -- what an entry of the client does
  pub client_ends : (e : Entry) (es : List Entry) → ClientFollows p next c e es → EndsNone e (entries_of (Client c) es) ⊎ EndsBlock p e (entries_of (Client c) es)
  client_ends e es follows = ends_block p e (entries_of (Client c) es) (client_acted p c (next_after next es) (next_after next (e ∷ es)) e (entries_of (Client c) es) follows.step)

  -- The records that the client sent are those of its ended blocks.
  abbrev pub RecordsAre : List Entry → Type 0
  RecordsAre own = AreRecordsOf p.shape [] (records_sent own) (ended_blocks own)

  records_at : (node : Node) (e : Entry) (es : List Entry) → NodeFollows p next node e es → RecordsAre (entries_of (Client c) es) → RecordsAre (client_with c node e es)
  records_at Server e es follows are = are
  records_at (Client d) e es follows are = by (eqb c d) refl
    where
      by : (b : Bool) → eqb c d ≡ b → RecordsAre (cond b (e ∷ entries_of (Client c) es) (entries_of (Client c) es))
      by true is = records_kept p e (entries_of (Client c) es) (client_ends e es (subst (λ n. ClientFollows p next n e es) (sym (same_number c d is)) follows)) are
      by false is = are

  -- over a whole journal
  pub records_are : (es : List Entry) → AllFollow p next es → RecordsAre (entries_of (Client c) es)
  records_are [] follow = tt
  records_are (e ∷ es) follow = records_at e.node e es follow.1.rule (records_are es follow.0)

-- Blocks are kept, in every lawful journal, at each client.
pub blocks_are_kept : BlocksAreKept
blocks_are_kept p next es lawful c = record {
  thread = λ t. keeps_thread p.shape t (entries_of (Client c) es);
  records = records_are p next c es lawful.follow;
}

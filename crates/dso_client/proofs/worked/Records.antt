-- What an act makes of the work in hand, by the entries, and the record of it.
use Rattle.std.specs.List.{list_any}
use Rattle.std.proofs.Common.{◌≡◌, ℕ, suc, refl, sym, ◌∙◌, ap, subst, eqb, Option, Some, None, [], ◌∷◌, ◌++◌}
use Rattle.dso_base.specs.declared.message.Up.TheVariants.{Commit}
use Rattle.dso_base.specs.declared.record.Ending.{Ending}
use Rattle.dso_base.specs.declared.record.Txn.{Txn}
use Rattle.dso_base.specs.declared.shape.Shape.{Shape}
use Rattle.dso_base.specs.Block.{Work, start, work_by, txn_of}
use Rattle.dso_change.specs.Hands.{IsOnce, hand_of, record_from}
use Rattle.dso_law.specs.ClientStep.{commits, record_of}
use Rattle.dso_law.specs.Laws.{WorkAfter}
use Rattle.dso_law.specs.Records.{records}
use Rattle.dso_law.specs.Threads.{ending_by, locks_of, open_block, privates_before, work_of}
use Rattle.dso_law.proofs.client.WorkByEntry.{work_goes_on, recorded}
use Rattle.dso_legal.proofs.records.FreshNews.{ending_leaves}
use Rattle.dso_plain.proofs.keys.SameKeys.{thread_self}
use Rattle.dso_txn.specs.InHand.{hand_in}
use Rattle.dso_client.specs.declared.answered.Answered.{Answered}
use Rattle.dso_client.specs.declared.thread_context.ThreadContext.{ThreadContext}
use Rattle.dso_client.specs.SentRecords.{HasWork, IsActing, MaySend}
use Rattle.dso_client.specs.ActEffects.{event_of, applied, applied_entry}
use Rattle.dso_client.specs.RunPoints.{RunPoint}
use Rattle.dso_client.specs.LeaseReturns.{record_sent}
use Rattle.dso_client.specs.RunFacts.{RunFacts}

module _ (clock : ℕ) (at : RunPoint) (act : Answered) where
  abbrev before : Work
  before = work_of at.settings.shape act.thread at.entries

  abbrev after : Work
  after = work_by at.settings.shape act.request act.reply act.woken before

  by_act : WorkAfter at.settings.shape act.thread (event_of act) (applied_entry clock at.client act) at.entries
  by_act = work_goes_on at.settings.shape act.thread (event_of act) (applied_entry clock at.client act) at.entries (record { event_is = refl; its = thread_self act.thread })

  module _ (shape : Shape) (old new : ThreadContext) (same_id : new.id ≡ old.id) where
    -- an act that is no ending
    pub work_applied : IsActing at shape act None old → ((work : Work) → IsOnce work → hand_in old.privates old.block ≡ hand_of work
        → hand_in new.privates new.block ≡ hand_of (work_by shape act.request act.reply act.woken work)) → HasWork (applied clock act at) new
    work_applied h changes =
        let its : new.id ≡ act.thread = same_id ∙ h.its in
        let had : hand_in old.privates old.block ≡ hand_of before = h.work ∙ ap (λ t. hand_of (work_of at.settings.shape t at.entries)) h.its in
        changes before h.once had ∙ (ap (λ s. hand_of (work_by s act.request act.reply act.woken before)) (sym h.shape_is)
        ∙ (ap (λ (w : Work). hand_of w) (sym (by_act.goes_on (sym h.ends))) ∙ ap (λ t. hand_of (work_of at.settings.shape t (applied clock act at).entries)) (sym its)))

    -- one that is
    pub work_closed : (ending : Ending) → IsActing at shape act (Some ending) old → ((work : Work) → IsOnce work → hand_in old.privates old.block ≡ hand_of work
        → hand_in new.privates new.block ≡ hand_of (start (work_by shape act.request act.reply act.woken work).privates)) → HasWork (applied clock act at) new
    work_closed ending h changes =
        let its : new.id ≡ act.thread = same_id ∙ h.its in
        let had : hand_in old.privates old.block ≡ hand_of before = h.work ∙ ap (λ t. hand_of (work_of at.settings.shape t at.entries)) h.its in
        changes before h.once had ∙ (ap (λ s. hand_of (start (work_by s act.request act.reply act.woken before).privates)) (sym h.shape_is)
        ∙ (ap (λ (w : Work). hand_of w) (sym (by_act.ends (λ none. absurd (cc (h.ends ∙ none))))) ∙ ap (λ t. hand_of (work_of at.settings.shape t (applied clock act at).entries)) (sym its)))

  -- an ending leaves the work as it was
  pub ending_keeps : (shape : Shape) (ending : Ending) (context : ThreadContext) → IsActing at shape act (Some ending) context → work_by shape act.request act.reply act.woken before ≡ before
  ending_keeps shape ending context h = ending_leaves shape act.request act.reply act.woken (locks_of act.thread at.entries) ending before (sym h.ends)

  -- the record of the work is the one that the rule sends
  pub record_is : (shape : Shape) (seq : ℕ) (ending : Ending) (context : ThreadContext) (txn : Txn) → IsActing at shape act (Some ending) context → seq ≡ suc (records at.entries)
      → txn ≡ record_from seq context.id (work_by shape act.request act.reply act.woken before) ending
      → record_sent (Some txn) ≡ commits at.settings act.thread (event_of act) at.entries
  record_is shape seq ending context txn h numbered is =
      ap (λ txn. Commit txn ∷ []) (is ∙ (ap (λ s. record_from seq context.id (work_by s act.request act.reply act.woken before) ending) (sym h.shape_is)
      ∙ (ap (λ t. record_from seq t after ending) h.its
      ∙ (recorded at.settings.shape seq act.thread at.entries (event_of act) ending after refl
      ∙ ap (λ n. txn_of at.settings.shape n act.thread (privates_before at.settings.shape act.thread at.entries) (open_block act.thread at.entries ++ event_of act ∷ []) ending) numbered))))
      ∙ ap (λ ending. record_of at.settings act.thread (event_of act) ending at.entries) h.ends

  -- the same in the words of what a client keeps
  module _ (shape : Shape) (old mid : ThreadContext) (same_id : mid.id ≡ old.id) (changes : (work : Work) → IsOnce work → hand_in old.privates old.block ≡ hand_of work
      → hand_in mid.privates mid.block ≡ hand_of (work_by shape act.request act.reply act.woken work)) where
    -- a block that was closed
    pub context_closed : (ending : Ending) (new : ThreadContext) → IsActing at shape act (Some ending) old → new.id ≡ mid.id
        → ((work : Work) → hand_in mid.privates mid.block ≡ hand_of work → hand_in new.privates new.block ≡ hand_of (start work.privates)) → HasWork (applied clock act at) new
    context_closed ending new h its leaves = work_closed shape old new (its ∙ same_id) ending h (λ work once same. leaves (work_by shape act.request act.reply act.woken work) (changes work once same))

    -- and its record
    pub context_record : (seq : ℕ) (ending : Ending) (txn : Txn) → IsActing at shape act (Some ending) old
        → ((work : Work) → IsOnce work → hand_in mid.privates mid.block ≡ hand_of work → txn ≡ record_from seq mid.id work ending) → seq ≡ suc (records at.entries)
        → record_sent (Some txn) ≡ commits at.settings act.thread (event_of act) at.entries
    context_record seq ending txn h closes numbered =
        let had : hand_in old.privates old.block ≡ hand_of before = h.work ∙ ap (λ t. hand_of (work_of at.settings.shape t at.entries)) h.its in
        let once : IsOnce (work_by shape act.request act.reply act.woken before) = subst IsOnce (sym (ending_keeps shape ending old h)) h.once in
        let is : txn ≡ record_from seq mid.id (work_by shape act.request act.reply act.woken before) ending = closes (work_by shape act.request act.reply act.woken before) once (changes before h.once had) in
        record_is shape seq ending old txn h numbered (is ∙ ap (λ t. record_from seq t (work_by shape act.request act.reply act.woken before) ending) same_id)

  -- a record that the rule sends may be sent, and is its thread's
  pub may_send : (txn : Txn) → RunFacts at → record_sent (Some txn) ≡ commits at.settings act.thread (event_of act) at.entries → MaySend at txn × (txn.thread ≡ act.thread)
  may_send txn facts sends = by (ending_by act.request act.reply (locks_of act.thread at.entries)) refl sends
    where
      by : (ending : Option Ending) → ending_by act.request act.reply (locks_of act.thread at.entries) ≡ ending → Commit txn ∷ [] ≡ record_of at.settings act.thread (event_of act) ending at.entries
          → MaySend at txn × (txn.thread ≡ act.thread)
      by None e messages = absurd (cc messages)
      by (Some ending) e messages =
          let same : txn ≡ txn_of at.settings.shape (suc (records at.entries)) act.thread (privates_before at.settings.shape act.thread at.entries) (open_block act.thread at.entries ++ event_of act ∷ []) ending = cc messages in
          let all : txn ≡ record_from (suc (records at.entries)) act.thread after ending = same ∙ sym (recorded at.settings.shape (suc (records at.entries)) act.thread at.entries (event_of act) ending after refl) in
          let kept : after ≡ before = ending_leaves at.settings.shape act.request act.reply act.woken (locks_of act.thread at.entries) ending before e in
          let sets : txn.sets ≡ before.sets = ap (λ (t : Txn). t.sets) all ∙ ap (λ (w : Work). w.sets) kept in
          let may : MaySend at txn = record {
            next = ap (λ (t : Txn). t.seq) same;
            resident = λ o set. facts.changed act.thread o (ap (list_any (λ set. eqb set.object o)) (sym sets) ∙ set);
          } in
          (may, ap (λ (t : Txn). t.thread) same)

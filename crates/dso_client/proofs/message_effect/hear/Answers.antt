use Rattle.std.proofs.Common.{ℕ, refl, sym, ◌∙◌, ap, subst, length, map}
use Rattle.std.proofs.lemmas.List.{with_items_is}
use Rattle.std.specs.Vec.{with_items}
use Rattle.dso_base.specs.declared.message.Down.TheVariants as down
use Rattle.dso_law.specs.FitsDown.{FitsDown}
use Rattle.dso_law.specs.RunLaws.{IdsAreTaken}
use Rattle.dso_client.specs.declared.thread_context.ThreadContext.{ThreadContext}
use Rattle.dso_client.specs.MessageEffects.{heard}
use Rattle.dso_client.specs.StateStands.{StateStands, ClientPartsStand}
use Rattle.dso_client.specs.Openings.{thread_at}
use Rattle.dso_client.specs.RunPoints.{RunPoint}
use Rattle.dso_client.specs.ContextPlaces.{running, with_mark}
use Rattle.dso_client.specs.TableStands.{TableStands}
use Rattle.dso_client.proofs.replies.Outcomes.{on_ok}
use Rattle.dso_client.proofs.heard.Acks.{acked_was_sent}
use Rattle.dso_client.proofs.heard.Leaves.{table_kept, lock_state_kept, sequences_kept}
use Rattle.dso_client.proofs.heard.Parts.{parts_heard, parts_woken}
use Rattle.dso_client.proofs.heard.Wakes.{length_kept, runs_kept, waits_kept}
use Rattle.dso_client.proofs.message_effect.hear.Goals as goal

pub returns-in-Ids-clause-parts : goal.returns-in-Ids-clause-parts
returns-in-Ids-clause-parts c = λ clock at h fits taken.
    let old = c.args.kept.now in
    let m = down.Ids c.in-Ids.first in
    let sequences = c.hear_ids.new.sequences in
    subst (λ m. ClientPartsStand (heard clock m at) (record old { sequences = sequences })) (sym c.in-Ids.is)
    (parts_heard clock at old h m tt old.table old.lock_state sequences (table_kept clock m at old.table tt h.table) (lock_state_kept clock m at old.lock_state tt h.lock_state)
    (c.hear_ids.ensures.heard clock at h.sequences (subst (λ m. FitsDown at.settings at.client m at.entries) c.in-Ids.is fits) taken))

pub returns-in-Object-clause-parts : goal.returns-in-Object-clause-parts
returns-in-Object-clause-parts c =
    let old = c.args.kept.now in
    let m = down.Object c.get.result.now in
    let table = c.hear_object.new.table in
    on_ok c.hear_object.result ((clock : ℕ) (at : RunPoint) → TableStands at old.table → TableStands (heard clock m at) table)
    ((clock : ℕ) (at : RunPoint) → StateStands at old → FitsDown at.settings at.client c.args.message.now at.entries → IdsAreTaken at.entries
    → ClientPartsStand (heard clock c.args.message.now at) (record old { table = table }))
    (λ is. λ clock at h fits taken. subst (λ m. ClientPartsStand (heard clock m at) (record old { table = table })) (ap (λ body. down.Object body) c.get.ensures ∙ sym c.in-Object.is)
    (parts_heard clock at old h m tt table old.lock_state old.sequences (is clock at h.table) (lock_state_kept clock m at old.lock_state tt h.lock_state) (sequences_kept clock m at old.sequences tt h.sequences)))
    c.hear_object.ensures

pub returns-in-Grant-clause-parts : goal.returns-in-Grant-clause-parts
returns-in-Grant-clause-parts c = λ clock at h fits taken.
    let old = c.args.kept.now in
    let m = down.Grant c.in-Grant.lock c.in-Grant.level in
    let lock_state = c.hear_grant.new.lock_state in
    subst (λ m. ClientPartsStand (heard clock m at) (record old { lock_state = lock_state })) (sym c.in-Grant.is)
    (parts_heard clock at old h m tt old.table lock_state old.sequences (table_kept clock m at old.table tt h.table)
    (c.hear_grant.ensures.heard clock at h.lock_state h.facts (subst (λ m. FitsDown at.settings at.client m at.entries) c.in-Grant.is fits)) (sequences_kept clock m at old.sequences tt h.sequences))

pub returns-in-Recall-clause-parts : goal.returns-in-Recall-clause-parts
returns-in-Recall-clause-parts c = λ clock at h fits taken.
    let old = c.args.kept.now in
    let m = down.Recall c.in-Recall.lock in
    let lock_state = c.hear_recall.new.lock_state in
    subst (λ m. ClientPartsStand (heard clock m at) (record old { lock_state = lock_state })) (sym c.in-Recall.is)
    (parts_heard clock at old h m tt old.table lock_state old.sequences (table_kept clock m at old.table tt h.table) (c.hear_recall.ensures.heard clock at h.lock_state) (sequences_kept clock m at old.sequences tt h.sequences))

pub returns-in-Ack-clause-parts : goal.returns-in-Ack-clause-parts
returns-in-Ack-clause-parts c = λ clock at h fits taken.
    let old = c.args.kept.now in
    let m = down.Ack c.in-Ack.seq in
    let table = c.hear_acked.new.table in
    let sequences = c.hear_ack.new.sequences in
    let right = subst (λ m. FitsDown at.settings at.client m at.entries) c.in-Ack.is fits in
    subst (λ m. ClientPartsStand (heard clock m at) (record old { table = table; sequences = sequences })) (sym c.in-Ack.is)
    (parts_heard clock at old h m tt table old.lock_state sequences (c.hear_acked.ensures clock at h.table (acked_was_sent at c.in-Ack.seq h.facts right)) (lock_state_kept clock m at old.lock_state tt h.lock_state)
    (c.hear_ack.ensures.heard clock at h.sequences h.facts right))

pub returns-in-Changes-clause-parts : goal.returns-in-Changes-clause-parts
returns-in-Changes-clause-parts c = λ clock at h fits taken.
    let old = c.args.kept.now in
    let m = down.Changes c.in-Changes.sets in
    let table = c.hear_changes.new.table in
    subst (λ m. ClientPartsStand (heard clock m at) (record old { table = table })) (sym c.in-Changes.is)
    (parts_heard clock at old h m tt table old.lock_state old.sequences (subst (λ sets. TableStands (heard clock (down.Changes sets) at) table) c.as_slice.ensures (c.hear_changes.ensures clock at h.table))
    (lock_state_kept clock m at old.lock_state tt h.lock_state) (sequences_kept clock m at old.sequences tt h.sequences))

pub returns-in-Wake-clause-parts : goal.returns-in-Wake-clause-parts
returns-in-Wake-clause-parts c = λ clock at h fits taken.
    let old = c.args.kept.now in
    let l = c.in-Wake.field-0 in
    let t = c.in-Wake.thread in
    let right = subst (λ m. FitsDown at.settings at.client m at.entries) c.in-Wake.is fits in
    let named = ap (λ client. down.Wake l (thread_at client t.index)) (sym right.its) in
    let new = record old { contexts = with_items old.contexts c.mark.new.contexts } in
    let marked = c.mark.ensures in
    let many = ap length marked ∙ (length_kept c.as_mut_slice.result.now t.index ∙ c.as_mut_slice.ensures.len) in
    let contexts = with_items_is old.contexts c.mark.new.contexts many ∙ (marked ∙ ap (with_mark t.index) c.as_mut_slice.ensures.value) in
    subst (λ m. ClientPartsStand (heard clock m at) new) (named ∙ sym c.in-Wake.is)
    (parts_woken clock at old h l t.index new refl contexts refl refl refl)

pub returns-in-Wake-clause-runs : goal.returns-in-Wake-clause-runs
returns-in-Wake-clause-runs c =
    let old = c.args.kept.now in
    let t = c.in-Wake.thread in
    let marked = c.mark.ensures in
    let many = ap length marked ∙ (length_kept c.as_mut_slice.result.now t.index ∙ c.as_mut_slice.ensures.len) in
    ap (map running) (with_items_is old.contexts c.mark.new.contexts many ∙ (marked ∙ ap (with_mark t.index) c.as_mut_slice.ensures.value)) ∙ runs_kept old.contexts.items t.index

pub returns-in-Wake-clause-counts : goal.returns-in-Wake-clause-counts
returns-in-Wake-clause-counts c =
    let old = c.args.kept.now in
    let t = c.in-Wake.thread in
    let marked = c.mark.ensures in
    let many = ap length marked ∙ (length_kept c.as_mut_slice.result.now t.index ∙ c.as_mut_slice.ensures.len) in
    record {
      holds = refl;
      waits = ap (map (λ (context : ThreadContext). context.waiting)) (with_items_is old.contexts c.mark.new.contexts many ∙ (marked ∙ ap (with_mark t.index) c.as_mut_slice.ensures.value)) ∙ waits_kept old.contexts.items t.index;
      records = refl;
    }

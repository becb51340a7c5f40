use Rattle.std.proofs.Common.{refl, ◌∙◌, ap, length}
use Rattle.std.proofs.lemmas.List.{with_items_is}
use Rattle.dso_client.specs.SentRecords.{changed_context, with_record}
use Rattle.dso_client.proofs.contexts.ChangedContexts.{length_unchanged}
use Rattle.dso_client.proofs.sent.Parts.{parts_sent}
use Rattle.dso_client.proofs.sent_record.send_record.Goals as goal

pub returns-clause-parts : goal.returns-clause-parts
returns-clause-parts c = λ clock act next at h may its.
    let old = c.args.kept.now in
    let txn = c.args.txn.now in
    let change = with_record txn.seq in
    let slice = c.as_mut_slice.result.now in
    let noted = c.note_record.ensures in
    let many = ap length noted ∙ (length_unchanged change (λ context. refl) slice c.args.index ∙ c.as_mut_slice.ensures.len) in
    let contexts = with_items_is old.contexts c.note_record.new.contexts many ∙ (noted ∙ ap (changed_context c.args.index change) c.as_mut_slice.ensures.value) in
    parts_sent clock act next at txn c.args.index old _ h its (c.in_ok-send_objects.ensures clock act next at h.table may) (c.in_ok-count_record.ensures.stands clock act next at txn refl h.sequences)
    refl refl contexts

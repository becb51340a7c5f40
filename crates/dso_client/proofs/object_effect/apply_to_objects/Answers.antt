use Rattle.std.proofs.Common.{◌≡◌, ◌-◌, suc, refl, sym, ◌∙◌, ap, arith, subst, is_some, Some, length, get_or, slice_set}
use Rattle.std.proofs.lemmas.List.{with_items_is}
use Rattle.dso_base.specs.declared.lock.ThreadId.{ThreadId}
use Rattle.dso_law.specs.Records.{records}
use Rattle.dso_law.specs.UseOrder.{use_order}
use Rattle.dso_client.specs.SentRecords.{HasWork, IsActing, changed_context, with_work}
use Rattle.dso_client.specs.ActEffects.{applied}
use Rattle.dso_client.specs.ContextPlaces.{context_in}
use Rattle.dso_client.proofs.contexts.ChangedContexts.{length_unchanged, changed_there, context_there, changed_at_place}
use Rattle.dso_client.proofs.worked.Used.{used_stands}
use Rattle.dso_client.proofs.object_effect.apply_to_objects.Goals as goal

pub returns-clause-applied : goal.returns-clause-applied
returns-clause-applied c = λ clock at h.
    let old = c.args.kept.now in
    let act = c.args.act in
    let index = c.args.act.thread.index in
    let items = old.contexts.items in
    let context = get_or c.as_mut_slice-contexts.result.now (index - 1) c.index-contexts-at-2.result in
    let new = c.apply_to_context.new.context in
    let value = c.as_mut_slice-contexts.ensures.value in
    let there : context_in items index ≡ Some context = subst (λ xs. context_in items index ≡ Some (get_or xs (index - 1) c.index-contexts-at-2.result)) (sym value)
    (context_there items index c.index-contexts-at-2.result c.requires.there) in
    let rest : new ≡ with_work new.privates new.block context = c.in_ok-txn.ensures.rest in
    let changed : slice_set c.as_mut_slice-contexts.result.now (index - 1) new ≡ changed_context index (with_work new.privates new.block) items
    = ap (λ xs. slice_set xs (index - 1) new) value ∙ (ap (slice_set items (index - 1)) rest ∙ changed_at_place (with_work new.privates new.block) items index context there) in
    let many = ap length changed ∙ (length_unchanged (with_work new.privates new.block) (λ context. refl) items index ∙ (ap length (sym value) ∙ c.as_mut_slice-contexts.ensures.len)) in
    let all = with_items_is old.contexts (slice_set c.as_mut_slice-contexts.result.now (index - 1) new) many ∙ changed in
    let acting = h.acting context there in
    let ends = subst (λ ending. IsActing at c.args.shape.now act ending context) (sym c.block_end-end.ensures.ending) acting in
    let user = get_or c.as_mut_slice-contexts.result.now (index - 1) c.index-contexts-at.result in
    let using = h.acting user (subst (λ xs. context_in items index ≡ Some (get_or xs (index - 1) c.index-contexts-at.result)) (sym value)
    (context_there items index c.index-contexts-at.result c.requires.there)) in
    let mine = ap (λ (t : ThreadId). t.client) h.its in
    let sent = h.sequences.records in
    record {
      table = c.in_ok-apply_to_table.ensures clock at (use_order at.settings (applied clock act at).entries)
          (used_stands clock at act user using.its using.work h.met old.table c.apply_use.new.table h.table c.in_ok-apply_use.ensures) mine
          (c.is_some.ensures ∙ ap is_some acting.ends);
      sequences = c.apply_to_sequences.ensures.stands clock at h.sequences;
      work = λ s found.
          let both : with_work new.privates new.block context ≡ s = cc (sym (ap (λ xs. context_in xs index) all ∙ changed_there (with_work new.privates new.block) items index context there) ∙ found) in
          subst (HasWork (applied clock act at)) (rest ∙ both) (c.in_ok-txn.ensures.work clock at ends);
      commits = c.in_ok-txn.ensures.commits at ends (c.block_end-end.ensures.number (suc (records at.entries)) (omega (arith, sent)));
    }

pub returns-clause-alone : goal.returns-clause-alone
returns-clause-alone c =
    let old = c.args.kept.now in
    let index = c.args.act.thread.index in
    let items = old.contexts.items in
    let context = get_or c.as_mut_slice-contexts.result.now (index - 1) c.index-contexts-at-2.result in
    let new = c.apply_to_context.new.context in
    let value = c.as_mut_slice-contexts.ensures.value in
    let there : context_in items index ≡ Some context = subst (λ xs. context_in items index ≡ Some (get_or xs (index - 1) c.index-contexts-at-2.result)) (sym value)
    (context_there items index c.index-contexts-at-2.result c.requires.there) in
    let rest : new ≡ with_work new.privates new.block context = c.in_ok-txn.ensures.rest in
    let changed : slice_set c.as_mut_slice-contexts.result.now (index - 1) new ≡ changed_context index (with_work new.privates new.block) items
    = ap (λ xs. slice_set xs (index - 1) new) value ∙ (ap (slice_set items (index - 1)) rest ∙ changed_at_place (with_work new.privates new.block) items index context there) in
    let many = ap length changed ∙ (length_unchanged (with_work new.privates new.block) (λ context. refl) items index ∙ (ap length (sym value) ∙ c.as_mut_slice-contexts.ensures.len)) in
    record { privates = new.privates; block = new.block; contexts = with_items_is old.contexts (slice_set c.as_mut_slice-contexts.result.now (index - 1) new) many ∙ changed }

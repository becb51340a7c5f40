use Rattle.std.proofs.Common.{rules, ◌∙◌, not, OnOk, subst}
use Rattle.std.proofs.lemmas.Fn.{filter_same}
use Rattle.std.specs.BTreeSet.{contains}
use Rattle.std.specs.Ordering.{nat_cmp}
use Rattle.dso_base.specs.declared.message.Down.TheVariants as down
use Rattle.dso_law.specs.Granting.{to_each}
use Rattle.dso_locks.specs.Locks.{messages_of}
use Rattle.dso_locks.specs.Serving.{state_in, Sends}
use Rattle.dso_locks.proofs.lock.recall_once.Goals as goal

pub returns-clause-sends : goal.returns-clause-sends
returns-clause-sends c =
    let kept = filter_same _ (λ d. not (contains nat_cmp c.args.lock.now.recalled d)) _ (λ x b f' k. search rules) _ _ c.retain.ensures.filtered in
    subst (λ clients. OnOk c.recall_all.result (Sends c.args.lock.now.name (to_each (down.Recall c.args.lock.now.name) clients) (state_in c.args.lock.now) (state_in c.recall_all.new.lock) (messages_of c.args.told.now.items) (messages_of c.recall_all.new.told.items))) (c.as_slice.ensures.value ∙ kept) c.recall_all.ensures.sends

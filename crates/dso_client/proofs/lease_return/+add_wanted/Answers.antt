use Rattle.std.proofs.Common.{map, subst}
use Rattle.std.specs.List.{list_any, AllByRecursion}
use Rattle.dso_client.specs.declared.thread_context.ThreadContext.{ThreadContext}
use Rattle.dso_client.specs.StateStands.{ClientPartsStand}
use Rattle.dso_client.specs.RunPoints.{RunPoint}
use Rattle.dso_client.specs.LeaseReturns.{AddsDue, is_of, is_wanted_by}
use Rattle.dso_client.specs.RunFacts.{AreOwnHolds}
use Rattle.dso_client.specs.ContextStands.{ContextStands}
use Rattle.dso_client.proofs.replies.Outcomes.{on_ok}
use Rattle.dso_client.proofs.due.Slices.{others, all_wanted}
use Rattle.dso_client.proofs.lease_return.+add_wanted.Goals as goal

pub returns-in_ok-add_if_due-in-len1-up : goal.returns-in_ok-add_if_due-in-len1-up
returns-in_ok-add_if_due-in-len1-up t c =
    let contexts = c.args.contexts.now in
    let old = c.args.due.now.items in
    let mid = c.add_if_due.new.due.items in
    let new = c.add_wanted.new.due.items in
    on_ok c.add_wanted.result
    ((at : RunPoint) → ClientPartsStand at c.args.kept.now → AreOwnHolds at → AllByRecursion (ContextStands at) (others contexts) → AddsDue at (λ k. list_any (is_wanted_by at k) (map (λ (context : ThreadContext). context.id) (others contexts))) mid new)
    ((at : RunPoint) → ClientPartsStand at c.args.kept.now → AreOwnHolds at → AllByRecursion (ContextStands at) contexts → AddsDue at (λ k. list_any (is_wanted_by at k) (map (λ (context : ThreadContext). context.id) contexts)) old new)
    (λ later. λ at h own stand. all_wanted at contexts c.context-item.result old mid new c.in-len1-up.len_at_least c.context-item.is
    (subst (λ lock. AddsDue at (λ k. is_of k lock) old mid) c.wanted_lock.ensures (c.in_ok-add_if_due-in-len1-up.ensures at h own)) (later at h own) stand) c.add_wanted.ensures

use Rattle.std.proofs.Common.{◌∙◌, ap, map, subst, sym}
use Rattle.std.specs.List.{AllByRecursion, list_any}
use Rattle.dso_client.specs.declared.thread_context.ThreadContext.{ThreadContext}
use Rattle.dso_client.specs.ContextStands.{ContextStands}
use Rattle.dso_client.specs.LeaseReturns.{AddsDue, AddsMarked, is_of, is_wanted_by}
use Rattle.dso_client.specs.RunFacts.{AreOwnHolds}
use Rattle.dso_client.specs.RunPoints.{RunPoint}
use Rattle.dso_client.specs.StateStands.{ClientPartsStand}
use Rattle.dso_client.proofs.due.Marked.{all_added, woken_added}
use Rattle.dso_client.proofs.replies.Outcomes.{on_ok}
use Rattle.dso_client.proofs.lease_return.add_marked.Goals as goal

pub returns-then-marks_all : goal.returns-then-marks_all
returns-then-marks_all c =
    let kept = c.args.kept.now in
    let act = c.args.act in
    let old = c.args.due.now.items in
    let new = c.add_wanted.new.due.items in
    let slice = c.as_slice.result.now in
    on_ok c.add_wanted.result
    ((at : RunPoint) → ClientPartsStand at kept → AreOwnHolds at → AllByRecursion (ContextStands at) slice
    → AddsDue at (λ k. list_any (is_wanted_by at k) (map (λ (context : ThreadContext). context.id) slice)) old new)
    ((at : RunPoint) → ClientPartsStand at kept → AreOwnHolds at → AddsMarked at act old new)
    (λ each. λ at h own.
    let stand = subst (AllByRecursion (ContextStands at)) (sym c.as_slice.ensures.value) h.contexts in
    all_added at kept h act old new (subst (λ threads. AddsDue at (λ k. list_any (is_wanted_by at k) threads) old new)
    (ap (map (λ (context : ThreadContext). context.id)) c.as_slice.ensures.value ∙ h.places) (each at h own stand)))
    c.add_wanted.ensures

pub returns-else-marks_all : goal.returns-else-marks_all
returns-else-marks_all c =
    let kept = c.args.kept.now in
    let act = c.args.act in
    let old = c.args.due.now.items in
    let new = c.add_if_due.new.due.items in
    on_ok c.add_if_due.result
    ((at : RunPoint) → ClientPartsStand at kept → AreOwnHolds at → AddsDue at (λ k. is_of k c.wanted_by.result) old new)
    ((at : RunPoint) → ClientPartsStand at kept → AreOwnHolds at → AddsMarked at act old new)
    (λ one. λ at h own. woken_added at kept h act old new (sym c.marks_all.ensures ∙ c.if-marks_all.false)
    (subst (λ lock. AddsDue at (λ k. is_of k lock) old new) c.wanted_by.ensures (one at h own)))
    c.add_if_due.ensures

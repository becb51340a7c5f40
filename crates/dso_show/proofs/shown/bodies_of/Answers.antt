use Rattle.std.proofs.Common.{ℕ, ◌<◌, ◌++◌, ◌∙◌, ap, subst, length, map, get_or, List, Some}
use Rattle.dso_base.specs.declared.record.Body.{Body}
use Rattle.dso_base.specs.declared.record.Txn.{Txn}
use Rattle.dso_store.specs.Graph.{body_in}
use Rattle.dso_show.specs.Published.{objects_of}
use Rattle.dso_show.proofs.graph.Read.{record_more}
use Rattle.dso_show.proofs.shown.bodies_of.Goals as goal

-- the bodies of one record more
pub loop-txn-preserved : goal.loop-txn-preserved
loop-txn-preserved c =
    let kept = c.args.kept.now in
    let item = c.loop-txn-item.result in
    let old = c.loop-txn.bodies.items in
    let same = c.deref-txn-items.ensures.value in
    let less : c.loop-txn.txn-index < length kept.records.items = subst (λ (l : List (ℕ × Txn)). c.loop-txn.txn-index < length l) same c.loop-txn-test.true in
    record_more (body_in kept.store) kept.records.items c.loop-txn.txn-index item old c.add_bodies.new.bodies.items less
    (c.loop-txn-item.is ∙ ap (λ (l : List (ℕ × Txn)). get_or l c.loop-txn.txn-index item) same) c.loop-txn.invariant
    (c.in_ok-add_bodies.ensures ∙ ap (λ (news : List Body). map Some old ++ map (body_in kept.store) (objects_of news)) c.as_slice.ensures)

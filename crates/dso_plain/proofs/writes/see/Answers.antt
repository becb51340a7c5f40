use Rattle.std.proofs.Common.{Some, ◌-◌, ap, ◌∙◌}
use Rattle.std.specs.Option.{unwrap_or}
use Rattle.std.specs.BTreeMap.{is_at}
use Rattle.dso_plain.specs.KeyTests.{is_view}
use Rattle.dso_lookup.specs.Maps.{writes, written, look}
use Rattle.dso_plain.specs.HeapTables.{state_of, view_order}
use Rattle.dso_plain.proofs.keys.TableOrders.{view_at}
use Rattle.dso_plain.proofs.keys.Writes.{through}
use Rattle.dso_plain.proofs.writes.see.Goals as goal

pub returns-clause-state : goal.returns-clause-state
returns-clause-state c =
    let t = c.args.thread in
    let o = c.args.id in
    let f = c.args.field in
    let s = state_of c.args.tables.now in
    let e = through (λ x. unwrap_or x 0) (is_at (view_order (t, o, f))) (is_view t o f) (Some c.saturating_sub-place.result) (look view_order c.args.tables.now.seen) (look view_order c.put.new.map) (view_at t o f) c.in_ok-put.ensures ∙ ap (λ n. written (writes (is_view t o f) (λ _. n)) s.seen) (c.saturating_sub-place.ensures ∙ ap (λ n. n - 1) c.past_length.ensures) in
    λ i. record s { seen = e i }

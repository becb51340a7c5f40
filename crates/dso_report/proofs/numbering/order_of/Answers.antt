use Rattle.std.proofs.Common.{◌≡◌, get_or, subst, arith}
use Rattle.dso_report.specs.Numbering.{add_shown}
use Rattle.dso_report.proofs.ordering.OrderGrows.{visits_more}
use Rattle.dso_report.proofs.numbering.order_of.Goals as goal

-- one visit more
pub loop-visits-preserved : goal.loop-visits-preserved
loop-visits-preserved g c =
    let s = g.S.Seen.state c.args.seen.now in
    let order = c.loop-visits.order.keys in
    let next = c.add_shown.new.order.keys in
    let n = c.loop-visits.visits in
    let is = subst (λ keys. next ≡ add_shown s (get_or keys n 0) order) c.as_slice.ensures.keys c.in_ok-add_shown.ensures in
    visits_more s order next n (omega (arith, c.loop-visits-test.true, c.len.ensures.len)) c.loop-visits.invariant.0 is

use Rattle.std.proofs.Common.{◌≡◌, ◌∙◌, suc, ap, subst, sym, [], ◌∷◌, length, arith, rules}
use Rattle.std.proofs.lemmas.List.{length-append}
use Rattle.dso_host.specs.HostStates.{ClientsStandFor}
use Rattle.dso_host.proofs.hosts.Named.{one_more}
use Rattle.dso_host.proofs.epoch.unlock_all.Goals as goal

-- one more is out of its lock
pub loop-node-preserved : goal.loop-node-preserved
loop-node-preserved g c =
    let named = g.N.Naming.cluster in
    let before = c.loop-node.cells.items in
    let cell = c.in_ok-into_cell.field-0 in
    let items = c.in_ok-push.ensures.items in
    let many : length before ≡ length c.loop-node.yielded = c.loop-node.invariant.1 in
    let number : cell.number ≡ suc (length before) = c.in_ok-into_cell.ensures.ok.1 ∙ search rules in (
      subst (ClientsStandFor named 1) (sym items) (one_more named before cell c.loop-node.invariant.0 number c.in_ok-into_cell.ensures.ok.2 c.in_ok-into_cell.ensures.stands),
      omega (arith, ap length items, length-append before (cell ∷ []), many, length-append c.loop-node.yielded (c.in-Some.node ∷ [])),
    )

use Rattle.std.proofs.Common.{sym, subst}
use Rattle.dso_port.specs.Ports.{AreTogether}
use Rattle.dso_cell.proofs.new_cells.SoFar.{one_more}
use Rattle.dso_cell.proofs.opening.Opening.connections.Goals as goal

pub loop-number-preserved : goal.loop-number-preserved
loop-number-preserved c =
    let opening = c.args.self.now in
    let cell = c.in_ok-cell.cell in
    let end = c.in_ok-end.end in
    let together : AreTogether cell.port end.port =
    subst (λ port. AreTogether port end.port) (sym c.in_ok-cell.ensures.port) (subst (λ port. AreTogether c.in_ok-client.client port) (sym c.in_ok-end.ensures.port) c.in_ok-client.ensures.together) in
    one_more opening.code.now opening.resident opening.losses.now opening.breaks.now c.loop-number.number c.loop-number.cells.items c.push.new.self.items
    c.loop-number.ends.items c.push-in-loop-number.new.self.items cell end c.loop-number.invariant
    (record { new = c.in_ok-cell.ensures.new; fresh = c.in_ok-end.ensures.new; together = together }) c.in_ok-push.ensures.items c.in_ok-push-2.ensures.items

use Rattle.std.proofs.Common.{sym, arith}
use Rattle.dso_report.proofs.bodies.Found.{counted_found}
use Rattle.dso_report.proofs.body_table.BodyTableSeen.object.Goals as goal

-- the values can be counted
pub overflow_cast-result : goal.overflow_cast-result
overflow_cast-result c =
    let few = counted_found c.args.self.now.bodies.now c.args.object c.in_ok-body.body.now c.args.self.now.counted (sym c.in_ok-body.ensures) in
    omega (arith, few, c.len.ensures)

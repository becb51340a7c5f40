use Rattle.std.proofs.Common.{◌<◌, ◌≤◌, arith, length, sym, subst}
use Rattle.dso_lint.specs.Listed.{IsListed}
use Rattle.dso_lint.proofs.standing.ListedSteps.{method_listed}
use Rattle.dso_lint.proofs.upgrading.Writers.{behind_writer, map_place, map_writer, place_map, takes_writer, writer_takes}
use Rattle.dso_lint.proofs.tables.is_writer.Goals as goal

pub returns-then-number-methods : goal.returns-then-number-methods
returns-then-number-methods c code listed same =
    let number = c.args.number in
    let low : number < length code.methods = omega (arith, c.if-number-methods.true, same) in
    let one = c.index-bodies-number.result in
    let there = method_listed code c.args.bodies.now listed number low one in
    let takes = c.takes_monitor.ensures there.body (subst (λ l. IsListed l there.body) (sym c.index-bodies-number.is) there.listed) in (
      λ q. takes_writer code number there.body there.at (takes.0 q),
      λ writer. takes.1 (writer_takes code number there.body low there.at writer),
    )

pub returns : goal.returns
returns c code listed same =
    let number = c.args.number in
    let high : length code.methods ≤ number = omega (arith, c.if-number-methods.false, same) in (
      λ q. map_writer code number (place_map (length code.methods) c.args.methods number same high (c.writes_map.ensures.0 q)),
      λ writer. c.writes_map.ensures.1 (map_place (length code.methods) c.args.methods number same high (behind_writer code number high writer)),
    )

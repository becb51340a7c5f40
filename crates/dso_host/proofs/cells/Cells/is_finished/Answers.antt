use Rattle.std.proofs.Common.{◌≡◌, arith}
use Rattle.dso_host.proofs.hosts.Told.{finished_told, going_told, one_further}
use Rattle.dso_host.proofs.cells.Cells.is_finished.Goals as goal

pub returns-then-is_busy : goal.returns-then-is_busy
returns-then-is_busy c = λ entries journal. going_told c.args.program.now c.args.self.now entries journal c.loop-place.place c.is_busy.result c.loop-place-test.true c.is_busy.ensures c.if-is_busy.true

pub loop-place-preserved : goal.loop-place-preserved
loop-place-preserved c = λ entries journal. one_further c.args.program.now c.args.self.now entries journal c.loop-place.place c.is_busy.result c.loop-place-test.true c.is_busy.ensures c.if-is_busy.false (c.loop-place.invariant entries journal)

pub returns : goal.returns
returns c =
    let past = c.loop-place-test.false in
    let within = c.loop-place.auto.place-end in
    let all : c.args.program.now.clients ≡ c.loop-place.place = omega (arith, past, within) in
    λ entries journal. finished_told c.args.program.now c.args.self.now entries journal c.loop-place.place all (c.loop-place.invariant entries journal)

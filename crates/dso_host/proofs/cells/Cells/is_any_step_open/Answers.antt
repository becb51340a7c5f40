use Rattle.std.proofs.Common.{◌≡◌, arith}
use Rattle.dso_host.proofs.hosts.AnyOpen.{no_step, one_step_further, some_step}
use Rattle.dso_host.proofs.cells.Cells.is_any_step_open.Goals as goal

pub returns-then-can_step : goal.returns-then-can_step
returns-then-can_step c = λ entries journal. some_step c.args.program.now c.args.self.now entries journal c.loop-place.place c.can_step.result c.loop-place-test.true c.can_step.ensures c.if-can_step.true

pub loop-place-preserved : goal.loop-place-preserved
loop-place-preserved c = λ entries journal. one_step_further c.args.program.now c.args.self.now entries journal c.loop-place.place c.can_step.result c.loop-place-test.true c.can_step.ensures c.if-can_step.false (c.loop-place.invariant entries journal)

pub returns : goal.returns
returns c =
    let past = c.loop-place-test.false in
    let within = c.loop-place.auto.place-end in
    let all : c.args.program.now.clients ≡ c.loop-place.place = omega (arith, past, within) in
    λ entries journal. no_step c.args.program.now c.args.self.now entries journal c.loop-place.place all (c.loop-place.invariant entries journal)

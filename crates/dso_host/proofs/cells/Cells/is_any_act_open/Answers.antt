use Rattle.std.proofs.Common.{arith}
use Rattle.dso_host.proofs.hosts.AnyOpen.{no_act_left, one_act_further, some_act}
use Rattle.dso_host.proofs.cells.Cells.is_any_act_open.Goals as goal

pub returns-then-can_act : goal.returns-then-can_act
returns-then-can_act c = λ entries journal. some_act c.args.program.now c.args.self.now entries journal
    c.as_slice-thread-items.result.now c.as_slice-thread-items.ensures c.loop-thread.thread-index c.loop-thread-test.true _ c.can_act.result c.can_act.ensures c.if-can_act.true

pub loop-thread-preserved : goal.loop-thread-preserved
loop-thread-preserved c = λ entries journal. one_act_further c.args.program.now c.args.self.now entries journal
    c.as_slice-thread-items.result.now c.as_slice-thread-items.ensures c.loop-thread.thread-index c.loop-thread-test.true _ c.can_act.result c.can_act.ensures c.if-can_act.false
    (c.loop-thread.invariant entries journal)

pub returns : goal.returns
returns c =
    let past = c.loop-thread-test.false in
    λ entries journal. no_act_left c.args.program.now c.args.self.now entries journal
    c.as_slice-thread-items.result.now c.as_slice-thread-items.ensures c.loop-thread.thread-index (omega (arith, past)) (c.loop-thread.invariant entries journal)

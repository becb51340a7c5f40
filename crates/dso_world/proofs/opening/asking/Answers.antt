use Rattle.std.proofs.Common.{◌+◌, sym, ◌∙◌, ap, slice_get, arith}
use Rattle.std.proofs.lemmas.Option.{slice_get-get_or}
use Rattle.dso_world.proofs.asking.First.{one_asks}
use Rattle.dso_world.proofs.opening.asking.Goals as goal

pub loop-thread-preserved : goal.loop-thread-preserved
loop-thread-preserved c =
    let threads = c.args.program.now.threads in
    let items = c.as_slice-thread-items.result.now in
    let i = c.loop-thread.thread-index in
    one_asks c.args.nodes.now threads i (i + 1) _ c.next_request.result c.loop-thread.asking c.put_in.new.self (omega arith) (ap (λ list. slice_get list i) (sym c.as_slice-thread-items.ensures) ∙ slice_get-get_or items i _ c.loop-thread-test.true)
    c.next_request.ensures c.put_in.ensures.its c.put_in.ensures.others c.loop-thread.invariant

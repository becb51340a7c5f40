use Rattle.std.proofs.Common.{subst, sym, AllPairs}
use Rattle.dso_class.specs.TextProgram.{IsThreadBefore}
use Rattle.dso_class.proofs.thread_ids.ThreadsRise.{threads_rise}
use Rattle.dso_class.proofs.thread_order.threads.Goals as goal

pub returns-clause-rise : goal.returns-clause-rise
returns-clause-rise c counted =
    subst (λ all. AllPairs IsThreadBefore all) (sym c.from_vec.ensures)
    (threads_rise c.args.bodies.now c.in_ok-threads.threads.items c.sort_unstable.new.self.items c.in_ok-threads.ensures c.sort_unstable.ensures.permutation c.sort_unstable.ensures.sorted counted)

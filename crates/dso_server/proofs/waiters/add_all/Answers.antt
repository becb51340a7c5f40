use Rattle.std.proofs.Common.{◌∙◌, sym}
use Rattle.dso_server.specs.Waiters.{lists_in}
use Rattle.dso_server.proofs.lists.ListTables.{returned_next, returned_all}
use Rattle.dso_server.proofs.waiters.add_all.Goals as goal

pub loop-thread-preserved : goal.loop-thread-preserved
loop-thread-preserved c = returned_next c.args.lock c.args.threads.now (record { client = 0; index = 0 }) c.loop-thread.thread-index (lists_in c.loop-thread.waiters) (lists_in c.add.new.waiters) c.loop-thread-test.true c.in_ok-add.ensures ∙ c.loop-thread.invariant

pub returns : goal.returns
returns c = sym (returned_all c.args.lock c.args.threads.now c.loop-thread.thread-index (lists_in c.loop-thread.waiters) c.loop-thread-test.false) ∙ c.loop-thread.invariant

use Rattle.std.proofs.Common.{◌∙◌, sym, None}
use Rattle.dso_server.proofs.lists.ThreadTables.{known_written, last_written, known_next, known_all, none_last}
use Rattle.dso_server.specs.Threads.{known_in, last_in}
use Rattle.dso_server.proofs.threads.opening.Goals as goal

pub loop-thread-preserved : goal.loop-thread-preserved
loop-thread-preserved c = (
  known_next c.args.threads.now (record { client = 0; index = 0 }) c.loop-thread.thread-index (known_in c.loop-thread.all) (known_in c.put.new.map) c.loop-thread-test.true (known_written c.loop-thread.all c.put.new.map _ None c.in_ok-put.ensures) ∙ c.loop-thread.invariant.0,
  none_last (last_in c.loop-thread.all) (last_in c.put.new.map) _ c.loop-thread.invariant.1 (last_written c.loop-thread.all c.put.new.map _ None c.in_ok-put.ensures),
)

pub returns-clause-known : goal.returns-clause-known
returns-clause-known c = sym (known_all c.args.threads.now c.loop-thread.thread-index (known_in c.loop-thread.all) c.loop-thread-test.false) ∙ c.loop-thread.invariant.0

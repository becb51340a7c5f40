use Rattle.std.proofs.Common.{◌∙◌}
use Rattle.dso_legal.specs.JournalPassTables.{waiters_in}
use Rattle.dso_legal.proofs.journal_pass.WaiterTables.{told_more, told_all}
use Rattle.dso_legal.proofs.waiters.ServerState.tell_all.Goals as goal

pub loop-sent-preserved : goal.loop-sent-preserved
loop-sent-preserved c = (c.in_ok-tell.ensures.lost ∙ c.loop-sent.invariant.0, told_more c.args.messages.now c.loop-sent.sent-index c.sent-item.result (waiters_in c.args.self.now.waiters) (waiters_in c.loop-sent.self.waiters) (waiters_in c.tell.new.self.waiters) c.loop-sent-test.true c.sent-item.is c.loop-sent.invariant.1 c.in_ok-tell.ensures.waiters)

pub returns-clause-waiters : goal.returns-clause-waiters
returns-clause-waiters c = told_all c.args.messages.now c.loop-sent.sent-index (waiters_in c.args.self.now.waiters) (waiters_in c.loop-sent.self.waiters) c.loop-sent-test.false c.loop-sent.invariant.1

use Rattle.std.proofs.Common.{Some, None}
use Rattle.dso_legal.proofs.journal_pass.Tables.{count_put}
use Rattle.dso_legal.proofs.threads.ThreadState.hold.Goals as goal

pub returns-in_ok-put-in-Some : goal.returns-in_ok-put-in-Some
returns-in_ok-put-in-Some c = rw c.in-Some.is (count_put c.args.lock (Some c.in-Some.count) c.args.self.now.waiting c.args.self.now.block c.args.self.now.counts c.put.new.map c.in_ok-put-in-Some.ensures)

pub returns-in-None : goal.returns-in-None
returns-in-None c = rw c.in-None.is (count_put c.args.lock None c.args.self.now.waiting c.args.self.now.block c.args.self.now.counts c.take.new.map c.take.ensures.gone)

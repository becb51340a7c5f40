use Rattle.std.proofs.Common.{length}
use Rattle.dso_client.proofs.sent.Loops.{IsSoFar}
use Rattle.dso_client.proofs.sent_record.send_objects.Given as goal

abbrev pub invariant-loop-body : goal.invariant-loop-body
invariant-loop-body l = IsSoFar l.txn l.body-index 0 l.fn.table l.table

abbrev pub invariant-loop-set : goal.invariant-loop-set
invariant-loop-set l = IsSoFar l.txn (length l.txn.news) l.set-index l.fn.table l.table

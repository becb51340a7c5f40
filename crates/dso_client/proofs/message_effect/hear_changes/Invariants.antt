use Rattle.dso_client.proofs.heard.Changes.{HeardUpTo}
use Rattle.dso_client.proofs.message_effect.hear_changes.Given as goal

abbrev pub invariant-loop-set : goal.invariant-loop-set
invariant-loop-set l = HeardUpTo l.set-index l.sets l.fn.table l.table

use Rattle.std.proofs.Common.{◌≡◌, take, sum_by}
use Rattle.dso_base.specs.Weight.{sent_values_of}
use Rattle.dso_base.proofs.journal.entry_weight.Given as goal

abbrev pub invariant-loop-sent : goal.invariant-loop-sent
invariant-loop-sent l = l.values ≡ sum_by sent_values_of (take l.sent-index l.sent-items)

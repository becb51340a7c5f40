use Rattle.std.proofs.Common.{◌≡◌, ◌-◌, ◌^◌, take, sum_by, min}
use Rattle.dso_base.specs.Weight.{sent_values_of}
use Rattle.dso_log.proofs.entry_weight.weight_of.Given as goal

abbrev pub invariant-loop-sent : goal.invariant-loop-sent
invariant-loop-sent l = l.values ≡ min (sum_by sent_values_of (take l.sent-index l.sent-items)) (2 ^ 64 - 1)

use Rattle.std.proofs.Common.{◌≡◌, ◌-◌, ◌^◌, take, sum_by, min}
use Rattle.dso_base.specs.Weight.{body_values_of}
use Rattle.dso_log.proofs.entry_weight.txn_values.Given as goal

abbrev pub invariant-loop-body : goal.invariant-loop-body
invariant-loop-body l = l.values ≡ min (sum_by body_values_of (take l.body-index l.body-items)) (2 ^ 64 - 1)

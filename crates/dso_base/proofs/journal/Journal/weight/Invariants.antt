use Rattle.std.proofs.Common.{◌≡◌, take, sum_by}
use Rattle.dso_base.specs.Weight.{entry_weight_of}
use Rattle.dso_base.proofs.journal.Journal.weight.Given as goal

abbrev pub invariant-loop-entry : goal.invariant-loop-entry
invariant-loop-entry l = l.weight ≡ sum_by entry_weight_of (take l.entry-index l.entry-items)

use Rattle.std.proofs.Common.{◌≡◌, ◌*◌, ◌≤◌, ◌^◌, take}
use Rattle.std.specs.Prelude.{unsigned_abs}
use Rattle.dso_plain.specs.HeapTables.{state_of}
use Rattle.dso_report.specs.CounterTotal.{sum_of}
use Rattle.dso_report.proofs.counters.sum_of.Given as goal

abbrev pub invariant-loop-object : goal.invariant-loop-object
invariant-loop-object l = record {
  sums : l.sum ≡ sum_of l.names (state_of l.plain) (take l.object-index l.objects);
  bounded : unsigned_abs l.sum ≤ l.object-index * 2 ^ 63;
}

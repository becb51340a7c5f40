use Rattle.std.proofs.Common.{◌≡◌, ◌≤◌, take}
use Rattle.dso_cell.specs.CellOpenings.{count_in}
use Rattle.dso_cell.proofs.opening.thread_count.Given as goal

abbrev pub invariant-loop-body : goal.invariant-loop-body
invariant-loop-body l = record {
  is : l.count ≡ count_in l.client (take l.body-index l.bodies);
  few : l.count ≤ l.body-index;
}

use Rattle.dso_host.specs.HostStates.{AreWhole}
use Rattle.dso_host.proofs.cells.Cells.round.Given as goal

abbrev pub invariant-loop-worker : goal.invariant-loop-worker
invariant-loop-worker l = AreWhole l.program l.self

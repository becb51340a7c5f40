use Rattle.dso_host.specs.HostStates.{AreWhole}
use Rattle.dso_host.proofs.cells.Cells.step_alone.Given as goal

abbrev pub invariant-loop : goal.invariant-loop
invariant-loop l = AreWhole l.program l.self

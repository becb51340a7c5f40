use Rattle.std.proofs.Common.{◌-◌}
use Rattle.dso_machine.specs.Continuation.{Leads}
use Rattle.dso_machine.proofs.machine.Core.go.Given as goal

abbrev pub invariant-going : goal.invariant-going
invariant-going l = Leads l.code l.initial.now l.initial.self l.now l.self

abbrev pub decreases-going : goal.decreases-going
decreases-going l = 1000 - l.self.moves

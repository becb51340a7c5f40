use Rattle.std.proofs.Common.{◌≡◌}
use Rattle.dso_machine.specs.Continuation.{Keeps}
use Rattle.dso_machine.specs.Weight.{weigh}
use Rattle.dso_machine.proofs.machine.Core.settle.Given as goal

abbrev pub invariant-going : goal.invariant-going
invariant-going l = record { kept : Keeps l.code l.initial.now l.initial.self l.now l.self; steady : l.self.moves ≡ l.initial.self.moves }

abbrev pub decreases-going : goal.decreases-going
decreases-going l = weigh l.now l.self

use Rattle.dso_lint.specs.Callers.{AreUncalled}
use Rattle.dso_lint.proofs.callers.uncalled.Given as goal

abbrev pub invariant-loop : goal.invariant-loop
invariant-loop l = AreUncalled l.counter l.callers.items

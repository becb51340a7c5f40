use Rattle.std.proofs.Common.{◌≡◌, drop}
use Rattle.dso_machine.specs.Calls as calls
use Rattle.dso_machine.proofs.operators.lookup.Given as goal

abbrev pub invariant-loop-place : goal.invariant-loop-place
invariant-loop-place l = calls.lookup (drop l.place-index l.places) l.class ≡ calls.lookup l.places l.class

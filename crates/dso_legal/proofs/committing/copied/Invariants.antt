use Rattle.std.proofs.Common.{◌≡◌, ◌++◌, drop}
use Rattle.dso_legal.proofs.committing.copied.Given as goal

abbrev pub invariant-loop-event : goal.invariant-loop-event
invariant-loop-event l = l.copies.items ++ drop l.event-index l.events ≡ l.events

use Rattle.std.proofs.Common.{◌≡◌, take}
use Rattle.dso_server.specs.Triggers.{numbers_of}
use Rattle.dso_server.proofs.triggers.numbers.Given as goal

abbrev pub invariant-loop-trigger : goal.invariant-loop-trigger
invariant-loop-trigger l = l.numbers.items ≡ numbers_of l.client (take l.trigger-index l.triggers)

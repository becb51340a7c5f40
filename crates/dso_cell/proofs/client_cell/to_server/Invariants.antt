use Rattle.std.proofs.Common.{◌≡◌, map}
use Rattle.dso_base.specs.declared.journal.Sent.TheVariants.{ToServer}
use Rattle.dso_cell.proofs.client_cell.to_server.Given as goal

abbrev pub invariant-loop-message : goal.invariant-loop-message
invariant-loop-message l = l.sent.items ≡ map ToServer l.yielded

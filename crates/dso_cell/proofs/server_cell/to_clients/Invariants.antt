use Rattle.std.proofs.Common.{◌≡◌}
use Rattle.dso_server.specs.Sending.{sent_of}
use Rattle.dso_cell.proofs.server_cell.to_clients.Given as goal

abbrev pub invariant-loop-client : goal.invariant-loop-client
invariant-loop-client l = l.sent.items ≡ sent_of l.yielded

use Rattle.dso_law.proofs.laws.timeouts.Goals as goal
use Rattle.dso_law.proofs.client.TimedOut.{is_out}
use Rattle.dso_law.proofs.server.TimeoutsTaken.{out_at_server}

pub returns : goal.returns
returns c = record { at_client = is_out; at_server = out_at_server }

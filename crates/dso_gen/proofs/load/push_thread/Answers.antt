use Rattle.std.proofs.Common.{append_assoc}
use Rattle.dso_gen.proofs.load.push_thread.Goals as goal

-- the line's parts, one after the other
pub returns : goal.returns
returns c = simp append_assoc (rw c.client_of-client.ensures at c.write.ensures.bytes)

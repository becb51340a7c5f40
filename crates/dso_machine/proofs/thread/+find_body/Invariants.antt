use Rattle.std.proofs.Common.{length}
use Rattle.dso_machine.proofs.thread.+find_body.Given as goal

abbrev pub decreases-find_body : goal.decreases-find_body
decreases-find_body l = length l.bodies.now

use Rattle.std.proofs.Common.{◌∙◌, ap}
use Rattle.dso_locks.specs.Locks.{lease_of}
use Rattle.dso_server.proofs.reads.lease.Goals as goal

pub returns : goal.returns
returns c = λ p es s. c.lease.ensures ∙ ap (λ f. lease_of c.args.client (f c.args.lock)) s.locks.locks

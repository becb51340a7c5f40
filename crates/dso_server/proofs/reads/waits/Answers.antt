use Rattle.std.proofs.Common.{◌∙◌, ap}
use Rattle.dso_locks.specs.Locks.{waits}
use Rattle.dso_server.proofs.reads.waits.Goals as goal

pub returns-clause-known : goal.returns-clause-known
returns-clause-known c = λ p es s. c.waits.ensures ∙ ap (λ f. waits c.args.client (f c.args.lock)) s.locks.locks

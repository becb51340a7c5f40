use Rattle.cluster_cases.proofs.Going.{with_client}
use Rattle.cluster_cases.proofs.driven.Driven.flush.Goals as goal

pub returns-in-Some : goal.returns-in-Some
returns-in-Some c code goes =
    c.flushed.ensures code (with_client code c.args.self.now c.flush.new.self (c.flush.ensures.runs code) c.flush.ensures.holds c.flush.ensures.records goes)

use Rattle.cluster_cases.proofs.Going.{with_client}
use Rattle.cluster_cases.proofs.driven.Driven.take.Goals as goal

pub returns-in_err-sent : goal.returns-in_err-sent
returns-in_err-sent c code goes = with_client code c.args.self.now c.take.new.self (c.take.ensures.runs code) c.take.ensures.holds c.take.ensures.records goes

pub returns : goal.returns
returns c code goes = c.line.ensures code (with_client code c.args.self.now c.take.new.self (c.take.ensures.runs code) c.take.ensures.holds c.take.ensures.records goes)

use Rattle.dso_machine.specs.Next.{replies_in}
use Rattle.dso_machine.specs.Standing.{StandsFor}
use Rattle.dso_machine.proofs.standing.AfterEvents.{asks_next}
use Rattle.dso_machine.proofs.thread.Thread.next.Goals as goal

pub returns-clause-asks : goal.returns-clause-asks
returns-clause-asks c = λ t events h.
    let st : StandsFor c.args.code.now h.body c.replace-due.result c.args.self.now.core (replies_in events) = rw c.replace-due.ensures.value h.stands in
    asks_next _ t h.body _ _ _ events h.its c.request_of-request.ensures (c.in_ok-now.ensures.leads.leads h.body _ (c.in_ok-begun.ensures.resumes h.body _ st))

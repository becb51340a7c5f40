use Rattle.dso_lease.specs.Leases.{standing_in}
use Rattle.dso_client.proofs.due.Returned.{given_up}
use Rattle.dso_client.proofs.due_lease.give_up.Goals as goal

pub returns : goal.returns
returns c = λ entered.
    given_up c.args.lock (standing_in c.args.leases.now) (standing_in c.recalled.new.self) (standing_in c.try_return.new.self) entered c.recalled.result c.recalled.ensures.leased c.recalled.ensures.closing
    c.try_return.result c.try_return.ensures.due c.try_return.ensures.gone

use Rattle.std.proofs.Common.{◌≢◌, rules}
use Rattle.dso_machine.proofs.steps.Requests.{ticks_next}
use Rattle.dso_machine.proofs.on_reply.tick.Goals as goal

pub returns-in_default : goal.returns-in_default
returns-in_default c =
    let some : c.args.ticks ≢ 0 = search rules in
    rw c.ask-in_default.ensures (record { is = λ code n k at. ticks_next code n k at c.args.lock c.args.ticks some })

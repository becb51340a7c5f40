use Rattle.std.proofs.Common.{rules}
use Rattle.dso_table.proofs.uses.OrderCalls.{popped}
use Rattle.dso_table.proofs.order.take_out.Goals as goal

pub returns-in-Some : goal.returns-in-Some
returns-in-Some c =
    let m = popped c.args.order.now c.requires.agrees c.args.object c.in-Some.recent c.pop.new.self c.in-Some.is c.remove.new.self c.remove.result c.pop.ensures.entries c.remove.ensures.updates.0 c.remove.ensures.test c.remove.ensures.len c.requires.there in
    record { used = m.used; limit = search rules; ordered = m.members; number = m.number; agrees = m.agrees }

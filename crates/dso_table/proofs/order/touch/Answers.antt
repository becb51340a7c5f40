use Rattle.std.proofs.Common.{rules, ◌∙◌, sym}
use Rattle.dso_table.proofs.lists.Lists.{listed_keys}
use Rattle.dso_table.proofs.uses.OrderCalls.{promoted_by, pushed}
use Rattle.dso_table.proofs.order.touch.Goals as goal

pub push-requires-clause-new : goal.push-requires-clause-new
push-requires-clause-new c = sym (listed_keys c.args.object c.in-Some.recent.entries) ∙ sym c.if-contains.ensures

pub returns-then-contains : goal.returns-then-contains
returns-then-contains c =
    let m = promoted_by c.args.order.now c.requires.agrees c.args.object c.in-Some.recent c.promote.new.self c.in-Some.is c.promote.ensures.entries (sym c.if-contains.ensures) in
    record { used = m.used; same = tt; limit = search rules; ordered = m.members; number = m.number; agrees = m.agrees }

pub returns : goal.returns
returns c =
    let m = pushed c.args.order.now c.requires.agrees c.args.object c.in-Some.recent c.push.new.recent c.in-Some.is c.push.new.others c.remove.new.self c.remove.result c.in_ok-push.ensures.some c.in_ok-push.ensures.pushed c.in_ok-push.ensures.joined c.remove.ensures.updates.0 c.remove.ensures.test c.remove.ensures.len c.requires.there (sym (listed_keys c.args.object c.in-Some.recent.entries) ∙ sym c.if-contains.ensures) in
    record { used = m.used; same = tt; limit = search rules; ordered = m.members; number = m.number; agrees = m.agrees }

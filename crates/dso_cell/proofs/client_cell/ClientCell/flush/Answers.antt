use Rattle.std.proofs.Common.{◌≤◌, ap, sym, subst, suc, None, arith}
use Rattle.dso_base.specs.declared.journal.Input.TheVariants as input
use Rattle.dso_client.specs.CodeRuns.{RunsCode}
use Rattle.dso_client.specs.ObjectFlushes.{Flushes}
use Rattle.dso_client.specs.ThreadActs.{HoldsAtMost}
use Rattle.dso_cell.specs.ClientSteps.{HasSaid}
use Rattle.dso_cell.proofs.standing.Bounds.{bounds_said, holds_weaker}
use Rattle.dso_cell.proofs.standing.Steps.{flush_goes_on}
use Rattle.dso_cell.proofs.client_cell.ClientCell.flush.Goals as goal

pub returns-in_ok-say-in-Some-clause-bounds : goal.returns-in_ok-say-in-Some-clause-bounds
returns-in_ok-say-in-Some-clause-bounds c = λ code may.
    let old = c.args.self.now in
    let new = c.say.new.self in
    let core = sym c.say.ensures.core in
    bounds_said code old new c.of_flush.result c.in_ok-messages-in-Some.messages.items c.in_ok-say-in-Some.ensures.said
    (subst (RunsCode code) core (c.flush.ensures.runs code may.bounds.runs))
    (subst (λ core. core.sequences.records ≤ suc old.core.sequences.records) core (omega (arith, c.flush.ensures.records)))
    (λ most its. subst (HoldsAtMost (suc most)) core (holds_weaker most (suc most) c.flush.new.self (omega arith) (c.flush.ensures.holds most its)))
    (omega (arith, c.say.ensures.rejoins)) (omega (arith, ap (λ made. made.heard) c.of_flush.ensures)) may

pub returns-in_ok-say-in-Some-clause-stands : goal.returns-in_ok-say-in-Some-clause-stands
returns-in_ok-say-in-Some-clause-stands c = λ code.
    let old = c.args.self.now in
    let new = c.say.new.self in
    let messages = c.in_ok-messages-in-Some.messages.items in
    let flushes : Flushes old.core new.core c.in-Some.object = subst (λ core. Flushes old.core core c.in-Some.object) (sym c.say.ensures.core) c.in-Some.ensures.made in
    let said : HasSaid (record { heard = 0; input = input.Flush c.in-Some.object; event = None }) messages old.log new.log old.port new.port =
    subst (λ made. HasSaid made messages old.log new.log old.port new.port) c.of_flush.ensures c.in_ok-say-in-Some.ensures.said in
    flush_goes_on code c.in-Some.object old new messages c.say.ensures.number c.say.ensures.rejoins flushes c.in_ok-messages-in-Some.ensures said

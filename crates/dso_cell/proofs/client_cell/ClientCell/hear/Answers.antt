use Rattle.std.proofs.Common.{◌≤◌, ◌≡◌, ap, sym, subst, suc, arith}
use Rattle.dso_client.specs.CodeRuns.{RunsCode}
use Rattle.dso_client.specs.ThreadActs.{HoldsAtMost}
use Rattle.dso_cell.proofs.standing.Bounds.{bounds_said, holds_weaker}
use Rattle.dso_cell.proofs.client_cell.ClientCell.hear.Goals as goal

pub returns-clause-bounds : goal.returns-clause-bounds
returns-clause-bounds c =
    let old = c.args.self.now in
    let new = c.say.new.self in
    let core = sym c.say.ensures.core in
    let heard : c.of_message.result.heard ≡ c.args.heard = ap (λ made. made.heard) c.of_message.ensures in
    bounds_said c.args.code.now old new c.of_message.result c.in_ok-messages.messages.items c.in_ok-say.ensures.said
    (subst (RunsCode c.args.code.now) core (c.take.ensures.runs c.args.code.now c.requires.may.bounds.runs))
    (subst (λ core. core.sequences.records ≤ suc old.core.sequences.records) core (omega (arith, c.take.ensures.records)))
    (λ most its. subst (HoldsAtMost (suc most)) core (holds_weaker most (suc most) c.take.new.self (omega arith) (c.take.ensures.holds most its)))
    (omega (arith, c.say.ensures.rejoins)) (omega (arith, heard, c.requires.low)) c.requires.may

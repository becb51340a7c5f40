use Rattle.std.proofs.Common.{◌≤◌, ap, subst, sym, suc, length, arith}
use Rattle.dso_server.specs.Answering.{given_by}
use Rattle.dso_cell.proofs.serving.Bounds.{bounds_said, broken_log}
use Rattle.dso_cell.proofs.server_cell.ServerCell.break_now.Goals as goal

pub returns-clause-bounds : goal.returns-clause-bounds
returns-clause-bounds c =
    let old = c.args.self.now in
    let mids = c.break_end.new.ends in
    let said = c.in_ok-say.ensures.said in
    let given : given_by c.say.new.self.core ≤ suc (length old.log.entries) = subst (λ kept. given_by kept ≤ suc (length old.log.entries)) (sym said.core) (omega (arith, c.requires.may.bounds.given)) in
    bounds_said (record old { ends = mids }) c.say.new.self c.made.result c.new.result.items (broken_log old c.requires.may c.args.client mids c.break_end.ensures)
    said.log said.told given (omega (arith, ap (λ made. made.heard) c.made.ensures))

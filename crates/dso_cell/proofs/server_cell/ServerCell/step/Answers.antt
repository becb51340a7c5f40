use Rattle.std.proofs.Common.{subst, true}
use Rattle.dso_cell.specs.ServerCells.{ServerGoesOn}
use Rattle.dso_cell.proofs.serving.Cells.{goes_through}
use Rattle.dso_cell.proofs.serving.Turns.{given_goes_on, reserved_goes_on, served_by}
use Rattle.dso_cell.proofs.server_cell.ServerCell.step.Goals as goal

pub returns-clause-stands : goal.returns-clause-stands
returns-clause-stands c =
    let code = c.args.code.now in
    let old = c.args.self.now in
    let room = record old { log = record old.log { has_room = true } } in
    let mid = c.add.new.self in
    let news = c.give_all.new.ends in
    goes_through code old mid (record mid { ends = news })
    (goes_through code old room mid (reserved_goes_on code old) (subst (λ log. ServerGoesOn code (record old { log = log }) mid) c.in_ok-reserve.ensures.ok c.in_ok-added.ensures.stands))
    (given_goes_on code mid news c.in_ok-give_all.ensures)

pub returns-clause-served : goal.returns-clause-served
returns-clause-served c = λ none.
    served_by (record c.args.self.now { log = c.reserve.new.self }) c.add.new.self c.give_all.new.ends c.in_ok-give_all.ensures (c.in_ok-added.ensures.idle none)

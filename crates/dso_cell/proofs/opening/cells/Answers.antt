use Rattle.std.proofs.Common.{◌≡◌, ap, sym, subst}
use Rattle.dso_cell.specs.CellOpenings.{AreNewEnds}
use Rattle.dso_cell.specs.Meetings.{AllTogether}
use Rattle.dso_cell.proofs.new_cells.NewCells.{new_cells_stand}
use Rattle.dso_cell.proofs.opening.cells.Goals as goal

pub returns-clause-stand : goal.returns-clause-stand
returns-clause-stand c =
    let losses = c.args.losses.now in
    let breaks = c.args.breaks.now in
    let cells = c.in_ok-cells.cells.items in
    let server = c.in_ok-server.server in
    let ends : c.in_ok-cells.ends.items ≡ server.ends.items = ap (λ list. list.items) (sym c.in_ok-server.ensures.ends) in
    new_cells_stand c.args.code.now c.args.clients c.args.resident losses breaks cells server c.in_ok-cells.ensures.cells
    (subst (AreNewEnds losses breaks 1) ends c.in_ok-cells.ensures.ends) (subst (AllTogether cells) ends c.in_ok-cells.ensures.paired) c.in_ok-cells.ensures.all c.in_ok-server.ensures.new

use Rattle.std.proofs.Common.{◌-◌, ◌≡◌, refl, sym, Some, length, slice_get}
use Rattle.std.proofs.lemmas.Bool.{ltb-true}
use Rattle.std.proofs.lemmas.Option.{slice_get_read}
use Rattle.dso_host.proofs.hosts.Turned.{bounded_at, client_turned}
use Rattle.dso_host.proofs.cells.Cells.turn.Goals as goal

-- the cell keeps its bounds
pub turn-requires-in-Some-clause-bounds : goal.turn-requires-in-Some-clause-bounds
turn-requires-in-Some-clause-bounds c = λ whole.
    let cells = c.args.self.now.clients.items in
    let place = c.args.worker.node - 1 in
    let at : slice_get cells place ≡ Some c.in-Some.cell.now =
    slice_get_read cells (length cells) place c.in-Some.cell.now refl (ltb-true place (length cells) (sym c.in-Some.ensures.item.0)) c.in-Some.ensures.value in
    bounded_at c.args.program.now.code cells place c.in-Some.cell.now at c.requires.whole.clients

-- all stay whole
pub returns-in-Some : goal.returns-in-Some
returns-in-Some c =
    let cells = c.args.self.now.clients.items in
    let place = c.args.worker.node - 1 in
    let at : slice_get cells place ≡ Some c.in-Some.cell.now =
    slice_get_read cells (length cells) place c.in-Some.cell.now refl (ltb-true place (length cells) (sym c.in-Some.ensures.item.0)) c.in-Some.ensures.value in
    client_turned c.args.program.now c.args.self.now _ place c.in-Some.cell.now c.turn-in-Some.new.self c.turn-in-Some.result refl refl at c.turn-in-Some.ensures.number
    c.turn-in-Some.ensures.stands c.turn-in-Some.ensures.bounds c.turn-in-Some.ensures.whole c.requires.whole

use Rattle.std.proofs.Common.{sym, ◌∙◌}
use Rattle.dso_line.specs.Letters.{newest}
use Rattle.dso_host.specs.declared.cells.Cells.{Cells}
use Rattle.dso_host.proofs.hosts.Looked.{cells_still}
use Rattle.dso_host.proofs.hosts.Renamed.{host_stands, together}
use Rattle.dso_host.proofs.cells.Cells.meet.Goals as goal

pub meet-requires : goal.meet-requires
meet-requires c =
    let of = c.requires in
    let cells = c.args.self.now in
    together of.cluster (newest cells.server.log) 1 cells.clients.items cells.server.ends.items (of.stand.all ∙ sym of.stand.server.parts.all) of.stand.clients of.stand.server.parts.ends

pub returns-clause-stands : goal.returns-clause-stands
returns-clause-stands c =
    let of = c.requires in
    let new : Cells = record { clients = c.meet.new.clients; server = c.meet.new.self } in
    host_stands c.args.program.now of.cluster new of.code of.settings
    (cells_still of.cluster c.args.self.now new (record { clients = c.meet.ensures.clients; server = c.meet.ensures.server }) of.stand)

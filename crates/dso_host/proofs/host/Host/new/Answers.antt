use Rattle.dso_host.specs.declared.cells.Cells.{Cells}
use Rattle.dso_host.proofs.hosts.Begun.{empty_journal, new_at_rest}
use Rattle.dso_host.proofs.host.Host.new.Goals as goal

-- the cells rest
pub returns-clause-stands : goal.returns-clause-stands
returns-clause-stands c =
    let cells : Cells = record { clients = c.in_ok-clients.clients; server = c.in_ok-clients.server } in
    let new = c.in_ok-clients.ensures in new_at_rest c.args.program.now cells new.stand new.known new.clients new.server

-- and have no entry
pub returns-clause-empty : goal.returns-clause-empty
returns-clause-empty c =
    let cells : Cells = record { clients = c.in_ok-clients.clients; server = c.in_ok-clients.server } in
    let new = c.in_ok-clients.ensures in
    empty_journal c.args.program.now cells c.requires (new_at_rest c.args.program.now cells new.stand new.known new.clients new.server) new.empty new.server_empty

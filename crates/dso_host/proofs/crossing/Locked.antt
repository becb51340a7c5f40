-- A client's cell that is to go behind a lock may go to another thread of the process.
use denote.RattleType.{RattleType}
use denote.Param.Send.{IsSend, sendable}
use denote.Param.SendFields.{as_row_send, declared_send}
use Rattle.dso_cell.specs.contracts.locked_client.LockedClient as locked_client
use Rattle.dso_cell.specs.declared.naming.Naming.{Ghosts}
use Rattle.dso_host.proofs.crossing.Clients.{client_cell_send}

pub locked_client_send : (N : RattleType) (named : Ghosts N.Denot) → IsSend (locked_client.the_row N named)
locked_client_send N named = search (sendable, as_row_send, declared_send, client_cell_send) depth 20

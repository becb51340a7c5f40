-- A client's cell may go to another thread of the process.
use denote.Param.Send.{IsSend, sendable}
use denote.Param.SendFields.{as_row_send, declared_send}
use Rattle.std.proofs.Crossing.{crosses}
use Rattle.std.proofs.option.Option.TheSendSync as option
use Rattle.dso_base.proofs.lock.ThreadId.TheSendSync as thread_id
use Rattle.dso_base.proofs.message.Down.TheSendSync as down
use Rattle.dso_base.proofs.no_memory.NoMemory.TheSendSync as no_memory
use Rattle.dso_base.proofs.request.Request.TheSendSync as request
use Rattle.dso_base.proofs.value.ClassId.TheSendSync as class_id
use Rattle.dso_log.proofs.node_log.NodeLog.TheSendSync as node_log
use Rattle.dso_port.proofs.port.Port.TheSendSync as port
use Rattle.dso_table.proofs.table.Table.TheSendSync as table
use Rattle.dso_txn.proofs.open_block.OpenBlock.TheSendSync as open_block
use Rattle.dso_txn.proofs.privates.Privates.TheSendSync as privates
use Rattle.dso_client.proofs.lock_state.LockState.TheSendSync as lock_state
use Rattle.dso_client.proofs.sequences.Sequences.TheSendSync as sequences
use Rattle.dso_client.proofs.thread_context.Waiting.TheSendSync as waiting
use Rattle.dso_client.specs.contracts.client.Client as client
use Rattle.dso_client.specs.contracts.client_state.ClientState as client_state
use Rattle.dso_client.specs.contracts.thread_context.ThreadContext as thread_context
use Rattle.dso_cell.specs.contracts.client_cell.ClientCell as client_cell
use Rattle.dso_host.proofs.crossing.Threads.{thread_send}

thread_context_send : IsSend thread_context.the_row
thread_context_send = declared_send thread_context.the_type
    (search (as_row_send, sendable, thread_send, thread_id.the_field_send, request.the_field_send, privates.the_field_send, open_block.the_field_send, class_id.the_field_send, waiting.the_send, option.the_field_send) depth 20)

client_state_send : IsSend client_state.the_row
client_state_send = declared_send client_state.the_type
    (search (as_row_send, sendable, crosses, thread_context_send, table.the_send, lock_state.the_field_send, sequences.the_field_send, no_memory.the_field_send, option.the_field_send) depth 20)

pub client_send : IsSend client.the_row
client_send = search (declared_send, sendable, client_state_send) depth 20

pub client_cell_send : IsSend client_cell.the_row
client_cell_send = declared_send client_cell.the_type (
  search sendable,
  (
    search (sendable, option.the_field_send, no_memory.the_send) depth 20,
    (
      search (as_row_send, sendable, client_send) depth 20,
      (
        search (as_row_send, sendable, node_log.the_send) depth 20,
        (search sendable, (search (as_row_send, sendable, port.the_send, down.the_send) depth 20, tt)),
      ),
    ),
  ),
)

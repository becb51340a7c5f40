-- A thread of a program, with what is left of its code, may go to another thread of the process.
use denote.Param.Send.{IsSend, sendable}
use denote.Param.SendFields.{as_row_send, as_row_sync, declared_send, variants_send}
use Rattle.std.proofs.Crossing.{crosses}
use Rattle.std.proofs.option.Option.TheSendSync as option
use Rattle.dso_base.proofs.items.Items.TheSendSync as items
use Rattle.dso_base.proofs.lock.Grade.TheSendSync as grade
use Rattle.dso_base.proofs.lock.LockName.TheSendSync as lock_name
use Rattle.dso_base.proofs.op.Op.TheSendSync as op
use Rattle.dso_base.proofs.request.Fault.TheSendSync as fault
use Rattle.dso_base.proofs.request.Reply.TheSendSync as reply
use Rattle.dso_base.proofs.request.Request.TheSendSync as request
use Rattle.dso_base.proofs.shared.Shared.TheSendSync as shared
use Rattle.dso_base.proofs.value.Kind.TheSendSync as kind
use Rattle.dso_base.proofs.value.Value.TheSendSync as value
use Rattle.dso_map.proofs.map_call.MapCall.TheSendSync as map_call
use Rattle.dso_machine.proofs.branch.Branch.TheSendSync as branch
use Rattle.dso_machine.proofs.continuation.Call.TheSendSync as call
use Rattle.dso_machine.proofs.continuation.End.TheSendSync as end
use Rattle.dso_machine.proofs.continuation.Frame.TheSendSync as frame
use Rattle.dso_machine.proofs.rest.Rest.TheSendSync as rest
use Rattle.dso_machine.proofs.stack.Stack.TheSendSync as stack
use Rattle.dso_machine.proofs.tree.FieldRef.TheSendSync as field_ref
use Rattle.dso_machine.specs.contracts.continuation.Locked as locked
use Rattle.dso_machine.specs.contracts.continuation.Monitor as monitor
use Rattle.dso_machine.specs.contracts.continuation.Move as move
use Rattle.dso_machine.specs.contracts.continuation.Now as now
use Rattle.dso_machine.specs.contracts.continuation.OnReply as on_reply
use Rattle.dso_machine.specs.contracts.continuation.OnValue as on_value
use Rattle.dso_machine.specs.contracts.continuation.Task as task
use Rattle.dso_machine.specs.contracts.continuation.Writing as writing
use Rattle.dso_machine.specs.contracts.machine.Core as core
use Rattle.dso_machine.specs.contracts.thread.Due as due
use Rattle.dso_machine.specs.contracts.thread.Thread as thread
use Rattle.dso_host.proofs.crossing.Statements.{stmt_send, stmt_sync}
use Rattle.dso_host.proofs.crossing.Trees.{expr_send, expr_sync, places_send}

move_send : IsSend move.the_row
move_send = variants_send move.enum (search (as_row_send, as_row_sync, sendable, expr_send, expr_sync, stmt_send, stmt_sync, branch.the_send, branch.the_sync, items.the_send, items.the_sync) depth 20)

locked_send : IsSend locked.the_row
locked_send = variants_send locked.enum (search (as_row_send, as_row_sync, sendable, stmt_send, stmt_sync, branch.the_send, branch.the_sync, items.the_send, items.the_sync, value.the_field_send, call.the_field_send, map_call.the_field_send, map_call.the_field_sync, shared.the_send) depth 20)

writing_send : IsSend writing.the_row
writing_send = variants_send writing.enum (search (as_row_send, as_row_sync, sendable, expr_send, expr_sync, branch.the_send, value.the_field_send, field_ref.the_field_send) depth 20)

monitor_send : IsSend monitor.the_row
monitor_send = variants_send monitor.enum (search (as_row_send, as_row_sync, sendable, expr_send, expr_sync, stmt_send, stmt_sync, branch.the_send, branch.the_sync, items.the_send, items.the_sync, value.the_field_send, grade.the_field_send) depth 20)

on_value_send : IsSend on_value.the_row
on_value_send = variants_send on_value.enum
    (search (as_row_send, as_row_sync, sendable, expr_send, expr_sync, stmt_send, stmt_sync, writing_send, monitor_send, branch.the_send, branch.the_sync, items.the_send, items.the_sync, rest.the_send, places_send, value.the_field_send, kind.the_field_send, op.the_field_send, field_ref.the_field_send) depth 20)

on_reply_send : IsSend on_reply.the_row
on_reply_send = variants_send on_reply.enum
    (search (as_row_send, as_row_sync, sendable, locked_send, move_send, places_send, items.the_send, value.the_field_send, field_ref.the_field_send, lock_name.the_field_send, grade.the_field_send, end.the_field_send, map_call.the_field_send, map_call.the_field_sync, shared.the_send) depth 20)

task_send : IsSend task.the_row
task_send = variants_send task.enum
    (search (as_row_send, as_row_sync, sendable, on_value_send, frame.the_field_send, lock_name.the_field_send, grade.the_field_send, map_call.the_field_send, map_call.the_field_sync, shared.the_send) depth 20)

now_send : IsSend now.the_row
now_send = variants_send now.enum
    (search (as_row_send, as_row_sync, sendable, expr_send, expr_sync, stmt_send, stmt_sync, move_send, on_reply_send, branch.the_send, branch.the_sync, items.the_send, rest.the_send, places_send, value.the_field_send, end.the_field_send, request.the_field_send, fault.the_field_send, option.the_field_send) depth 20)

core_send : IsSend core.the_row
core_send = search (as_row_send, declared_send, sendable, task_send, stack.the_send, frame.the_field_send) depth 20

due_send : IsSend due.the_row
due_send = variants_send due.enum (search (as_row_send, as_row_sync, sendable, now_send, on_reply_send, reply.the_field_send) depth 20)

pub thread_send : IsSend thread.the_row
thread_send = search (declared_send, sendable, due_send, core_send) depth 20

-- Threads of the process may share a program.
use denote.Param.Send.{IsSync, sendable}
use denote.Param.SendFields.{as_row_sync, declared_sync}
use Rattle.std.proofs.Crossing.{crosses}
use Rattle.dso_base.proofs.items.Items.TheSendSync as items
use Rattle.dso_base.proofs.journal.Trigger.TheSendSync as trigger
use Rattle.dso_base.proofs.lock.ThreadId.TheSendSync as thread_id
use Rattle.dso_class.proofs.program.Names.TheSendSync as names
use Rattle.dso_class.specs.contracts.program.Program as program
use Rattle.dso_host.proofs.crossing.Statements.{code_sync}

pub program_sync : IsSync program.the_row
program_sync = declared_sync program.the_type (search (as_row_sync, sendable, code_sync, items.the_sync, trigger.the_field_sync, thread_id.the_field_sync, names.the_field_sync) depth 20)

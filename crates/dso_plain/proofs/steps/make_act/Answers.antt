use Rattle.std.proofs.Common.{refl}
use Rattle.dso_plain.specs.HeapTables.{state_of}
use Rattle.dso_plain.proofs.table_changes.Unchanged.{still_put, still_enter, still_wait, still_timeout, still_notify, still_notify_all}
use Rattle.dso_plain.proofs.steps.make_act.Goals as goal

pub returns-in-New-Made-clause-state : goal.returns-in-New-Made-clause-state
returns-in-New-Made-clause-state c = rw (c.in-New-Made.is-0, c.in-New-Made.is-1) c.make_object.ensures.state

pub returns-in-Enter-Done-clause-state : goal.returns-in-Enter-Done-clause-state
returns-in-Enter-Done-clause-state c = rw (c.in-Enter-Done.is-0, c.in-Enter-Done.is-1) c.enter.ensures.state

pub returns-in-Exit-Done-clause-state : goal.returns-in-Exit-Done-clause-state
returns-in-Exit-Done-clause-state c = rw (c.in-Exit-Done.is-0, c.in-Exit-Done.is-1) c.exit.ensures.state

pub returns-in-Wait-Done-clause-state : goal.returns-in-Wait-Done-clause-state
returns-in-Wait-Done-clause-state c = rw (c.in-Wait-Done.is-0, c.in-Wait-Done.is-1) c.wait.ensures.state

pub returns-in-Resume-Done-clause-state : goal.returns-in-Resume-Done-clause-state
returns-in-Resume-Done-clause-state c = rw (c.in-Resume-Done.is-0, c.in-Resume-Done.is-1) c.resume.ensures.state

pub returns-in-NotifyAll-Done-clause-state : goal.returns-in-NotifyAll-Done-clause-state
returns-in-NotifyAll-Done-clause-state c = rw (c.in-NotifyAll-Done.is-0, c.in-NotifyAll-Done.is-1) c.mark_all.ensures.state

pub returns-in-Print-Done-clause-state : goal.returns-in-Print-Done-clause-state
returns-in-Print-Done-clause-state c = rw (c.in-Print-Done.is-0, c.in-Print-Done.is-1) c.print.ensures.state

pub returns-in-End-Done-clause-state : goal.returns-in-End-Done-clause-state
returns-in-End-Done-clause-state c = rw (c.in-End-Done.is-0, c.in-End-Done.is-1) c.end.ensures.state

pub returns-in_default-3 : goal.returns-in_default-3
returns-in_default-3 c = record { state = rw c.in_default.is-0 (still_put c.args.shape.now c.args.act.thread c.args.act.woken (state_of c.args.tables.now) c.in_default.field-0-0 c.in_default.field-1-0 c.in_default.field-2-0 c.args.act.reply c.in_default.not-Done-1); agrees = c.requires.kept.agrees }

pub returns-in_default-4 : goal.returns-in_default-4
returns-in_default-4 c = record { state = rw c.in_default.is-0 (still_enter c.args.shape.now c.args.act.thread c.args.act.woken (state_of c.args.tables.now) c.in_default.field-0-0 c.in_default.field-1-0 c.args.act.reply c.in_default.not-Done-1); agrees = c.requires.kept.agrees }

pub returns-in_default-6 : goal.returns-in_default-6
returns-in_default-6 c = record { state = rw c.in_default.is-0 (still_wait c.args.shape.now c.args.act.thread c.args.act.woken (state_of c.args.tables.now) c.in_default.field-0-0 c.args.act.reply c.in_default.not-Done-1); agrees = c.requires.kept.agrees }

pub returns-in_default-7 : goal.returns-in_default-7
returns-in_default-7 c = record { state = rw c.in_default.is-0 (still_timeout c.args.shape.now c.args.act.thread c.args.act.woken (state_of c.args.tables.now) c.in_default.field-0-0 c.args.act.reply c.in_default.not-Done-1); agrees = c.requires.kept.agrees }

pub returns-in_default-9 : goal.returns-in_default-9
returns-in_default-9 c = record { state = rw c.in_default.is-0 (still_notify c.args.shape.now c.args.act.thread c.args.act.woken (state_of c.args.tables.now) c.in_default.field-0-0 c.args.act.reply c.in_default.not-Done-1); agrees = c.requires.kept.agrees }

pub returns-in_default-10 : goal.returns-in_default-10
returns-in_default-10 c = record { state = rw c.in_default.is-0 (still_notify_all c.args.shape.now c.args.act.thread c.args.act.woken (state_of c.args.tables.now) c.in_default.field-0-0 c.args.act.reply c.in_default.not-Done-1); agrees = c.requires.kept.agrees }

pub returns-in-Look-default-clause-state : goal.returns-in-Look-default-clause-state
returns-in-Look-default-clause-state c = rw c.in-Look-default.is-0 refl

pub returns-in-Pause-default-clause-state : goal.returns-in-Pause-default-clause-state
returns-in-Pause-default-clause-state c = rw c.in-Pause-default.is-0 refl

pub returns-in-Tick-default-clause-state : goal.returns-in-Tick-default-clause-state
returns-in-Tick-default-clause-state c = rw c.in-Tick-default.is-0 refl

pub returns-in-Settle-default-clause-state : goal.returns-in-Settle-default-clause-state
returns-in-Settle-default-clause-state c = rw c.in-Settle-default.is-0 refl

use Rattle.std.proofs.Common.{Some, None}
use Rattle.dso_config_entries.specs.BorrowedWords.{words_of}
use Rattle.dso_class.proofs.locking.LockNumbers as laws
use Rattle.dso_class.proofs.locks.guard_of.Goals as goal

pub lock_number-requires-clause-there : goal.lock_number-requires-clause-there
lock_number-requires-clause-there c =
    laws.guard_there c.args.config.now (words_of c.args.locks.now) c.args.class.now c.args.field.now c.in-Some.entry.now c.requires.names
    (laws.lent_last _ c.args.config.now.guards c.as_slice.result.now c.last_guard.result (Some c.in-Some.entry) c.as_slice.ensures c.in-Some.is c.last_guard.ensures)

pub returns-in-Some : goal.returns-in-Some
returns-in-Some c source of_config of_locks of_roots =
    laws.guard_named source c.args.config.now (words_of c.args.locks.now) c.args.roots of_config of_locks of_roots c.args.class.now c.args.field.now c.in-Some.entry.now c.lock_number.result
    (laws.lent_last _ c.args.config.now.guards c.as_slice.result.now c.last_guard.result (Some c.in-Some.entry) c.as_slice.ensures c.in-Some.is c.last_guard.ensures) c.lock_number.ensures

pub returns-in-None : goal.returns-in-None
returns-in-None c source of_config of_locks of_roots =
    laws.guard_own source c.args.config.now (words_of c.args.locks.now) c.args.roots of_config of_locks of_roots c.args.class.now c.args.field.now
    (laws.lent_last _ c.args.config.now.guards c.as_slice.result.now c.last_guard.result None c.as_slice.ensures c.in-None.is c.last_guard.ensures)

use Rattle.std.proofs.Common.{Some, None}
use Rattle.dso_config.specs.InRange.{entries}
use Rattle.dso_config_entries.specs.BorrowedWords.{words_of}
use Rattle.dso_class.proofs.locking.LockNumbers as laws
use Rattle.dso_class.proofs.locks.named_lock.Goals as goal

pub lock_number-requires-clause-there : goal.lock_number-requires-clause-there
lock_number-requires-clause-there c =
    laws.named_there c.args.config.now (words_of c.args.locks.now) c.args.class.now c.args.method.now c.in-Some.entry.now c.requires.names
    (laws.lent_last _ (entries c.args.config.now.named) c.named_entries.result.now c.last_named.result (Some c.in-Some.entry) c.named_entries.ensures c.in-Some.is c.last_named.ensures)

pub returns-in-Some : goal.returns-in-Some
returns-in-Some c source of_config of_locks of_roots =
    laws.lock_named source c.args.config.now (words_of c.args.locks.now) c.args.roots of_config of_locks of_roots c.args.class.now c.args.method.now c.in-Some.entry.now c.lock_number.result
    (laws.lent_last _ (entries c.args.config.now.named) c.named_entries.result.now c.last_named.result (Some c.in-Some.entry) c.named_entries.ensures c.in-Some.is c.last_named.ensures) c.lock_number.ensures

pub returns-in-None : goal.returns-in-None
returns-in-None c source of_config of_locks of_roots =
    laws.lock_none source c.args.config.now (words_of c.args.locks.now) c.args.roots of_config of_locks of_roots c.args.class.now c.args.method.now
    (laws.lent_last _ (entries c.args.config.now.named) c.named_entries.result.now c.last_named.result None c.named_entries.ensures c.in-None.is c.last_named.ensures)

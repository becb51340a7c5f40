-- The orders by which tables are kept.
use Rattle.std.specs.declared.cmp.Ordering.{Ordering}
use Rattle.dso_base.specs.contracts.lock.LockNameOrd.TheImpl as lock
use Rattle.dso_base.specs.contracts.lock.ThreadIdOrd.TheImpl as thread
use Rattle.dso_base.specs.declared.lock.LockName.{LockName}
use Rattle.dso_base.specs.declared.lock.ThreadId.{ThreadId}

-- the order of locks: monitors before names, each kind by rising number
abbrev pub lock_order : LockName → LockName → Ordering
lock_order = (lock.ghosts).cmp

-- the order of threads: by client, and then by index
abbrev pub thread_order : ThreadId → ThreadId → Ordering
thread_order = (thread.ghosts).cmp

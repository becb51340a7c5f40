-- How a lock stands with the server after its entries. They are those that count.
use Rattle.std.specs.Prelude.{ℕ, ◌≡◌, cond, List, [], ◌∷◌}
use Rattle.dso_base.specs.declared.journal.Entry.{Entry}
use Rattle.dso_base.specs.declared.journal.Input.{Input}
use Rattle.dso_base.specs.declared.journal.Input.TheVariants.{TookUp, Lose}
use Rattle.dso_base.specs.declared.lock.LockName.{LockName}
use Rattle.dso_base.specs.declared.message.Up.{Up}
use Rattle.dso_base.specs.declared.message.Up.TheVariants as up
use Rattle.dso_law.specs.Entries.{by_sent_down}
use Rattle.dso_law.specs.Granting.{queue_of, leases_so_far}
use Rattle.dso_locks.specs.Locks.{LockState, unused, requested_by, returned_by, lost_by, told_to}
use Rattle.dso_plain.specs.KeyTests.{is_lock}

-- as the readings of the server rule tell
abbrev pub stands_after : LockName → List Entry → LockState
stands_after l es = record { leases = leases_so_far l es; queue = queue_of l es }

-- what a message of the client makes of lock l
abbrev pub heard_from : LockName → ℕ → Up → LockState → LockState
heard_from l c up.IdAsk s = s
heard_from l c (up.Fault o) s = s
heard_from l c (up.Flushed o) s = s
heard_from l c (up.Request k level) s = cond (is_lock l k) (requested_by c level s) s
heard_from l c (up.Return k threads) s = cond (is_lock l k) (returned_by c s) s
heard_from l c (up.Commit txn) s = s

-- what an input makes of it: a message, or a loss
abbrev pub heard_in : LockName → Input → LockState → LockState
heard_in l (TookUp c m) s = heard_from l c m s
heard_in l (Lose c) s = lost_by c s
heard_in l input s = s

-- Before the first entry no client asked for the lock.
abbrev pub BeginsUnused : Type 0
BeginsUnused = (l : LockName) → stands_after l [] ≡ unused

-- After one more entry it stands as what the entry takes in was heard, and then what it sends was told.
abbrev pub FollowsEntries : Type 0
FollowsEntries = (l : LockName) (e : Entry) (es : List Entry)
    → stands_after l (e ∷ es) ≡ by_sent_down (told_to l) e.sent (heard_in l e.input (stands_after l es))

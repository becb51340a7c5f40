-- What contracts see of a client besides the entries that it stands for.
use Rattle.std.specs.Prelude.{ℕ, Bool}
use Rattle.dso_base.specs.declared.lock.LockName.{LockName}
use Rattle.dso_base.specs.declared.lock.ThreadId.{ThreadId}
use Rattle.dso_hold.specs.Holds.{hold_in, count_at}
use Rattle.dso_table.specs.ObjectTables.{state_in}
use Rattle.dso_table.specs.Victims.{IsVictim}
use Rattle.dso_txn.specs.Numbers.{numbers_in}
use Rattle.dso_client.specs.declared.client_state.ClientState.{ClientState}

-- how many records the client sent
abbrev pub records_sent : ClientState → ℕ
records_sent kept = kept.sequences.records

-- whether the record of this number was sent and not yet acknowledged
abbrev pub is_unacknowledged : ClientState → ℕ → Bool
is_unacknowledged kept = numbers_in kept.sequences.unacked

-- how often a thread entered a lock and didn't leave it, 0 where it doesn't hold it
abbrev pub times_held : ClientState → ThreadId → LockName → ℕ
times_held kept t l = count_at (hold_in kept.lock_state.holds (l, t))

-- the object is the one that the client's table flushes next
abbrev pub IsNextVictim : ClientState → ℕ → Type 0
IsNextVictim kept o = IsVictim (state_in kept.table) o

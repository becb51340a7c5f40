-- The tables of locks: the place of each, and the locks by place.
use Rattle.slab.specs.Slab as slab
use Rattle.std.specs.BTreeMap.{BTreeMap, IsOrdered, keys}
use Rattle.std.specs.Option.{option_map}
use Rattle.std.specs.Prelude.{ℕ, ◌≡◌, ◌≢◌, false, Option, Some, None, List}
use Rattle.dso_base.specs.declared.lock.LockName.{LockName}
use Rattle.dso_locks.specs.declared.lock.Lock.{Lock}
use Rattle.dso_locks.specs.declared.news.News.{News}
use Rattle.dso_locks.specs.declared.news.News.TheVariants as news
use Rattle.dso_locks.specs.declared.tables.LockRows.{LockRows}
use Rattle.dso_locks.specs.Locks.{LockState, unused, requested_by, returned_by, lost_by, waits}
use Rattle.dso_locks.specs.Serving.{state_in}
use Rattle.dso_lookup.specs.Maps.{look}
use Rattle.dso_lookup.specs.Orders.{lock_order}

-- how the lock of a place stands
abbrev pub state_of : Option Lock → LockState
state_of None = unused
state_of (Some lock) = state_in lock

-- how a lock stands that has this place
abbrev pub placed_state : slab.Slab Lock → Option ℕ → LockState
placed_state locks None = unused
placed_state locks (Some place) = state_of (slab.get locks place)

-- how each lock stands
abbrev pub states_by : BTreeMap LockName ℕ → slab.Slab Lock → LockName → LockState
states_by index locks l = placed_state locks (look lock_order index l)

-- the name of the lock at a place
abbrev pub name_at : slab.Slab Lock → ℕ → Option LockName
name_at locks place = option_map (λ lock. lock.name) (slab.get locks place)

-- each place has its lock
pub record ArePlaced (index : BTreeMap LockName ℕ) (locks : slab.Slab Lock) : Type 0 where
  pub named : (l : LockName) (place : ℕ) → look lock_order index l ≡ Some place → name_at locks place ≡ Some l
  pub ordered : IsOrdered lock_order index

-- no lock is renamed, and but for one place all is as it was
pub record ChangesAt (place : ℕ) (old new : slab.Slab Lock) : Type 0 where
  pub names : (other : ℕ) → name_at new other ≡ name_at old other
  pub others : (other : ℕ) → other ≢ place → slab.get new other ≡ slab.get old other

-- how the locks stand
abbrev pub locks_in : LockRows → LockName → LockState
locks_in tables = states_by tables.index tables.locks

-- the locks that were ever requested, rising
abbrev pub requested_in : LockRows → List LockName
requested_in tables = keys tables.index

-- what comes of news of a client
abbrev pub heard : ℕ → News → LockState → LockState
heard c (news.Request level) s = requested_by c level s
heard c news.Return s = returned_by c s
heard c news.Loss s = lost_by c s

-- who requests a lock has no request of it
abbrev pub FitsNews : ℕ → News → LockState → Type 0
FitsNews c (news.Request level) s = waits c s ≡ false
FitsNews c news.Return s = Unit {0}
FitsNews c news.Loss s = Unit {0}

-- Which threads hold which locks, and who may enter one.
use Rattle.std.specs.Prelude.{ℕ, ◌+◌, ◌-◌, ◌≡◌, ◌≢◌, Bool, true, false, cond, ltb, Option, Some, None}
use Rattle.std.specs.Option.{option_map, option_map_or}
use Rattle.std.specs.Ordering.{is_lt}
use Rattle.dso_base.specs.declared.lock.Level.{Level}
use Rattle.dso_base.specs.declared.lock.Level.TheVariants.{Read, Write}
use Rattle.dso_base.specs.declared.lock.LockName.{LockName}
use Rattle.dso_base.specs.declared.lock.ThreadId.{ThreadId}
use Rattle.dso_hold.specs.declared.held.Enter.{Enter}
use Rattle.dso_hold.specs.declared.held.Enter.TheVariants.{Entered, LockUpgrade, Blocked}
use Rattle.dso_hold.specs.declared.held.Held.{Held}
use Rattle.dso_hold.specs.declared.tables.HoldTables.{HoldTables}
use Rattle.dso_lookup.specs.Maps.{writes, written}
use Rattle.dso_lookup.specs.Orders.{lock_order, thread_order}
use Rattle.dso_lookup.specs.Rows.{look_in, is_at_pair}

-- the first thread stands before the second
abbrev pub is_before : ThreadId → ThreadId → Bool
is_before t u = is_lt (thread_order t u)

-- how the thread holds the lock, None where it doesn't
abbrev pub hold_in : HoldTables → LockName × ThreadId → Option Held
hold_in tables = look_in lock_order thread_order tables.by_lock

-- the key is this lock with this thread
abbrev pub is_place : LockName → ThreadId → LockName × ThreadId → Bool
is_place l t = is_at_pair lock_order thread_order l t

-- the holds with another hold of the thread on the lock
abbrev pub with_hold : LockName → ThreadId → Option Held → (LockName × ThreadId → Option Held) → LockName × ThreadId
    → Option Held
with_hold l t new holds = written (writes (is_place l t) (λ _. new)) holds

-- the level of a hold, if there is one
abbrev pub level_at : Option Held → Option Level
level_at held = option_map (λ h. h.level) held

-- the count of a hold, 0 where there is none
abbrev pub count_at : Option Held → ℕ
count_at held = option_map_or (λ h. h.count) held 0

-- the hold is at Read, and Write is wanted
abbrev pub is_lower : Level → Held → Bool
is_lower Read held = false
is_lower Write held = is_read held.level
  where
    is_read : Level → Bool
    is_read Read = true
    is_read Write = false

-- one of the two levels is Write
abbrev pub excludes : Level → Held → Bool
excludes Write held = true
excludes Read held = is_write held.level
  where
    is_write : Level → Bool
    is_write Read = false
    is_write Write = true

-- so many more entries; the level stays
abbrev pub entered_again : ℕ → Held → Held
entered_again n held = record held { count = held.count + n }

-- the hold after so many entries at the level
abbrev pub entered : Level → ℕ → Option Held → Held
entered level n None = record { level = level; count = n }
entered level n (Some held) = entered_again n held

-- the hold after so many exits: at 0 it is gone
abbrev pub exited : ℕ → Option Held → Option Held
exited n None = None
exited n (Some held) = cond (ltb n held.count) (Some (record held { count = held.count - n })) None

-- the thread holds some lock
abbrev pub HoldsSome : ThreadId → (LockName × ThreadId → Option Held) → Type 0
HoldsSome t holds = (l : LockName) × (holds (l, t) ≢ None)

-- no thread holds the lock
abbrev pub IsFree : LockName → (LockName × ThreadId → Option Held) → Type 0
IsFree l holds = (t : ThreadId) → holds (l, t) ≡ None

-- the thread holds the lock at Read and asks for Write
abbrev pub is_upgrade : Level → Option Held → Bool
is_upgrade level held = option_map_or (is_lower level) held false

-- the thread holds the lock, and the level is no upgrade of its hold
abbrev pub HoldsEnough : Level → Option Held → Type 0
HoldsEnough level None = ⊥
HoldsEnough level (Some held) = is_lower level held ≡ false

-- Thread u is another one that holds the lock in conflict with an entry of thread t at the level.
pub record IsInConflict (t : ThreadId) (l : LockName) (level : Level) (holds : LockName × ThreadId → Option Held)
    (u : ThreadId) : Type 0 where
  pub other : u ≢ t
  pub excludes : option_map_or (excludes level) (holds (l, u)) false ≡ true

-- no other thread holds the lock in conflict
abbrev pub NoConflict : ThreadId → LockName → Level → (LockName × ThreadId → Option Held) → Type 0
NoConflict t l level holds = (u : ThreadId) → IsInConflict t l level holds u → ⊥

-- thread w holds the lock in conflict, and none that does stands before it
pub record IsFirstInConflict (t : ThreadId) (l : LockName) (level : Level) (holds : LockName × ThreadId → Option Held)
    (w : ThreadId) : Type 0 where
  pub conflict : IsInConflict t l level holds w
  pub first : (u : ThreadId) → IsInConflict t l level holds u → is_before u w ≡ false

-- The answer to thread t that enters the lock n times, and what it makes of the holds. An upgrade is refused, whoever
-- else holds the lock; else the first thread in conflict is named; else the thread has entered.
abbrev pub IsAnswer : ThreadId → LockName → Level → ℕ → (LockName × ThreadId → Option Held)
    → (LockName × ThreadId → Option Held) → Enter → Type 0
IsAnswer t l level n old new LockUpgrade = (is_upgrade level (old (l, t)) ≡ true) × (new ≡ old)
IsAnswer t l level n old new (Blocked w) = (is_upgrade level (old (l, t)) ≡ false) × IsFirstInConflict t l level old w
    × (new ≡ old)
IsAnswer t l level n old new Entered = (is_upgrade level (old (l, t)) ≡ false) × NoConflict t l level old
    × (new ≡ with_hold l t (Some (entered level n (old (l, t)))) old)

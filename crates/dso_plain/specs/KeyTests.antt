-- When two keys are the same.
use Rattle.std.specs.Prelude.{ℕ, Bool, false, eqb, ◌&&◌}
use Rattle.dso_base.specs.declared.lock.LockName.{LockName}
use Rattle.dso_base.specs.declared.lock.LockName.TheVariants.{Mon, Name}
use Rattle.dso_base.specs.declared.lock.ThreadId.{ThreadId}
use Rattle.dso_base.specs.Following.{is_thread}

-- the key is this lock
abbrev pub is_lock : LockName → LockName → Bool
is_lock (Mon o) (Mon key) = eqb key o
is_lock (Name n) (Name key) = eqb key n
is_lock l key = false

-- the key is this field of this object
abbrev pub is_field : ℕ → ℕ → ℕ × ℕ → Bool
is_field o f key = eqb key.0 o && eqb key.1 f

-- the key is this lock with this thread
abbrev pub is_place : LockName → ThreadId → LockName × ThreadId → Bool
is_place l t key = is_lock l key.0 && is_thread t key.1

-- the key is this thread with this field of this object
abbrev pub is_view : ThreadId → ℕ → ℕ → ThreadId × ℕ × ℕ → Bool
is_view t o f key = is_thread t key.0 && (eqb key.1 o && eqb key.2 f)

-- When a thread is let into a lock at its client.
use Rattle.std.specs.Prelude.{◌≡◌, ℕ, false, Option, None}
use Rattle.std.specs.Option.{option_map_or}
use Rattle.dso_base.specs.declared.lock.Level.{Level}
use Rattle.dso_base.specs.declared.lock.LockName.{LockName}
use Rattle.dso_base.specs.declared.lock.ThreadId.{ThreadId}
use Rattle.dso_hold.specs.declared.held.Held.{Held}
use Rattle.dso_hold.specs.Holds.{is_upgrade, NoConflict}
use Rattle.dso_law.specs.Threads.{Waiting}

-- it asks for no upgrade, and where it doesn't hold the lock no other thread holds it in conflict
abbrev pub IsLetIn : ThreadId → LockName → Level → (LockName × ThreadId → Option Held) → Type 0
IsLetIn t l level holds = (is_upgrade level (holds (l, t)) ≡ false) × (holds (l, t) ≡ None → NoConflict t l level holds)

-- the count of the hold that a thread is to have again, 0 where it doesn't wait
abbrev pub count_owed : Option Waiting → ℕ
count_owed waiting = option_map_or (λ waiting. waiting.count) waiting 0

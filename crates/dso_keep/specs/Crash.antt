-- What a crash at any moment of a call leaves.
use Rattle.std.specs.Prelude.{◌≡◌, ℕ, ◌≤◌, List, ◌++◌, length, Option, Some, None}
use Rattle.dso_keep.specs.Disk.{Change, File, MayLeave}

-- A crash at any moment since `old` leaves only what has P. A moment is one after some of what was done, with all that
-- was done before `old` among it.
pub record LeavesOnly (P : List ℕ → Type 0) (old new : File) : Type 0 where
  pub first : new.first ≡ old.first
  pub goes_on : (later : List Change) × (new.changes ≡ later ++ old.changes)
  pub each : (later sooner : List Change) → new.changes ≡ later ++ sooner → length old.changes ≤ length sooner
      → (left : List ℕ) → MayLeave new.first sooner left → P left

-- the same, where the file is told
abbrev pub CrashLeaves : (List ℕ → Type 0) → Option File → Option File → Type 0
CrashLeaves P None None = Unit {0}
CrashLeaves P (Some old) (Some new) = LeavesOnly P old new
CrashLeaves P old new = ⊥

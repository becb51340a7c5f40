-- Which objects may be flushed, and which is flushed first.
use Rattle.std.specs.Prelude.{ℕ, ◌≡◌, ◌⊎◌, ◌<◌, ◌≤◌, ◌++◌, ◌∷◌, Bool, true, false, List, Some, None}
use Rattle.std.specs.Ordering.{is_lt}
use Rattle.dso_base.specs.declared.lock.ThreadId.{ThreadId}
use Rattle.dso_lookup.specs.Orders.{thread_order}
use Rattle.dso_lookup.specs.Search.{is_listed}
use Rattle.dso_table.specs.declared.not_flushable.NotFlushable.{NotFlushable}
use Rattle.dso_table.specs.declared.not_flushable.NotFlushable.TheVariants.{Absent, Changed, InBlock, Wanted}
use Rattle.dso_table.specs.States.{State, is_resident}

-- no thread has a note of the object
abbrev pub NoNote : ℕ → (ThreadId × ℕ → Bool) → Type 0
NoNote o notes = (t : ThreadId) → notes (t, o) ≡ false

-- the thread has a note of the object, and none that has one stands before it
pub record IsFirstNote (o : ℕ) (notes : ThreadId × ℕ → Bool) (t : ThreadId) : Type 0 where
  pub noted : notes (t, o) ≡ true
  pub first : (u : ThreadId) → notes (u, o) ≡ true → is_lt (thread_order u t) ≡ false

-- Flushable: resident, without a change that isn't acknowledged, in no open block, and wanted by no thread.
pub record IsFlushable (s : State) (o : ℕ) : Type 0 where
  pub resident : is_resident (s.standing o) ≡ true
  pub unchanged : s.marks o ≡ None
  pub unopened : NoNote o s.opened
  pub unwanted : NoNote o s.wanted

-- Why an object may not be flushed, the first reason that holds: it isn't resident; that record changed it; the block
-- of that thread puts to it; that thread wants it.
abbrev pub IsReason : State → ℕ → NotFlushable → Type 0
IsReason s o Absent = is_resident (s.standing o) ≡ false
IsReason s o (Changed n) = (is_resident (s.standing o) ≡ true) × (s.marks o ≡ Some n)
IsReason s o (InBlock t) = (is_resident (s.standing o) ≡ true) × (s.marks o ≡ None) × IsFirstNote o s.opened t
IsReason s o (Wanted t) =
    (is_resident (s.standing o) ≡ true) × (s.marks o ≡ None) × NoNote o s.opened × IsFirstNote o s.wanted t

-- more objects are resident than the client is to keep
abbrev pub IsFull : State → Type 0
IsFull s = s.limit < s.residents

-- the flushable object of least id that isn't among those used last
pub record IsLeastUnused (s : State) (o : ℕ) : Type 0 where
  pub flushable : IsFlushable s o
  pub unused : is_listed o s.used ≡ false
  pub least : (p : ℕ) → IsFlushable s p → is_listed p s.used ≡ false → o ≤ p

-- the flushable object that was used longest ago, where each flushable one is among those used last
pub record IsLeastRecent (s : State) (o : ℕ) : Type 0 where
  pub flushable : IsFlushable s o
  pub all_used : (p : ℕ) → IsFlushable s p → is_listed p s.used ≡ true
  pub later : List ℕ
  pub earlier : List ℕ
  pub stands : s.used ≡ later ++ o ∷ earlier
  pub longest : (p : ℕ) → IsFlushable s p → is_listed p earlier ≡ false

-- Which object is flushed next, where more are resident than the client is to keep: one that isn't among those used
-- last before one that is.
pub record IsVictim (s : State) (o : ℕ) : Type 0 where
  pub full : IsFull s
  pub chosen : IsLeastUnused s o ⊎ IsLeastRecent s o

-- no object is to be flushed: no more are resident than the client is to keep, or none of them is flushable
abbrev pub NoVictim : State → Type 0
NoVictim s = (o : ℕ) → IsFull s → IsFlushable s o → ⊥

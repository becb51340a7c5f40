-- What each step keeps: of the past, and of monitors and waits.
use Rattle.std.specs.Prelude.{ℕ, ◌-◌, ◌≤◌, ◌≡◌, ◌≢◌, ◌⊎◌, Bool, true, false, ltb, is_some, Option, Some, None, List}
use Rattle.std.specs.Prelude.{[], length}
use Rattle.dso_base.specs.declared.lock.Level.{Level}
use Rattle.dso_base.specs.declared.lock.LockName.{LockName}
use Rattle.dso_base.specs.declared.lock.ThreadId.{ThreadId}
use Rattle.dso_base.specs.declared.request.Fault.{Fault}
use Rattle.dso_base.specs.declared.value.Value.{Value}
use Rattle.dso_plain.specs.State.{Object, Hold, PlainState, is_private_to, is_shared, size_of, level_of}
use Rattle.dso_plain.specs.Possible.{IsCompatible}
use Rattle.dso_plain.specs.Past.{newest}
use Rattle.dso_lookup.specs.Reaching.{IsListed}

-- What each step keeps of pasts, said of the parts of a state that it speaks of.
pub record PastInvariantOf (objects : ℕ → Option Object) (made : ThreadId → List ℕ) (heap : ℕ × ℕ → Option Value)
    (past : ℕ × ℕ → List Value) (seen : ThreadId × ℕ × ℕ → ℕ) : Type 0 where
  pub newest_is_heap : (o f : ℕ) → is_shared (objects o) ≡ true → newest (past (o, f)) ≡ heap (o, f)
  pub none_before : (o f : ℕ) → is_shared (objects o) ≡ false → past (o, f) ≡ []
  pub within : (t : ThreadId) (o f : ℕ) → seen (t, o, f) ≤ length (past (o, f)) - 1
  pub fields : (o f : ℕ) → is_some (heap (o, f)) ≡ ltb f (size_of (objects o))
  pub private_listed : (t : ThreadId) (o : ℕ) → is_private_to t (objects o) ≡ true → IsListed o (made t)

-- what each step keeps of pasts, said of a whole state
abbrev pub PastInvariant : PlainState → Type 0
PastInvariant s = PastInvariantOf s.objects s.made s.heap s.past s.seen

-- a thread that has ended, or whose client is lost
abbrev pub HasLeft : (ℕ → Bool) → (ThreadId → Option (Option Fault)) → ThreadId → Type 0
HasLeft lost ended t = (lost t.client ≡ true) ⊎ (ended t ≢ None)

-- What each step keeps of monitors and waits, said of the parts of a state that it speaks of.
pub record MonitorInvariantOf (monitors : LockName × ThreadId → Option Hold) (asleep : LockName × ThreadId → Option ℕ)
    (marked : LockName × ThreadId → Bool) (ended : ThreadId → Option (Option Fault)) (lost : ℕ → Bool) : Type 0 where
  pub compatible : (l : LockName) (t w : ThreadId) (x : Level) → t ≢ w → level_of (monitors (l, t)) ≡ Some x
      → IsCompatible x (level_of (monitors (l, w)))
  pub counted : (l : LockName) (t : ThreadId) (hold : Hold) → monitors (l, t) ≡ Some hold → 1 ≤ hold.count
  pub counted_waits : (l : LockName) (t : ThreadId) (count : ℕ) → asleep (l, t) ≡ Some count → 1 ≤ count
  pub only_waiters : (l : LockName) (t : ThreadId) → marked (l, t) ≡ true → asleep (l, t) ≢ None
  pub out : (l : LockName) (t : ThreadId) → HasLeft lost ended t → (monitors (l, t) ≡ None) × (asleep (l, t) ≡ None)

-- what each step keeps of monitors and waits, said of a whole state
abbrev pub MonitorInvariant : PlainState → Type 0
MonitorInvariant s = MonitorInvariantOf s.monitors s.asleep s.marked s.ended s.lost

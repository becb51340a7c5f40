-- Whether a thread holds a lock, by its list of holds.
use Rattle.std.proofs.Common.{◌≡◌, ◌≢◌, refl, sym, ◌∙◌, ap, cond, Option, Some, None, List, [], ◌∷◌}
use Rattle.std.specs.Option.{option_map}
use Rattle.dso_base.specs.declared.lock.ThreadId.{ThreadId}
use Rattle.dso_law.proofs.client.TimedOut.{lock_self}
use Rattle.dso_law.specs.Threads as law
use Rattle.dso_law.specs.Threads.{hold_in, locks_of}
use Rattle.dso_hold.specs.declared.held.Held.{Held}
use Rattle.dso_hold.specs.Holds as hold
use Rattle.dso_hold.specs.Holds.{HoldsSome}
use Rattle.dso_client.specs.declared.lock_state.LockState.{LockState}
use Rattle.dso_client.specs.LockStateStands.{LockStateStands, as_hold}
use Rattle.dso_client.specs.RunPoints.{RunPoint}

-- what isn't there isn't there as a hold
pub gone : (held : Option Held) → option_map as_hold held ≡ None → held ≡ None
gone None e = refl
gone (Some held) e = absurd (cc e)

-- a thread that holds some lock has a list of holds
pub listed : (at : RunPoint) (lock_state : LockState) (t : ThreadId) → LockStateStands at lock_state → HoldsSome t (hold.hold_in lock_state.holds) → (locks_of t at.entries).holds ≢ []
listed at lock_state t stands h = λ e. h.1 (gone (hold.hold_in lock_state.holds (h.0, t)) (stands.holds t h.0 ∙ ap (λ holds. hold_in h.0 holds) e))

-- and one that holds none has none
pub unlisted : (at : RunPoint) (lock_state : LockState) (t : ThreadId) → LockStateStands at lock_state → (HoldsSome t (hold.hold_in lock_state.holds) → ⊥) → (locks_of t at.entries).holds ≡ []
unlisted at lock_state t stands none = by (locks_of t at.entries).holds refl
  where
    there : (first : law.Held) (rest : List law.Held) → (locks_of t at.entries).holds ≡ first ∷ rest → hold.hold_in lock_state.holds (first.lock, t) ≡ None → ⊥
    there first rest e missing =
        let found : hold_in first.lock (first ∷ rest) ≡ Some first.hold = ap (λ b. cond b (Some first.hold) (hold_in first.lock rest)) (lock_self first.lock) in
        let lost : option_map as_hold (hold.hold_in lock_state.holds (first.lock, t)) ≡ None = ap (option_map as_hold) missing in
        absurd (cc (sym lost ∙ (stands.holds t first.lock ∙ (ap (λ holds. hold_in first.lock holds) e ∙ found))))

    by : (holds : List law.Held) → (locks_of t at.entries).holds ≡ holds → holds ≡ []
    by [] e = refl
    by (first ∷ rest) e = absurd (none (first.lock, there first rest e))

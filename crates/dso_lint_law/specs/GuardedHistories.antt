-- What the lock checker's Yes promises: no refusal for want of a lock, and no read without guard.
use Rattle.std.specs.Prelude.{◌≡◌, List, Contains}
use Rattle.dso_base.specs.declared.request.Event.{Event}
use Rattle.dso_base.specs.declared.request.Event.TheVariants.{Act, Lost}
use Rattle.dso_base.specs.declared.request.Fault.{Fault}
use Rattle.dso_base.specs.declared.request.Fault.TheVariants.{UnlockedSharedObject, WrongLock, ReadOnly, LockUpgrade}
use Rattle.dso_base.specs.declared.request.Reply.{Reply}
use Rattle.dso_base.specs.declared.request.Reply.TheVariants.{Refused}
use Rattle.dso_base.specs.declared.shape.Shape.{Shape}
use Rattle.dso_base.specs.Following.{Listed}
use Rattle.dso_plain.specs.History.{IsLegal, last_state}
use Rattle.dso_machine.specs.declared.code.Code.{Code}
use Rattle.dso_machine.specs.Next.{next_request}
use Rattle.dso_machine.specs.Sound.{IsSoundCode}
use Rattle.dso_lint.specs.declared.answer.Lint.TheVariants.{Yes}
use Rattle.dso_lint.specs.Verdict.{IsVerdict}

-- the faults that come of locks that were not taken, or not at Write
abbrev pub IsLockFault : Fault → Type 0
IsLockFault UnlockedSharedObject = Unit {0}
IsLockFault WrongLock = Unit {0}
IsLockFault ReadOnly = Unit {0}
IsLockFault LockUpgrade = Unit {0}
IsLockFault fault = ⊥

-- the reply refuses with such a fault
abbrev pub RefusesForLocks : Reply → Type 0
RefusesForLocks (Refused fault) = IsLockFault fault
RefusesForLocks reply = ⊥

-- the event is an act that was refused so
abbrev pub IsLockRefusal : Event → Type 0
IsLockRefusal (Act thread request reply woken) = RefusesForLocks reply
IsLockRefusal (Lost client) = ⊥

-- no event of the history is such a refusal, and no read in it was unguarded
pub record IsGuardedHistory (shape : Shape) (h : List Event) : Type 0 where
  pub accepted : (e : Event) → Contains h e → IsLockRefusal e → ⊥
  pub guarded : (last_state shape h).unguarded ≡ 0

-- so each legal history of the code
abbrev pub IsGuardedCode : Code → Type 0
IsGuardedCode code = (h : List Event) → IsLegal (next_request code) (Listed (next_request code)) code.shape h →
    IsGuardedHistory code.shape h

-- Where the checker's answer of sound code is Yes, each legal history of the code is guarded.
abbrev pub YesIsGuarded : Type 0
YesIsGuarded = (code : Code) → IsSoundCode code → IsVerdict code Yes → IsGuardedCode code

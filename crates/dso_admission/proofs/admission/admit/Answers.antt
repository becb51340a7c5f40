use Rattle.std.proofs.Common.{◌≡◌, ◌≢◌, Result, Err, inl, inr, refl}
use Rattle.dso_base.specs.declared.message.Up.{Up}
use Rattle.dso_base.specs.declared.no_memory.NoMemory.{NoMemory}
use Rattle.dso_session.specs.declared.frame.Frame.{Frame}
use Rattle.dso_wire.specs.declared.fault.WireFault.{WireFault}
use Rattle.dso_wire.specs.declared.fault.WireFault.TheVariants as fault
use Rattle.dso_wire.specs.Faults.{IsAnswer}
use Rattle.dso_admission.proofs.admission.admit.Goals as goal

abbrev failed : WireFault → Result (Frame Up) WireFault
failed why = Err why

same_fault : (why other : WireFault) → failed why ≡ failed other → why ≡ other
same_fault why other e = cc

-- a fault that is no refused allocation is what decoding gives
due_fault : (why : WireFault) (due : Result (Frame Up) WireFault) → IsAnswer (failed why) due
    → ((refused : NoMemory) → why ≢ fault.NoMemory refused) → failed why ≡ due
due_fault why due answer none = elim answer [
  | inl spent ↦ absurd (none spent.0 (same_fault why (fault.NoMemory spent.0) spent.1))
  | inr is ↦ is
]

pub returns-in_ok-refusal-in-Err-clause-told : goal.returns-in_ok-refusal-in-Err-clause-told
returns-in_ok-refusal-in-Err-clause-told c =
    let told = c.in_ok-refusal-in-Err.ensures.told in
    rw (← due_fault c.in-Err.fault _ c.in-Err.ensures.exact told.1) told.0

pub returns-in_ok-refusal-in-Err-clause-after : goal.returns-in_ok-refusal-in-Err-clause-after
returns-in_ok-refusal-in-Err-clause-after c =
    let told = c.in_ok-refusal-in-Err.ensures.told in
    rw (← due_fault c.in-Err.fault _ c.in-Err.ensures.exact told.1) refl

pub returns-in_ok-refusal-in-Err-clause-stands : goal.returns-in_ok-refusal-in-Err-clause-stands
returns-in_ok-refusal-in-Err-clause-stands c = rw c.in_ok-refusal-in-Err.ensures.told.0 c.in_ok-refusal-in-Err.ensures.stands

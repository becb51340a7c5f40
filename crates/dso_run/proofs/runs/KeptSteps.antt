-- A run over a store goes on, and what its store has at the end.
use Rattle.std.proofs.Common.{ℕ, ◌≡◌, inl, inr, ◌+◌, ◌*◌, ◌≤◌, ◌<◌, ◌^◌, sym, ◌∙◌, ap, subst, arith, Bool, Option, Some, List, [], ◌∷◌, Result, Ok, Err, IfOk}
use Rattle.std.proofs.lemmas.List.{append-nil}
use Rattle.dso_base.specs.declared.journal.Entry.{Entry}
use Rattle.dso_base.specs.declared.record.Txn.{Txn}
use Rattle.dso_base.specs.Weight.{entry_weight_of}
use Rattle.dso_class.specs.declared.program.Program.{Program}
use Rattle.dso_keep.specs.declared.fault.KeepFault.{KeepFault}
use Rattle.dso_keep.specs.declared.keep.Keep.{Keep}
use Rattle.dso_legal.specs.Slots.{weight}
use Rattle.dso_world.specs.declared.step.Step.{Step}
use Rattle.dso_world.specs.declared.world.World.{World}
use Rattle.dso_world.specs.WorldStands.{IsChosenStep, IsStepped}
use Rattle.dso_kept.specs.Keeping.{GoesOnByOne}
use Rattle.dso_run.specs.Stepping.{IsTurn}
use Rattle.dso_kept.proofs.keeping.Leaving.{GoOn}
use Rattle.dso_run.proofs.runs.Going.{turn_of}

module _ (program : Program) (seed : Option ℕ) where
  -- a step that is made over a store is one at the chosen slot
  pub kept_turn : (made : Bool) (step : Step) (old same new : World) → same ≡ old → IsChosenStep program seed (Some step) old
      → IsStepped program step made same new → IsTurn program seed made old new
  kept_turn made step old same new is chosen stepped = turn_of program seed made step old new chosen (subst (λ world. IsStepped program step made world new) is stepped)

  pub kept_turn_if_ok : (result : Result (Bool × Keep) KeepFault) (step : Step) (old same new : World) → same ≡ old → IsChosenStep program seed (Some step) old
      → IfOk result (λ made. IsStepped program step made.0 same new) → IfOk result (λ made. IsTurn program seed made.0 old new)
  kept_turn_if_ok (Ok made) step old same new is chosen stepped = kept_turn made.0 step old same new is chosen stepped
  kept_turn_if_ok (Err fault) step old same new is chosen stepped = stepped

-- there is room for the record of the next step
pub room_left : (gate total steps : ℕ) → gate ≤ (2 ^ 32 + 4) * total → total < steps → steps ≤ 4000000 → gate + 2 ^ 32 + 6 < 2 ^ 63
room_left gate total steps room light few = omega (arith, room, light, few)

-- an entry more weighs enough for its record
pub room_more : (gate next : ℕ) (e : Entry) (old new : List Entry) → new ≡ e ∷ old → gate ≤ (2 ^ 32 + 4) * weight old → next ≤ gate + 2 ^ 32 + 4
    → next ≤ (2 ^ 32 + 4) * weight new
room_more gate next e old new is room more =
    let total : weight new ≡ weight old + entry_weight_of e = ap weight is in
    let some : 1 ≤ entry_weight_of e = omega arith in
    omega (arith, total, some, room, more)

-- the records go on
pub records_go_on : (before after : List (ℕ × Txn)) → GoesOnByOne before after → GoOn before after
records_go_on before after (inl same) = ([], same ∙ sym (append-nil before))
records_go_on before after (inr one) = (one.0 ∷ [], one.1)

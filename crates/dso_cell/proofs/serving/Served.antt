-- What a turn of the server that made no entry found.
use Rattle.std.proofs.Common.{ℕ, zero, suc, ◌≡◌, inl, inr, sym, ◌∙◌, ap, subst, false, is_some, List, [], ◌∷◌}
use Rattle.dso_base.specs.declared.both.Both.TheVariants as both
use Rattle.dso_law.specs.ServerReadings.{is_lost}
use Rattle.dso_wire.specs.Spelling.{IsDown, IsFrame, IsUp, down_frame_cells, up_frame_cells}
use Rattle.dso_port.specs.declared.arrival.Arrival.TheVariants as arrival
use Rattle.dso_port.specs.Frames.{TookOne}
use Rattle.dso_port.specs.Ports.{SameEnd, given, taken}
use Rattle.dso_port.proofs.ends.Given.{given_goes_on}
use Rattle.dso_server.specs.declared.server.Server as core
use Rattle.dso_server.specs.Triggers.{AreTriggersOf, break_due_by, loss_due_by}
use Rattle.rtrb.specs.Ring.{known_items}
use Rattle.dso_cell.specs.declared.server_end.ServerEnd.{ServerEnd}
use Rattle.dso_cell.specs.ServerCells.{AreServed, HasNoneDue, IsAnyAtLimit, IsServed, LooksInVainUp}
use Rattle.dso_cell.specs.ServerEnds.{AreGivenDown, ArePassed, HasLookedUp, IsAnyLate, IsGivenDown, IsPassed, OneChanged}
use Rattle.dso_cell.specs.ServerSteps.{HaveNoneDue}

module _ (kept : core.Server) (c : ℕ) (old mid new : ServerEnd) (gives : IsGivenDown mid new) where
  same : SameEnd mid.port.session new.port.session
  same = (given_goes_on both.Down down_frame_cells (IsFrame IsDown) (λ x y same. cc same)).same mid.port.session new.port.session (given mid.port.out) (given new.port.out) gives.gives

  vain : IsPassed old mid → LooksInVainUp old new
  vain (inl nothing) = inl (ap (λ x. known_items x) gives.into ∙ nothing.took.2)
  vain (inr dropped) = inr (dropped.took.frame, subst (λ x. TookOne up_frame_cells (IsFrame IsUp) (taken old.port.into) (taken x) dropped.took.frame) (sym gives.into) dropped.took.took)

  session : IsPassed old mid → mid.port.session ≡ old.port.session
  session (inl nothing) = nothing.took.0
  session (inr dropped) = dropped.took.heard

  triggers : IsPassed old mid → mid.triggers ≡ old.triggers
  triggers (inl nothing) = nothing.triggers
  triggers (inr dropped) = dropped.triggers

  still : IsPassed old mid → HasNoneDue kept c old → HasNoneDue kept c new
  still passed none = λ p es stands losses breaks its.
      let accepted = same.accepted ∙ ap (λ x. x.accepted) (session passed) in
      let epoch = same.epoch ∙ ap (λ x. x.epoch) (session passed) in
      let none = none p es stands losses breaks (subst (λ t. AreTriggersOf c losses breaks t) (gives.triggers ∙ triggers passed) its) in (
        subst (λ n. loss_due_by c n (is_lost c es) losses ≡ false) (sym accepted) none.0,
        subst (λ n. break_due_by c n (is_lost c es) false new.port.session.epoch breaks ≡ false) (sym accepted)
            (subst (λ n. break_due_by c old.port.session.accepted (is_lost c es) false n breaks ≡ false) (sym epoch) none.1),
      )

  served : IsPassed old mid → HasNoneDue kept c old → IsServed kept c old new
  served passed none = record { takes = vain passed; triggers = still passed none; gives = gives.all }

pub all_served : (kept : core.Server) (c : ℕ) (olds mids news : List ServerEnd) → ArePassed olds mids → HaveNoneDue kept c olds → AreGivenDown mids news → AreServed kept c olds news
all_served kept c [] [] [] passed none gives = tt
all_served kept c [] [] (new ∷ news) passed none gives = absurd gives
all_served kept c [] (mid ∷ mids) news passed none gives = absurd passed
all_served kept c (old ∷ olds) [] news passed none gives = absurd passed
all_served kept c (old ∷ olds) (mid ∷ mids) [] passed none gives = absurd gives
all_served kept c (old ∷ olds) (mid ∷ mids) (new ∷ news) passed none gives =
    (served kept c old mid new gives.0 passed.0 none.0, all_served kept (suc c) olds mids news passed.1 none.1 gives.1)

-- ---- a message at the limit
pub late_found : (place : ℕ) (olds news : List ServerEnd) → OneChanged (HasLookedUp arrival.Late) place olds news → IsAnyLate news
late_found zero [] news one = absurd one
late_found zero (old ∷ olds) [] one = absurd one
late_found zero (old ∷ olds) (new ∷ news) one = inl one.0.late
late_found (suc place) [] news one = absurd one
late_found (suc place) (old ∷ olds) [] one = absurd one
late_found (suc place) (old ∷ olds) (new ∷ news) one = inr (late_found place olds news one.1)

pub late_given : (olds news : List ServerEnd) → AreGivenDown olds news → IsAnyLate olds → IsAnyAtLimit news
late_given [] [] gives any = absurd any
late_given [] (new ∷ news) gives any = absurd gives
late_given (old ∷ olds) [] gives any = absurd gives
late_given (old ∷ olds) (new ∷ news) gives (inl late) = inl (inl (ap is_some gives.0.late ∙ late))
late_given (old ∷ olds) (new ∷ news) gives (inr any) = inr (late_given olds news gives.1 any)

-- What was given to a ring goes on: it is of what the end sent.
use Rattle.std.specs.Prelude.{ℕ, List}
use Rattle.dso_base.specs.declared.both.Both.{Both}
use Rattle.dso_session.specs.declared.frame.Frame.{Frame}
use Rattle.dso_session.specs.declared.session.Posted.{Posted}
use Rattle.dso_session.specs.Ends.{End}
use Rattle.dso_wire.specs.Cells.{Cell}
use Rattle.dso_port.specs.Ports.{EndGave, HasGiven, SameEnd}

-- Given: whatever messages an end sent and whatever frames of them it gave, with those that it gives now they are
-- frames of what it sent, and no more Hellos; and nothing else of the end changes.
pub record GivenGoesOn {M : Type 0} (as_both : M → Both) (cells : Frame M → List Cell) (Is : Frame M → Type 0)
    : Type 0 where
  pub goes_on : (old new : End Both) (before after : List (List ℕ)) → HasGiven as_both cells Is old new before after
      → (posts : List (Posted M)) (greetings : ℕ) → EndGave as_both cells Is posts greetings old before
      → EndGave as_both cells Is posts greetings new after
  pub same : (old new : End Both) (before after : List (List ℕ)) → HasGiven as_both cells Is old new before after
      → SameEnd old new

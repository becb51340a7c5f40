use Rattle.dso_base.specs.declared.both.Both.TheVariants as both
use Rattle.dso_wire.specs.Spelling.{IsDown, IsFrame, IsUp, down_frame_cells, up_frame_cells}
use Rattle.dso_port.proofs.ends.Given.{given_goes_on}
use Rattle.dso_port.proofs.laws.given_goes_on.Goals as goal

pub returns-clause-up : goal.returns-clause-up
returns-clause-up c = given_goes_on both.Up up_frame_cells (IsFrame IsUp) (λ x y same. cc same)

pub returns-clause-down : goal.returns-clause-down
returns-clause-down c = given_goes_on both.Down down_frame_cells (IsFrame IsDown) (λ x y same. cc same)

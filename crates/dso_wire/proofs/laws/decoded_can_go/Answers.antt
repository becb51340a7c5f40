use Rattle.dso_wire.proofs.Going.{up_frame_goes, down_frame_goes, record_goes}
use Rattle.dso_wire.proofs.laws.decoded_can_go.Goals as goal

pub returns-clause-up : goal.returns-clause-up
returns-clause-up c = up_frame_goes

pub returns-clause-down : goal.returns-clause-down
returns-clause-down c = down_frame_goes

pub returns-clause-record_too : goal.returns-clause-record_too
returns-clause-record_too c = record_goes

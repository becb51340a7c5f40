use Rattle.std.proofs.Common.{refl}
use Rattle.dso_wire.specs.Spelling.{IsFrame, IsUp, IsDown, IsRecord, record_cells, up_cells, down_cells, up_frame_cells, down_frame_cells}
use Rattle.dso_wire.specs.Reading.{record_at, up_at, down_at, up_frame_at, down_frame_at}
use Rattle.dso_wire.proofs.Grammar.{frame_exact, up_exact, down_exact, record_exact}
use Rattle.dso_wire.proofs.Meaning.{one_spelled}
use Rattle.dso_wire.proofs.laws.one_frame.Goals as goal

pub returns-clause-up : goal.returns-clause-up
returns-clause-up c = one_spelled up_frame_at up_frame_cells (IsFrame IsUp) (frame_exact up_at up_cells IsUp up_exact 1 refl refl)

pub returns-clause-down : goal.returns-clause-down
returns-clause-down c = one_spelled down_frame_at down_frame_cells (IsFrame IsDown) (frame_exact down_at down_cells IsDown down_exact 2 refl refl)

pub returns-clause-record_too : goal.returns-clause-record_too
returns-clause-record_too c = one_spelled record_at record_cells IsRecord record_exact

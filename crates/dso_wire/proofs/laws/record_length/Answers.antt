use Rattle.dso_wire.proofs.Lengths.{is_short}
use Rattle.dso_wire.proofs.laws.record_length.Goals as goal

pub returns : goal.returns
returns c = is_short

use Rattle.std.proofs.Common.{arith, refl}
use Rattle.dso_wire.specs.Spelling.{IsFrame, IsUp, up_cells, up_frame_cells}
use Rattle.dso_wire.specs.Reading.{up_at, up_frame_at}
use Rattle.dso_wire.proofs.Grammar.{frame_exact, up_exact}
use Rattle.dso_wire.proofs.Meaning.{means, only}
use Rattle.dso_wire.proofs.coding.decode_up.Goals as goal

pub returns-clause-means : goal.returns-clause-means
returns-clause-means c = means up_frame_at up_frame_cells (IsFrame IsUp) (frame_exact up_at up_cells IsUp up_exact 1 refl refl) c.args.bytes.now c.whole_frame.result (λ i. omega (arith, c.type_inv.bytes i)) c.whole_frame.ensures

pub returns-clause-only : goal.returns-clause-only
returns-clause-only c = λ frame is same. only up_frame_at up_frame_cells (IsFrame IsUp) (frame_exact up_at up_cells IsUp up_exact 1 refl refl) c.args.bytes.now c.whole_frame.result frame c.whole_frame.ensures is same

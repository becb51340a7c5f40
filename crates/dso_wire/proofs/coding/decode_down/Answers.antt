use Rattle.std.proofs.Common.{arith, refl}
use Rattle.dso_wire.specs.Spelling.{IsFrame, IsDown, down_cells, down_frame_cells}
use Rattle.dso_wire.specs.Reading.{down_at, down_frame_at}
use Rattle.dso_wire.proofs.Grammar.{frame_exact, down_exact}
use Rattle.dso_wire.proofs.Meaning.{means, only}
use Rattle.dso_wire.proofs.coding.decode_down.Goals as goal

pub returns-clause-means : goal.returns-clause-means
returns-clause-means c = means down_frame_at down_frame_cells (IsFrame IsDown) (frame_exact down_at down_cells IsDown down_exact 2 refl refl) c.args.bytes.now c.whole_frame.result (λ i. omega (arith, c.type_inv.bytes i)) c.whole_frame.ensures

pub returns-clause-only : goal.returns-clause-only
returns-clause-only c = λ frame is same. only down_frame_at down_frame_cells (IsFrame IsDown) (frame_exact down_at down_cells IsDown down_exact 2 refl refl) c.args.bytes.now c.whole_frame.result frame c.whole_frame.ensures is same

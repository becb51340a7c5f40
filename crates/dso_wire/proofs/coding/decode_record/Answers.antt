use Rattle.std.proofs.Common.{arith}
use Rattle.dso_wire.specs.Spelling.{IsRecord, record_cells}
use Rattle.dso_wire.specs.Reading.{record_at}
use Rattle.dso_wire.proofs.Grammar.{record_exact}
use Rattle.dso_wire.proofs.Meaning.{means, only}
use Rattle.dso_wire.proofs.coding.decode_record.Goals as goal

pub returns-clause-means : goal.returns-clause-means
returns-clause-means c = means record_at record_cells IsRecord record_exact c.args.bytes.now c.whole_record.result (λ i. omega (arith, c.type_inv.bytes i)) c.whole_record.ensures

pub returns-clause-only : goal.returns-clause-only
returns-clause-only c = λ txn is same. only record_at record_cells IsRecord record_exact c.args.bytes.now c.whole_record.result txn c.whole_record.ensures is same

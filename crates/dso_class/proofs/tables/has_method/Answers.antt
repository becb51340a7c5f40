use Rattle.dso_class.proofs.gathering.Callees.{method_where}
use Rattle.dso_class.proofs.tables.has_method.Goals as goal

pub returns : goal.returns
returns c source are = method_where source.ast c.args.name c.args.tables.now c.row.result.now c.is_empty.result are c.row.ensures c.is_empty.ensures

use Rattle.dso_lookup.proofs.RowChanges.{row_taken}
use Rattle.dso_lookup.proofs.rows.is_row_taken.Goals as goal

pub returns-in-Some : goal.returns-in-Some
returns-in-Some g c = row_taken g.J.Ord.cmp g.met.K.Ord.total c.args.rows.now c.in-Some.row.now c.args.at.now c.is_empty.result c.is_empty.ensures c.in-Some.ensures.value

use Rattle.std.proofs.Common.{None}
use Rattle.dso_lookup.proofs.MapChanges.{changed_by}
use Rattle.dso_lookup.proofs.RowsInPlace.{row_dropped}
use Rattle.dso_lookup.proofs.rows_in_place.drop_empty.Goals as goal

pub returns-then-is_row_empty : goal.returns-then-is_row_empty
returns-then-is_row_empty g c = row_dropped g.met.J.Ord.total g.K.Ord.cmp c.args.rows.now c.remove.new.self c.args.at.now (c.is_row_empty.ensures.0 c.if-is_row_empty.true) (changed_by g.J.Ord.cmp c.args.rows.now c.remove.new.self c.args.at.now None c.remove.ensures.updates)

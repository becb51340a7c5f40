use Rattle.dso_lookup.specs.Maps.{look}
use Rattle.dso_plain.specs.HeapTables.{field_order}
use Rattle.dso_plain.proofs.table_changes.NewAndPut.{own_put}
use Rattle.dso_plain.proofs.writes.put_own.Goals as goal

pub returns-clause-state : goal.returns-clause-state
returns-clause-state c = own_put c.args.thread c.args.set.object c.args.set.field c.args.set.value c.args.tables.now (look field_order c.put.new.map) c.in_ok-put.ensures

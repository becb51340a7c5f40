use Rattle.dso_lookup.specs.Maps.{look}
use Rattle.dso_plain.specs.HeapTables.{field_order, view_order, pasts_of}
use Rattle.dso_plain.proofs.table_changes.NewAndPut.{shared_put}
use Rattle.dso_plain.proofs.writes.put_shared.Goals as goal

pub returns-clause-state : goal.returns-clause-state
returns-clause-state c = shared_put c.args.thread c.args.set.object c.args.set.field c.args.set.value c.past_length-place.result c.args.tables.now c.publish.new.tables (pasts_of c.push_at.new.map) (look field_order c.put.new.map) (look view_order c.put-2.new.map) c.requires.shared c.past_length-place.ensures c.in_ok-publish.ensures.state c.in_ok-push_at.ensures c.in_ok-put.ensures c.in_ok-put-2.ensures

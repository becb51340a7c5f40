use Rattle.std.specs.Ordering.{nat_cmp}
use Rattle.dso_lookup.specs.Maps.{look}
use Rattle.dso_lookup.specs.Orders.{thread_order}
use Rattle.dso_plain.specs.HeapTables.{field_order}
use Rattle.dso_lookup.specs.Lists.{lists_of}
use Rattle.dso_plain.proofs.table_changes.NewAndPut.{object_made}
use Rattle.dso_plain.proofs.writes.make_object.Goals as goal

pub returns-clause-state : goal.returns-clause-state
returns-clause-state c = object_made c.args.shape.now c.args.thread c.args.made.class c.args.made.size c.args.made.id c.args.tables.now c.requires.past c.requires.absent (look nat_cmp c.put.new.map) (lists_of thread_order c.push_at.new.map) (look field_order c.make_fields.new.heap) c.in_ok-put.ensures c.in_ok-push_at.ensures c.in_ok-make_fields.ensures

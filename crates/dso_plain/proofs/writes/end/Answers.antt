use Rattle.std.proofs.Common.{Some}
use Rattle.std.specs.BTreeMap.{is_at}
use Rattle.dso_base.specs.Following.{is_thread}
use Rattle.dso_lookup.specs.Maps.{look}
use Rattle.dso_lookup.specs.Orders.{thread_order}
use Rattle.dso_plain.specs.HeapTables.{state_of}
use Rattle.dso_plain.proofs.keys.TableOrders.{thread_at}
use Rattle.dso_plain.proofs.keys.Writes.{renamed}
use Rattle.dso_plain.proofs.writes.end.Goals as goal

pub returns-clause-state : goal.returns-clause-state
returns-clause-state c =
    let t = c.args.thread in
    let e = renamed (is_at (thread_order t)) (is_thread t) (Some c.args.fault) (look thread_order c.args.tables.now.ended) (look thread_order c.put.new.map) (thread_at t) c.in_ok-put.ensures in
    λ i. record (state_of c.args.tables.now) { ended = e i }

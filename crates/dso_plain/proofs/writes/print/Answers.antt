use Rattle.std.proofs.Common.{◌≡◌, ◌∷◌, subst}
use Rattle.std.specs.BTreeMap.{is_at}
use Rattle.dso_base.specs.Following.{is_thread}
use Rattle.dso_lookup.specs.Lists.{lists_of}
use Rattle.dso_lookup.specs.Maps.{writes, written}
use Rattle.dso_lookup.specs.Orders.{thread_order}
use Rattle.dso_lookup.proofs.RowsInPlace.{written_through}
use Rattle.dso_plain.specs.HeapTables.{state_of}
use Rattle.dso_plain.proofs.keys.TableOrders.{thread_at}
use Rattle.dso_plain.proofs.keys.Writes.{renamed}
use Rattle.dso_plain.proofs.table_changes.Printed.{printed_more}
use Rattle.dso_plain.proofs.writes.print.Goals as goal

pub returns-in_ok-push-in-Some-clause-state : goal.returns-in_ok-push-in-Some-clause-state
returns-in_ok-push-in-Some-clause-state c =
    let t = c.args.thread in
    let old = c.args.tables.now.output in
    let printed = c.in-Some.printed.now in
    let more = c.push.new.self in
    let new = c.get_mut.follows.lender more in
    let puts = written_through thread_order old new t printed more (c.get_mut.follows.holds more) c.in-Some.ensures.value in
    let e = printed_more t old new printed more c.args.value c.in-Some.ensures.value c.in_ok-push-in-Some.ensures.ok puts in
    λ i. record (state_of c.args.tables.now) { output = e i }

pub returns-in_ok-push_at-in-None-clause-state : goal.returns-in_ok-push_at-in-None-clause-state
returns-in_ok-push_at-in-None-clause-state c =
    let t = c.args.thread in
    let old = c.args.tables.now.output in
    let pushes = subst (λ table. lists_of thread_order c.push_at.new.map ≡ written (writes (is_at (thread_order t)) (λ _. c.args.value ∷ lists_of thread_order table t)) (lists_of thread_order table)) c.get_mut.follows.holds-at-none c.in_ok-push_at-in-None.ensures in
    let e = renamed (is_at (thread_order t)) (is_thread t) (c.args.value ∷ lists_of thread_order old t) (lists_of thread_order old) (lists_of thread_order c.push_at.new.map) (thread_at t) pushes in
    λ i. record (state_of c.args.tables.now) { output = e i }

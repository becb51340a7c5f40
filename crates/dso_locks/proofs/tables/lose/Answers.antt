use Rattle.std.proofs.Common.{◌≡◌, [], Some, ap, sym, subst}
use Rattle.std.proofs.lemmas.List.Elements.{recursion_from_All}
use Rattle.std.proofs.lemmas.Map.Iter.{rest_more, rest_all}
use Rattle.std.specs.Map.Iter.{deref_pair}
use Rattle.dso_locks.specs.Locks.{lost_by, messages_of}
use Rattle.dso_locks.proofs.Losing.{IsUnderWay, starts, goes_on, ends}
use Rattle.dso_locks.proofs.Placing.{placed_as}
use Rattle.dso_locks.proofs.Telling.{one_changes, unused_lost}
use Rattle.dso_lookup.specs.Maps.{look}
use Rattle.dso_lookup.specs.Orders.{lock_order}
use Rattle.dso_locks.proofs.tables.lose.Goals as goal

pub loop-place-init : goal.loop-place-init
loop-place-init c =
    let gives = c.into_iter-place-iterator.ensures.into_iter_gives in
    let found = recursion_from_All (λ e. look lock_order c.args.index.now e.0 ≡ Some e.1) c.args.index.now.entries gives.6 in
    let none = ap (λ told. messages_of told) (sym c.requires.new) in
    subst (λ sent. IsUnderWay (lost_by c.args.client) c.args.index.now c.args.locks.now c.args.locks.now c.into_iter-place-iterator.result sent) none
    (subst (λ rest. IsUnderWay (lost_by c.args.client) c.args.index.now c.args.locks.now c.args.locks.now rest []) (sym gives.0) (starts (lost_by c.args.client) c.args.index.now c.args.locks.now found))

pub loop-place-preserved : goal.loop-place-preserved
loop-place-preserved c =
    let all = rest_more deref_pair c.loop-place.place-iterator c.next.new.self c.next.result (c.in-Some.field-0-0, c.in-Some.place) c.in-Some.is c.next.ensures.steps in
    let so_far = subst (λ rest. IsUnderWay (lost_by c.args.client) c.args.index.now c.args.locks.now c.loop-place.locks rest (messages_of c.loop-place.told.items)) all c.loop-place.invariant in
    let placed = placed_as c.args.index.now c.args.locks.now c.loop-place.locks so_far.names c.requires.placed in
    goes_on (lost_by c.args.client) c.args.index.now c.args.locks.now c.loop-place.locks c.change_at.new.locks c.in-Some.field-0-0.now c.in-Some.place.now c.next.new.self (messages_of c.loop-place.told.items) (messages_of c.change_at.new.told.items) c.requires.placed.ordered so_far c.change_at.ensures.changes.names
    (one_changes c.args.index.now c.loop-place.locks c.change_at.new.locks c.in-Some.field-0-0.now c.in-Some.place.now (lost_by c.args.client) (messages_of c.loop-place.told.items) (messages_of c.change_at.new.told.items) placed so_far.found.0 c.change_at.ensures.changes c.in_ok-change_at.ensures.served)

pub returns-in_err-change_at-clause-placed : goal.returns-in_err-change_at-clause-placed
returns-in_err-change_at-clause-placed c =
    let placed = placed_as c.args.index.now c.args.locks.now c.loop-place.locks c.loop-place.invariant.names c.requires.placed in
    placed_as c.args.index.now c.loop-place.locks c.change_at.new.locks c.change_at.ensures.changes.names placed

pub returns-clause-placed : goal.returns-clause-placed
returns-clause-placed c = placed_as c.args.index.now c.args.locks.now c.loop-place.locks c.loop-place.invariant.names c.requires.placed

pub returns-clause-told : goal.returns-clause-told
returns-clause-told c =
    let none = rest_all deref_pair c.loop-place.place-iterator c.next.new.self c.next.result c.in-None.is c.next.ensures.steps in
    ends (lost_by c.args.client) c.args.index.now c.args.locks.now c.loop-place.locks c.loop-place.told.items (unused_lost c.args.client) (subst (λ rest. IsUnderWay (lost_by c.args.client) c.args.index.now c.args.locks.now c.loop-place.locks rest (messages_of c.loop-place.told.items)) none c.loop-place.invariant)

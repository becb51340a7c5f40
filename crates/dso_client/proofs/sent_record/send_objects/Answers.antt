use Rattle.std.proofs.Common.{◌≡◌, ◌<◌, ◌∙◌, ap, subst, arith, true, false, Some, length, get_or}
use Rattle.dso_base.specs.declared.record.Body.{Body}
use Rattle.dso_base.specs.declared.record.Set.{Set}
use Rattle.dso_base.specs.declared.value.Value.TheVariants.{Null}
use Rattle.dso_change.specs.Hands.{has_field}
use Rattle.dso_table.specs.States.{body_of, put, set}
use Rattle.dso_table.specs.ObjectTables.{state_in}
use Rattle.dso_client.proofs.sent.Loops.{IsSoFar, body_so_far, set_so_far, all_so_far}
use Rattle.dso_client.proofs.sent_record.send_objects.Goals as goal

pub loop-body-preserved : goal.loop-body-preserved
loop-body-preserved c =
    let txn = c.args.txn.now in
    let i = c.loop-body.body-index in
    let item = c.body-item.result in
    let items = c.as_slice-body-items.ensures in
    let less : i < length txn.news = omega (arith, c.loop-body-test.true, ap length items) in
    let is : item ≡ get_or txn.news i item = cc (c.body-item.is, items) in
    body_so_far txn i item c.args.table.now c.loop-body.table c.put_object.new.self less c.loop-body.invariant
    (c.in_ok-put_object.ensures.ok ∙ ap (λ body. put body (Some txn.seq) (state_in c.loop-body.table)) is)

pub loop-set-init : goal.loop-set-init
loop-set-init c =
    let txn = c.args.txn.now in
    let items = ap length c.as_slice-body-items.ensures in
    let all : c.loop-body.body-index ≡ length txn.news = omega (arith, c.loop-body-test.false, c.loop-body.auto.body-index-end, items) in
    subst (λ n. IsSoFar txn n 0 c.args.table.now c.loop-body.table) all c.loop-body.invariant

pub loop-set-preserved : goal.loop-set-preserved
loop-set-preserved c =
    let txn = c.args.txn.now in
    let i = c.loop-set.set-index in
    let mid = c.loop-set.table in
    let new = c.send_set.new.table in
    let none : Set = record { object = 0; field = 0; value = Null } in
    let items = c.as_slice-set-items.ensures in
    let less : i < length txn.sets = omega (arith, c.loop-set-test.true, ap length items) in
    set_so_far txn (length txn.news) i none c.args.table.now mid new less c.loop-set.invariant
    (subst (λ xs. has_field (get_or xs i none).field (body_of ((state_in mid).standing (get_or xs i none).object)) ≡ true → state_in new ≡ set (get_or xs i none) (Some txn.seq) (state_in mid)) items
    c.in_ok-send_set.ensures.written)
    (subst (λ xs. (copy : Body) → body_of ((state_in mid).standing (get_or xs i none).object) ≡ Some copy → has_field (get_or xs i none).field (Some copy) ≡ false
    → state_in new ≡ put copy (Some txn.seq) (state_in mid)) items c.in_ok-send_set.ensures.marked)

pub returns : goal.returns
returns c =
    let txn = c.args.txn.now in
    let items = ap length c.as_slice-set-items.ensures in
    let all : c.loop-set.set-index ≡ length txn.sets = omega (arith, c.loop-set-test.false, c.loop-set.auto.set-index-end, items) in
    all_so_far txn c.args.table.now c.loop-set.table (subst (λ n. IsSoFar txn (length txn.news) n c.args.table.now c.loop-set.table) all c.loop-set.invariant)

use Rattle.std.proofs.Common.{◌≡◌, ◌∙◌, Some, ap, arith}
use Rattle.dso_base.specs.Shape.{kind_of}
use Rattle.dso_plain.specs.KeyTests.{is_field}
use Rattle.dso_lookup.specs.Maps.{look, writes, written}
use Rattle.std.specs.BTreeMap.{is_at}
use Rattle.dso_base.specs.Block.{opening_value}
use Rattle.dso_plain.specs.HeapTables.{field_order}
use Rattle.dso_plain.proofs.keys.TableOrders.{field_at}
use Rattle.dso_plain.proofs.keys.Writes.{renamed, one_more}
use Rattle.dso_plain.proofs.fields.make_fields.Goals as goal

pub loop-field-preserved : goal.loop-field-preserved
loop-field-preserved c =
    let o = c.args.object in
    let f = c.loop-field.field in
    let puts = renamed (is_at (field_order (o, f))) (is_field o f) (Some c.opening_value-opening.result) (look field_order c.loop-field.heap) (look field_order c.put.new.map) (field_at o f) c.in_ok-put.ensures in
    one_more o f (λ key. Some (opening_value (kind_of c.args.shape.now c.args.class key.1))) (look field_order c.args.heap.now) (look field_order c.loop-field.heap) (look field_order c.put.new.map) c.loop-field.invariant (puts ∙ ap (λ x. written (writes (is_field o f) (λ _. Some x)) (look field_order c.loop-field.heap)) (c.opening_value-opening.ensures ∙ ap (λ k. opening_value k) c.kind.ensures))

pub returns : goal.returns
returns c =
    let e : c.loop-field.field ≡ c.args.size = omega arith in
    rw (← e) c.loop-field.invariant

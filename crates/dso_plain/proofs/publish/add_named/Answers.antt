use Rattle.std.proofs.Common.{◌≡◌, ◌+◌, ◌||◌, suc, subst, arith}
use Rattle.dso_lookup.specs.Maps.{look}
use Rattle.dso_lookup.specs.Search.{is_listed}
use Rattle.dso_plain.specs.After.{names_below}
use Rattle.dso_plain.specs.HeapTables.{field_order}
use Rattle.dso_plain.proofs.publishing.FieldsName.{named_none, named_next}
use Rattle.dso_plain.proofs.publish.add_named.Goals as goal

pub loop-field-init : goal.loop-field-init
loop-field-init c = λ o. named_none (look field_order c.args.heap.now) c.args.object o c.args.named.now.items

pub loop-field-preserved : goal.loop-field-preserved
loop-field-preserved c =
    let heap = look field_order c.args.heap.now in
    let e : suc c.loop-field.field ≡ c.loop-field.field + 1 = omega arith in
    λ o. subst (λ n. is_listed o c.add_field.new.named.items ≡ (is_listed o c.args.named.now.items || names_below heap n c.args.object o)) e (named_next heap c.args.object c.loop-field.field o c.args.named.now.items c.loop-field.named.items c.add_field.new.named.items (c.loop-field.invariant o) (c.in_ok-add_field.ensures o))

pub returns : goal.returns
returns c =
    let e : c.loop-field.field ≡ c.args.size = omega arith in
    rw (← e) c.loop-field.invariant

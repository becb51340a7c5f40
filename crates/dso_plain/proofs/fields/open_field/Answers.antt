use Rattle.std.proofs.Common.{◌∙◌, Some, None, ap, reverse}
use Rattle.std.specs.BTreeMap.{is_at}
use Rattle.dso_plain.specs.KeyTests.{is_field}
use Rattle.dso_lookup.specs.Maps.{writes, written, look}
use Rattle.dso_plain.specs.After.{present}
use Rattle.dso_plain.specs.HeapTables.{field_order, pasts_of}
use Rattle.dso_lookup.specs.Lists.{newest_first}
use Rattle.dso_plain.proofs.keys.TableOrders.{field_at}
use Rattle.dso_plain.proofs.keys.Writes.{through}
use Rattle.dso_plain.proofs.fields.open_field.Goals as goal

pub returns-in-Some : goal.returns-in-Some
returns-in-Some c =
    let o = c.args.object in
    let f = c.args.field in
    through newest_first (is_at (field_order (o, f))) (is_field o f) (Some c.in_ok-single.field-0) (look field_order c.args.past.now) (look field_order c.put.new.map) (field_at o f) c.in_ok-put.ensures ∙ ap (λ x. written (writes (is_field o f) (λ _. x)) (pasts_of c.args.past.now)) (ap (λ x. reverse x) c.in_ok-single.ensures ∙ ap (λ v. present v) c.in-Some.ensures.value)

pub returns : goal.returns
returns c =
    let o = c.args.object in
    let f = c.args.field in
    through newest_first (is_at (field_order (o, f))) (is_field o f) None (look field_order c.args.past.now) (look field_order c.take.new.map) (field_at o f) c.take.ensures.gone ∙ ap (λ x. written (writes (is_field o f) (λ _. x)) (pasts_of c.args.past.now)) (ap (λ v. present v) c.in_default.ensures.value)

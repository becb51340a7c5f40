use Rattle.std.proofs.Common.{◌≡◌, arith}
use Rattle.dso_lookup.specs.Maps.{look}
use Rattle.dso_plain.specs.After.{present}
use Rattle.dso_plain.specs.HeapTables.{field_order, pasts_of}
use Rattle.dso_plain.proofs.keys.Writes.{one_more}
use Rattle.dso_plain.proofs.fields.open_fields.Goals as goal

pub loop-field-preserved : goal.loop-field-preserved
loop-field-preserved c = one_more c.args.object c.loop-field.field (λ key. present (look field_order c.args.heap.now key)) (pasts_of c.args.past.now) (pasts_of c.loop-field.past) (pasts_of c.open_field.new.past) c.loop-field.invariant c.in_ok-open_field.ensures

pub returns : goal.returns
returns c =
    let e : c.loop-field.field ≡ c.args.size = omega arith in
    rw (← e) c.loop-field.invariant

use Rattle.std.proofs.Common.{◌≡◌, Some}
use Rattle.dso_base.specs.Shape.{kind_of}
use Rattle.dso_lookup.specs.Maps.{writes, written, look}
use Rattle.dso_base.specs.Block.{opening_value}
use Rattle.dso_plain.specs.HeapTables.{field_order, is_below}
use Rattle.dso_plain.proofs.fields.make_fields.Given as goal

abbrev pub invariant-loop-field : goal.invariant-loop-field
invariant-loop-field l = look field_order l.heap ≡ written (writes (is_below l.object l.field) (λ key. Some (opening_value (kind_of l.shape l.class key.1)))) (look field_order l.initial.heap)

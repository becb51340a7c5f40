use Rattle.std.proofs.Common.{◌≡◌}
use Rattle.dso_lookup.specs.Maps.{writes, written, look}
use Rattle.dso_plain.specs.After.{present}
use Rattle.dso_plain.specs.HeapTables.{field_order, pasts_of, is_below}
use Rattle.dso_plain.proofs.fields.open_fields.Given as goal

abbrev pub invariant-loop-field : goal.invariant-loop-field
invariant-loop-field l = pasts_of l.past ≡ written (writes (is_below l.object l.field) (λ key. present (look field_order l.heap key))) (pasts_of l.initial.past)

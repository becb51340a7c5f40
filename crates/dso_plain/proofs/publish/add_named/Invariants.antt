use Rattle.std.proofs.Common.{ℕ, ◌≡◌, ◌||◌}
use Rattle.dso_lookup.specs.Maps.{look}
use Rattle.dso_lookup.specs.Search.{is_listed}
use Rattle.dso_plain.specs.After.{names_below}
use Rattle.dso_plain.specs.HeapTables.{field_order}
use Rattle.dso_plain.proofs.publish.add_named.Given as goal

abbrev pub invariant-loop-field : goal.invariant-loop-field
invariant-loop-field l = (o : ℕ) → is_listed o l.named.items ≡ (is_listed o l.initial.named.items || names_below (look field_order l.heap) l.field l.object o)

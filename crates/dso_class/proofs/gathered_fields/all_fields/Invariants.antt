use Rattle.std.proofs.Common.{◌≡◌, ◌≤◌, length, take}
use Rattle.dso_class.specs.Gathered.{all_fields, AreFieldRows}
use Rattle.dso_class.proofs.gathered_fields.all_fields.Given as goal

-- the fields of the classes so far
abbrev pub invariant-loop-item : goal.invariant-loop-item
invariant-loop-item l = (l.class ≡ length (all_fields (take l.item-index l.items))) × (l.class ≤ l.item-index) × AreFieldRows (all_fields (take l.item-index l.items)) l.rows

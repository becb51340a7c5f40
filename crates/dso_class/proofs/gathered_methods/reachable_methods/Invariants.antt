use Rattle.std.proofs.Common.{◌≡◌, length, take}
use Rattle.dso_class.specs.Declarations.{classes_of, all_methods}
use Rattle.dso_class.specs.Gathered.{AreMethodRows, capped}
use Rattle.dso_class.proofs.gathered_methods.reachable_methods.Given as goal

-- the methods of the classes so far
abbrev pub invariant-loop-item : goal.invariant-loop-item
invariant-loop-item l = (l.class ≡ capped (length (classes_of (take l.item-index l.items)))) × (l.number ≡ capped (length (all_methods (take l.item-index l.items))))
    × AreMethodRows (all_methods (take l.item-index l.items)) l.rows

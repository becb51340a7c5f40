use Rattle.std.proofs.Common.{◌≡◌, ◌++◌, All, take}
use Rattle.std.specs.List.{flat_map}
use Rattle.dso_wire.specs.Cells.{bytes_of}
use Rattle.dso_wire.proofs.lists.put_each.Given as goal

-- the bytes of the items so far stand behind what stood before, and each of them is what it is
abbrev pub invariant-loop-item : goal.invariant-loop-item
invariant-loop-item g l = record {
  spelled : l.bytes.items ≡ l.fn.bytes.items ++ flat_map (λ item. bytes_of (g.T.Wire.cells item)) (take l.item-index l.items);
  each : All g.T.Wire.is (take l.item-index l.items);
}

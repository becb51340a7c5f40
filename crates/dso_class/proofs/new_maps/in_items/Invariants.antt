use Rattle.std.proofs.Common.{◌≡◌, flat_map, take}
use Rattle.dso_class.specs.Maps.{make_map}
use Rattle.dso_class.specs.Mentions.{of_item}
use Rattle.dso_class.proofs.new_maps.in_items.Given as goal

-- whether one of the classes and threads so far makes a map
abbrev pub invariant-loop-item : goal.invariant-loop-item
invariant-loop-item l = l.makes ≡ make_map (flat_map of_item (take l.item-index l.items))

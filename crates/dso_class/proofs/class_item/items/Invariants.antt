use Rattle.std.proofs.Common.{flat_map, take, Ok}
use Rattle.dso_class.specs.Mentions.{of_item}
use Rattle.dso_class.specs.TextWalk.{WalksItems}
use Rattle.dso_class.proofs.class_item.items.Given as goal

-- the items so far are there in numbers
abbrev pub invariant-loop-item : goal.invariant-loop-item
invariant-loop-item l = WalksItems l.setting (flat_map of_item (take l.item-index l.items)) (take l.item-index l.items) l.initial.resolved l.resolved (Ok tt)

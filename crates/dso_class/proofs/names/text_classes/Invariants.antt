use Rattle.std.proofs.Common.{◌≡◌, take}
use Rattle.dso_class.specs.Declarations.{class_names}
use Rattle.dso_class.proofs.names.text_classes.Given as goal

-- what is there so far
abbrev pub invariant-loop-item : goal.invariant-loop-item
invariant-loop-item l = l.words ≡ class_names (take l.item-index l.items)

use Rattle.std.proofs.Common.{◌≡◌, take}
use Rattle.dso_class.specs.Declarations.{all_statics}
use Rattle.dso_class.proofs.names.root_words.Given as goal

-- what is there so far
abbrev pub invariant-loop-item : goal.invariant-loop-item
invariant-loop-item l = l.roots ≡ all_statics (take l.item-index l.items)

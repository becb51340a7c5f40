use Rattle.std.proofs.Common.{◌≡◌, take}
use Rattle.dso_class.specs.Symbols.{field_words}
use Rattle.dso_class.proofs.names.rows_of_fields.Given as goal

-- what is there so far
abbrev pub invariant-loop-item : goal.invariant-loop-item
invariant-loop-item l = l.rows ≡ field_words (take l.item-index l.items)

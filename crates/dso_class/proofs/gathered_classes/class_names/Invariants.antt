use Rattle.std.proofs.Common.{take}
use Rattle.dso_class.specs.Declarations.{class_names}
use Rattle.dso_config_entries.specs.BorrowedWords.{words_of}
use Rattle.dso_config_entries.specs.LastAndFirst.{AreFirsts}
use Rattle.dso_class.proofs.gathered_classes.class_names.Given as goal

-- the names of the classes so far
abbrev pub invariant-loop-item : goal.invariant-loop-item
invariant-loop-item l = AreFirsts (class_names (take l.item-index l.items)) (words_of l.names)

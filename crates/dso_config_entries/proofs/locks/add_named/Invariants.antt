use Rattle.std.proofs.Common.{List, ◌++◌, map, take}
use Rattle.dso_config_entries.specs.BorrowedWords.{words_of}
use Rattle.dso_config_entries.specs.LastAndFirst.{AreFirsts}
use Rattle.dso_config_entries.specs.Words.{Word}
use Rattle.dso_config_entries.proofs.locks.add_named.Given as goal

-- the names so far stand behind those that were there
abbrev pub invariant-loop-entry : goal.invariant-loop-entry
invariant-loop-entry l = (before : List Word) → AreFirsts before (words_of l.initial.names) → AreFirsts (before ++ map (λ entry. entry.name) (take l.entry-index l.entries)) (words_of l.names)

use Rattle.std.proofs.Common.{take, Contains}
use Rattle.dso_config_entries.specs.BorrowedWords.{words_of}
use Rattle.dso_class.proofs.scope.is_among.Given as goal

-- none of the words so far is the one that is asked for
abbrev pub invariant-loop-one : goal.invariant-loop-one
invariant-loop-one l = Contains (words_of (take l.one-index l.words)) l.word → ⊥

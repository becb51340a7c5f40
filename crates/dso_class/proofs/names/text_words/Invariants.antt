use Rattle.std.proofs.Common.{◌≡◌, take}
use Rattle.dso_config_entries.specs.BorrowedWords.{words_of}
use Rattle.dso_class.proofs.names.text_words.Given as goal

-- what is there so far
abbrev pub invariant-loop-text : goal.invariant-loop-text
invariant-loop-text l = l.words ≡ words_of (take l.text-index l.texts)

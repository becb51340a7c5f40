use Rattle.std.proofs.Common.{◌≡◌, length}
use Rattle.std.specs.List.{list_all}
use Rattle.dso_config.specs.Spelling.{is_word}
use Rattle.dso_config.proofs.spelling.are_words.Given as goal

-- what still stands decides
abbrev pub invariant-loop-text : goal.invariant-loop-text
invariant-loop-text l = list_all is_word l.text ≡ list_all is_word l.initial.text

abbrev pub decreases-loop-text : goal.decreases-loop-text
decreases-loop-text l = length l.text

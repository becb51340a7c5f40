use Rattle.std.proofs.Common.{◌≡◌, length}
use Rattle.dso_tokens.specs.Scan as spec
use Rattle.dso_tokens.proofs.scan.keyword_among.Given as goal

-- the word is none of those passed
abbrev pub invariant-loop-keywords : goal.invariant-loop-keywords
invariant-loop-keywords l = spec.keyword_among l.keywords l.word ≡ spec.keyword_among l.initial.keywords l.word

abbrev pub decreases-loop-keywords : goal.decreases-loop-keywords
decreases-loop-keywords l = length l.keywords

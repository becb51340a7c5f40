use Rattle.std.proofs.Common.{◌≡◌, ◌+◌, length, false}
use Rattle.dso_tokens.specs.Scan.{content_at}
use Rattle.dso_tokens.proofs.tokens.LiteralContent.{behind}
use Rattle.dso_tokens.proofs.literal.content_at.Given as goal

-- what was taken, and what is found behind it
abbrev pub invariant-loop-text : goal.invariant-loop-text
invariant-loop-text l =
    (content_at false l.initial.text ≡ behind l.content l.len (content_at l.after_backslash l.text))
    × (l.len + length l.text ≡ length l.initial.text)

abbrev pub decreases-loop-text : goal.decreases-loop-text
decreases-loop-text l = length l.text

use Rattle.std.proofs.Common.{length}
use Rattle.dso_tokens.proofs.tokens.Lexing.{Going}
use Rattle.dso_tokens.proofs.lex.tokens_of.Given as goal

-- the tokens so far, and those of the rest from its place and line on, are those of the text
abbrev pub invariant-loop-tokens : goal.invariant-loop-tokens
invariant-loop-tokens l = Going l.fn.text l.tokens l.place l.line l.rest

abbrev pub decreases-loop-tokens : goal.decreases-loop-tokens
decreases-loop-tokens l = length l.rest

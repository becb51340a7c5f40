use Rattle.std.proofs.Common.{◌≡◌, ◌-◌, length}
use Rattle.dso_syntax.specs.ProgramReader.{until_brace, one_member}
use Rattle.dso_syntax.specs.StatementLevels.{body}
use Rattle.dso_tokens.specs.Gives.{input}
use Rattle.dso_syntax.proofs.parser.ListLoops.{with_front}
use Rattle.dso_syntax.proofs.member.until_brace.Given as goal

-- what was read, and what is read of the rest, is what is read of all
abbrev pub invariant-loop : goal.invariant-loop
invariant-loop l =
    (with_front l.all (until_brace (one_member body) (length l.rest.tokens.now - l.counter) (input l.left)) ≡ until_brace (one_member body) (length l.rest.tokens.now) (input l.rest)) × (l.left.room ≡ l.rest.room)

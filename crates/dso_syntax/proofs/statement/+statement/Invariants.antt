use Rattle.std.proofs.Common.{◌≡◌, ◌+◌, ◌*◌, ◌-◌, length}
use Rattle.dso_syntax.specs.ProgramReader.{until_brace}
use Rattle.dso_syntax.specs.StatementLevels.{statement}
use Rattle.dso_tokens.specs.Gives.{input}
use Rattle.dso_syntax.proofs.parser.ListLoops.{with_front}
use Rattle.dso_syntax.proofs.statement.+statement.Given as goal

-- The levels come first, then what may still be chained: at most 65 levels, so that each part has room.

abbrev pub decreases-block : goal.decreases-block
decreases-block l = 1000 * l.levels

abbrev pub decreases-statements : goal.decreases-statements
decreases-statements l = 1000 * l.levels + 201

abbrev pub decreases-statement : goal.decreases-statement
decreases-statement l = 1000 * l.levels + 200

abbrev pub decreases-guarded : goal.decreases-guarded
decreases-guarded l = 1000 * l.levels + 1

abbrev pub decreases-conditional : goal.decreases-conditional
decreases-conditional l = 1000 * l.levels + 2 + 2 * l.more

abbrev pub decreases-otherwise : goal.decreases-otherwise
decreases-otherwise l = 1000 * l.levels + 1 + 2 * l.more

-- what was read, and what is read of the rest, is what is read of all
abbrev pub invariant-statements-loop : goal.invariant-statements-loop
invariant-statements-loop l =
    (with_front l.all (until_brace (statement l.levels) (length l.rest.tokens.now - l.counter) (input l.left)) ≡ until_brace (statement l.levels) (length l.rest.tokens.now) (input l.rest))
    × (l.left.room ≡ l.rest.room)

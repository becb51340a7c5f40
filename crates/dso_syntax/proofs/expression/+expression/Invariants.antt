use Rattle.std.proofs.Common.{◌≡◌, ◌+◌, ◌*◌, ◌-◌, length}
use Rattle.dso_syntax.specs.ExpressionReader.{listed}
use Rattle.dso_syntax.specs.ExpressionLevels.{whole}
use Rattle.dso_tokens.specs.Gives.{input}
use Rattle.dso_syntax.proofs.parser.ListLoops.{with_front}
use Rattle.dso_syntax.proofs.expression.+expression.Given as goal

-- The levels come first, then the rank, then what may still come: at most 65 levels, so that each part has room.

abbrev pub decreases-whole : goal.decreases-whole
decreases-whole l = 1000 * l.levels

abbrev pub decreases-climb : goal.decreases-climb
decreases-climb l = 1000 * l.levels + 150 + 100 * l.rank

abbrev pub decreases-operations : goal.decreases-operations
decreases-operations l = 1000 * l.levels + 151 + 100 * l.rank + l.more

abbrev pub decreases-unary : goal.decreases-unary
decreases-unary l = 1000 * l.levels + 80 + l.more

abbrev pub decreases-suffixes : goal.decreases-suffixes
decreases-suffixes l = 1000 * l.levels + 5 + l.more

abbrev pub decreases-suffixed : goal.decreases-suffixed
decreases-suffixed l = 1000 * l.levels + 3

abbrev pub decreases-arguments : goal.decreases-arguments
decreases-arguments l = 1000 * l.levels + 2

abbrev pub decreases-listed : goal.decreases-listed
decreases-listed l = 1000 * l.levels + 1

abbrev pub decreases-primary : goal.decreases-primary
decreases-primary l = 1000 * l.levels + 5

-- what was read, and what is read of the rest, is what is read of all
abbrev pub invariant-listed-loop : goal.invariant-listed-loop
invariant-listed-loop l =
    (with_front l.all (listed (whole l.levels) (length l.rest.tokens.now - l.counter) (input l.left)) ≡ listed (whole l.levels) (length l.rest.tokens.now) (input l.rest))
    × (l.left.room ≡ l.rest.room)

use Rattle.std.proofs.Common.{◌≡◌, ◌-◌, length}
use Rattle.dso_syntax.specs.ProgramReader.{items_from}
use Rattle.dso_syntax.specs.StatementLevels.{body}
use Rattle.dso_syntax.proofs.parser.ListLoops.{with_front}
use Rattle.dso_syntax.proofs.item.items.Given as goal

-- what was read, and what is read of the rest, is what is read of all
abbrev pub invariant-loop : goal.invariant-loop
invariant-loop l =
    (with_front l.all (items_from body (length l.rest.tokens.now - l.counter) l.left.room l.left.tokens.now) ≡ items_from body (length l.rest.tokens.now) l.rest.room l.rest.tokens.now) × (l.left.room ≡ l.rest.room)

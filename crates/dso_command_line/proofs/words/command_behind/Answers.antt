use Rattle.std.proofs.Common.{rules, map}
use Rattle.std.specs.String.{string_bytes}
use Rattle.dso_command_line.specs.Said.{said}
use Rattle.dso_command_line.proofs.reading_words.Asking.{lawful_if_asked, unlawful_unread}
use Rattle.dso_command_line.proofs.words.command_behind.Goals as goal

pub returns-in_err-given : goal.returns-in_err-given
returns-in_err-given c = rw c.from_residual.ensures (unlawful_unread c.args.first.now (map string_bytes c.args.rest.now) (search rules))

pub returns : goal.returns
returns c = lawful_if_asked c.asked.result said c.args.first.now (map string_bytes c.args.rest.now) c.in_ok-given.given (search rules) c.asked.ensures

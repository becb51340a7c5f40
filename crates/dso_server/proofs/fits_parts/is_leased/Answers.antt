use Rattle.std.proofs.Common.{sym, ◌∙◌}
use Rattle.dso_server.proofs.lists.Telling.{no, yes}
use Rattle.dso_server.proofs.fits_parts.is_leased.Goals as goal

pub returns-in-Some : goal.returns-in-Some
returns-in-Some c = λ p es s. yes (λ none. cc (c.in-Some.ensures p es s ∙ none))

pub returns-in-None : goal.returns-in-None
returns-in-None c = λ p es s. no (λ some. some (sym (c.in-None.ensures p es s)))

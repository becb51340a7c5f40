use Rattle.std.proofs.Common.{sym, ◌∙◌}
use Rattle.dso_server.proofs.lists.Telling.{no, told_by}
use Rattle.dso_server.proofs.fits_lists.value_fits.Goals as goal

pub returns-then-not-is_named : goal.returns-then-not-is_named
returns-then-not-is_named c = no (λ fits. cc (sym c.if-not-is_named.true ∙ (c.is_named.ensures).1 fits.0))

pub returns : goal.returns
returns c = told_by c.is_literal.ensures (λ literal. ((c.is_named.ensures).0 c.if-not-is_named.false, literal)) (λ fits. fits.1)

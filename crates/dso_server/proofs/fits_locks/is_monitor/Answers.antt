use Rattle.std.proofs.Common.{sym, ◌∙◌, arith}
use Rattle.dso_server.proofs.fits_locks.is_monitor.Goals as goal

pub returns : goal.returns
returns c = λ p es s. (λ e. (omega (arith, c.if-object-eq0.false), sym (c.is_given.ensures p es s) ∙ e), λ m. c.is_given.ensures p es s ∙ m.1)

use Rattle.std.proofs.Common.{sym, ◌∙◌}
use Rattle.dso_server.proofs.lists.Telling.{no, told_by}
use Rattle.dso_server.proofs.fits_locks.fits_request.Goals as goal

pub returns-in-Some-clause-tells : goal.returns-in-Some-clause-tells
returns-in-Some-clause-tells c = λ p es ps s. no (λ fits. cc (c.in-Some.ensures p es s ∙ fits.not_leased))

pub returns-then-waits-clause-tells : goal.returns-then-waits-clause-tells
returns-then-waits-clause-tells c = λ p es ps s. no (λ fits. cc (sym c.if-waits.true ∙ (c.waits.ensures.known p es s ∙ fits.not_asked)))

pub returns-clause-tells : goal.returns-clause-tells
returns-clause-tells c = λ p es ps s. told_by (c.is_lock.ensures p es ps s) (λ lock. record { not_leased = sym (c.lease.ensures p es s) ∙ c.in_default.is; not_asked = sym (c.waits.ensures.known p es s) ∙ c.if-waits.false; lock = lock }) (λ fits. fits.lock)

use Rattle.std.proofs.Common.{sym, ◌∙◌}
use Rattle.dso_server.proofs.fits_parts.waited.Goals as goal

pub returns : goal.returns
returns c = λ p es s. (λ e. sym (c.last_ending.ensures p es s) ∙ c.is_wait_on.ensures.0 e, λ w. c.is_wait_on.ensures.1 (c.last_ending.ensures p es s ∙ w))

use Rattle.std.proofs.Common.{sym, ◌∙◌}
use Rattle.dso_server.proofs.reads.may_write.Goals as goal

pub returns : goal.returns
returns c = λ p es s. (λ e. sym (c.lease.ensures p es s) ∙ c.is_write.ensures.0 e, λ w. c.is_write.ensures.1 (c.lease.ensures p es s ∙ w))

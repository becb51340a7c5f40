use Rattle.std.proofs.Common.{sym, ◌∙◌}
use Rattle.dso_server.proofs.lists.Telling.{is_false, isnt_true}
use Rattle.dso_server.proofs.fits_locks.is_new_waiter.Goals as goal

pub returns : goal.returns
returns c = λ p es s.
    (λ e. (sym (c.is_thread_of.ensures p es s) ∙ c.if-not-is_thread_of.false, sym (c.is_waiter.ensures p es s) ∙ is_false c.is_waiter.result e), λ new. isnt_true c.is_waiter.result (c.is_waiter.ensures p es s ∙ new.1))

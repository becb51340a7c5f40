use Rattle.std.proofs.Common.{sym, ◌∙◌, ap, suc}
use Rattle.dso_server.proofs.lists.Telling.{is_false, isnt_true, no}
use Rattle.dso_server.proofs.fits_record.fits_maker.Goals as goal

pub returns-then-not-is_next : goal.returns-then-not-is_next
returns-then-not-is_next c = λ p es s. no (λ fits. cc (sym c.if-not-is_next.true ∙ c.is_next.ensures.1 (fits.0 ∙ ap suc (sym (c.last_number.ensures p es s)))))

pub returns-then-not-is_thread_of : goal.returns-then-not-is_thread_of
returns-then-not-is_thread_of c = λ p es s. no (λ fits. cc (sym c.if-not-is_thread_of.true ∙ (c.is_thread_of.ensures p es s ∙ fits.1)))

pub returns : goal.returns
returns c = λ p es s. (
  λ e. (c.is_next.ensures.0 c.if-not-is_next.false ∙ ap suc (c.last_number.ensures p es s), sym (c.is_thread_of.ensures p es s) ∙ c.if-not-is_thread_of.false, sym (c.is_ended.ensures p es s) ∙ is_false c.is_ended.result e),
  λ fits. isnt_true c.is_ended.result (c.is_ended.ensures p es s ∙ fits.2),
)

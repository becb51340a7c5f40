use Rattle.std.proofs.Common.{sym, ◌∙◌, subst}
use Rattle.dso_law.specs.FitsUp.{FitsChoice}
use Rattle.dso_server.proofs.lists.Telling.{no, yes}
use Rattle.dso_server.proofs.fits_parts.fits_note.Goals as goal

pub returns-then-not-may_write : goal.returns-then-not-may_write
returns-then-not-may_write c = λ p es s. no (λ fits. cc (sym c.if-not-may_write.true ∙ (c.may_write.ensures p es s).1 fits.0))

pub returns-in-Here : goal.returns-in-Here
returns-in-Here c = λ p es s. (
  λ e. ((c.may_write.ensures p es s).0 c.if-not-may_write.false, subst (FitsChoice p c.args.client) (sym c.in-Here.is) (sym (c.is_thread_of.ensures p es s) ∙ e)),
  λ fits. c.is_thread_of.ensures p es s ∙ subst (FitsChoice p c.args.client) c.in-Here.is fits.1,
)

pub returns-in-There : goal.returns-in-There
returns-in-There c = λ p es s. yes ((c.may_write.ensures p es s).0 c.if-not-may_write.false, subst (FitsChoice p c.args.client) (sym c.in-There.is) tt)

pub returns-in-All : goal.returns-in-All
returns-in-All c = λ p es s. yes ((c.may_write.ensures p es s).0 c.if-not-may_write.false, subst (FitsChoice p c.args.client) (sym c.in-All.is) tt)

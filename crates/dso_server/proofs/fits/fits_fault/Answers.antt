use Rattle.std.proofs.Common.{sym, ◌∙◌}
use Rattle.dso_server.specs.Fitting.{graph_in}
use Rattle.dso_server.proofs.lists.Telling.{no, some_there, there_some}
use Rattle.dso_server.proofs.fits.fits_fault.Goals as goal

pub returns-then-holds : goal.returns-then-holds
returns-then-holds c = λ p es s. no (λ fits. cc (sym c.if-holds.true ∙ (c.holds.ensures p es s ∙ fits.1)))

pub returns : goal.returns
returns c = λ p es s. (
  λ e. (some_there (graph_in c.args.server.now c.args.object) (sym c.is_stored.ensures ∙ e), sym (c.holds.ensures p es s) ∙ c.if-holds.false),
  λ fits. c.is_stored.ensures ∙ there_some (graph_in c.args.server.now c.args.object) fits.0,
)

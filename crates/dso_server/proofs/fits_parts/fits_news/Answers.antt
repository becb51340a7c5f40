use Rattle.std.proofs.Common.{sym, ◌∙◌, ap, subst, is_some}
use Rattle.dso_law.specs.FitsDown.{FitsShape}
use Rattle.dso_server.specs.Fitting.{graph_in}
use Rattle.dso_server.proofs.lists.Telling.{no, none_there, told_by}
use Rattle.dso_server.proofs.fits_parts.fits_news.Goals as goal

pub returns-then-not-is_given_to : goal.returns-then-not-is_given_to
returns-then-not-is_given_to c = λ p es ps s. no (λ fits. cc (sym c.if-not-is_given_to.true ∙ (c.is_given_to.ensures p es s ∙ fits.given)))

pub returns-then-is_stored : goal.returns-then-is_stored
returns-then-is_stored c = λ p es ps s. no (λ fits. cc (sym c.if-is_stored.true ∙ (c.is_stored.ensures ∙ ap is_some fits.new)))

pub returns-in-Roots : goal.returns-in-Roots
returns-in-Roots c = λ p es ps s. no (λ fits. fits.class c.in-Roots.is)

pub returns : goal.returns
returns c = λ p es ps s. told_by c.fits_shape.ensures
    (λ shaped. record {
      given = sym (c.is_given_to.ensures p es s) ∙ c.if-not-is_given_to.false;
      new = none_there (graph_in c.args.server.now c.args.body.now.object) (sym c.is_stored.ensures ∙ c.if-is_stored.false);
      class = c.in_default.not-Roots;
      shaped = subst (λ shape. FitsShape shape c.args.body.now) (sym ps) shaped;
    })
    (λ fits. subst (λ shape. FitsShape shape c.args.body.now) ps fits.shaped)

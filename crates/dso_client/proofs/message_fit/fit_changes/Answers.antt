use Rattle.std.proofs.Common.{sym, ◌∙◌, refl}
use Rattle.dso_law.specs.FitsDown.{FitsChange}
use Rattle.dso_client.proofs.heard.EachChange.{each_at, each_next, each_so_far}
use Rattle.dso_client.proofs.message_fit.fit_changes.Goals as goal

pub returns-then-not-fits_change : goal.returns-then-not-fits_change
returns-then-not-fits_change c = λ at stands. (
  (λ e. absurd (cc e)),
  (λ all. cc (sym c.if-not-fits_change.true ∙ (c.fits_change.ensures at stands).1 (each_at (FitsChange c.args.shape.now at.entries) c.args.sets.now _ c.loop-set.set-index c.loop-set-test.true all))),
)

pub loop-set-preserved : goal.loop-set-preserved
loop-set-preserved c = λ at stands. each_next (FitsChange c.args.shape.now at.entries) c.args.sets.now _ c.loop-set.set-index c.loop-set-test.true (c.loop-set.invariant at stands) ((c.fits_change.ensures at stands).0 c.if-not-fits_change.false)

pub returns : goal.returns
returns c = λ at stands. ((λ yes. each_so_far (FitsChange c.args.shape.now at.entries) c.args.sets.now c.loop-set.set-index c.loop-set-test.false (c.loop-set.invariant at stands)), (λ all. refl))

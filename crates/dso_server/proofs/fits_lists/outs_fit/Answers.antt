use Rattle.std.proofs.Common.{sym, ◌∙◌}
use Rattle.dso_law.specs.ServerReadings.{counted}
use Rattle.dso_server.proofs.lists.Lists.{each_at, each_next, each_so_far}
use Rattle.dso_server.proofs.lists.Telling.{no, yes}
use Rattle.dso_server.specs.Records.{FitsOut}
use Rattle.dso_server.proofs.fits_lists.outs_fit.Goals as goal

pub returns-then-not-out_fits : goal.returns-then-not-out_fits
returns-then-not-out_fits c = λ p es s. no (λ all. cc (sym c.if-not-out_fits.true ∙ (c.out_fits.ensures p es s).1 (each_at (FitsOut c.args.shape.now (counted es)) c.args.outs.now _ c.loop-value.value-index c.loop-value-test.true all)))

pub loop-value-preserved : goal.loop-value-preserved
loop-value-preserved c = λ p es s. each_next (FitsOut c.args.shape.now (counted es)) c.args.outs.now _ c.loop-value.value-index c.loop-value-test.true (c.loop-value.invariant p es s) ((c.out_fits.ensures p es s).0 c.if-not-out_fits.false)

pub returns : goal.returns
returns c = λ p es s. yes (each_so_far (FitsOut c.args.shape.now (counted es)) c.args.outs.now c.loop-value.value-index c.loop-value-test.false (c.loop-value.invariant p es s))

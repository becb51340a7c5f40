use Rattle.std.proofs.Common.{sym, ◌∙◌}
use Rattle.dso_server.proofs.lists.Lists.{each_at, each_next, each_so_far}
use Rattle.dso_server.proofs.lists.Telling.{no, yes}
use Rattle.dso_server.specs.Fitting.{graph_in}
use Rattle.dso_server.specs.Records.{FitsValue}
use Rattle.dso_server.proofs.fits_lists.values_fit.Goals as goal

pub returns-then-not-value_fits : goal.returns-then-not-value_fits
returns-then-not-value_fits c = no (λ all. cc (sym c.if-not-value_fits.true ∙ (c.value_fits.ensures).1 (each_at (FitsValue c.args.shape.now (graph_in c.args.server.now) c.args.news.now) c.args.values.now _ c.loop-value.value-index c.loop-value-test.true all)))

pub loop-value-preserved : goal.loop-value-preserved
loop-value-preserved c = each_next (FitsValue c.args.shape.now (graph_in c.args.server.now) c.args.news.now) c.args.values.now _ c.loop-value.value-index c.loop-value-test.true (c.loop-value.invariant) ((c.value_fits.ensures).0 c.if-not-value_fits.false)

pub returns : goal.returns
returns c = yes (each_so_far (FitsValue c.args.shape.now (graph_in c.args.server.now) c.args.news.now) c.args.values.now c.loop-value.value-index c.loop-value-test.false (c.loop-value.invariant))

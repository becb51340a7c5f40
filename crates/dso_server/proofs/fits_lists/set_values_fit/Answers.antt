use Rattle.std.proofs.Common.{sym, ◌∙◌}
use Rattle.dso_server.proofs.lists.Lists.{each_at, each_next, each_so_far}
use Rattle.dso_server.proofs.lists.Telling.{no, yes}
use Rattle.dso_server.specs.Fitting.{graph_in}
use Rattle.dso_server.specs.Records.{FitsValue}
use Rattle.dso_server.proofs.fits_lists.set_values_fit.Goals as goal

pub returns-then-not-value_fits : goal.returns-then-not-value_fits
returns-then-not-value_fits c = no (λ all. cc (sym c.if-not-value_fits.true ∙ (c.value_fits.ensures).1 (each_at (λ set. FitsValue c.args.shape.now (graph_in c.args.server.now) c.args.news.now set.value) c.args.sets.now _ c.loop-set.set-index c.loop-set-test.true all)))

pub loop-set-preserved : goal.loop-set-preserved
loop-set-preserved c = each_next (λ set. FitsValue c.args.shape.now (graph_in c.args.server.now) c.args.news.now set.value) c.args.sets.now _ c.loop-set.set-index c.loop-set-test.true (c.loop-set.invariant) ((c.value_fits.ensures).0 c.if-not-value_fits.false)

pub returns : goal.returns
returns c = yes (each_so_far (λ set. FitsValue c.args.shape.now (graph_in c.args.server.now) c.args.news.now set.value) c.args.sets.now c.loop-set.set-index c.loop-set-test.false (c.loop-set.invariant))

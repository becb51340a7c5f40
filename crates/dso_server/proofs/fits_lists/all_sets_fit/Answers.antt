use Rattle.std.proofs.Common.{sym, ◌∙◌}
use Rattle.dso_law.specs.ServerReadings.{counted}
use Rattle.dso_server.proofs.lists.Lists.{each_at, each_next, each_so_far}
use Rattle.dso_server.proofs.lists.Telling.{no, yes}
use Rattle.dso_law.specs.FitsUp.{FitsSetBy}
use Rattle.dso_server.specs.Fitting.{graph_in}
use Rattle.dso_server.proofs.fits_lists.all_sets_fit.Goals as goal

pub returns-then-not-fits_set : goal.returns-then-not-fits_set
returns-then-not-fits_set c = λ p es ps s. no (λ all. cc (sym c.if-not-fits_set.true ∙ (c.fits_set.ensures p es ps s).1 (each_at (FitsSetBy (graph_in c.args.server.now) p c.args.client (counted es)) c.args.sets.now _ c.loop-set.set-index c.loop-set-test.true all)))

pub loop-set-preserved : goal.loop-set-preserved
loop-set-preserved c = λ p es ps s. each_next (FitsSetBy (graph_in c.args.server.now) p c.args.client (counted es)) c.args.sets.now _ c.loop-set.set-index c.loop-set-test.true (c.loop-set.invariant p es ps s) ((c.fits_set.ensures p es ps s).0 c.if-not-fits_set.false)

pub returns : goal.returns
returns c = λ p es ps s. yes (each_so_far (FitsSetBy (graph_in c.args.server.now) p c.args.client (counted es)) c.args.sets.now c.loop-set.set-index c.loop-set-test.false (c.loop-set.invariant p es ps s))

use Rattle.std.proofs.Common.{sym, ◌∙◌, subst}
use Rattle.dso_law.specs.ServerReadings.{counted}
use Rattle.dso_server.proofs.lists.Lists.{each_at, each_next, each_so_far}
use Rattle.dso_server.proofs.lists.Telling.{no, yes}
use Rattle.dso_law.specs.FitsUp.{FitsNewsBy}
use Rattle.dso_server.specs.Fitting.{graph_in}
use Rattle.dso_server.proofs.fits_lists.all_news_fit.Goals as goal

pub returns-then-not-fits_news : goal.returns-then-not-fits_news
returns-then-not-fits_news c = λ p es ps s. no (λ all. cc (sym c.if-not-fits_news.true ∙ (c.fits_news.ensures p es ps s).1 (subst (FitsNewsBy (graph_in c.args.server.now) p c.args.client (counted es)) (sym c.body-item.is) (each_at (FitsNewsBy (graph_in c.args.server.now) p c.args.client (counted es)) c.args.news.now c.body-item.result c.loop-body.body-index c.loop-body-test.true all))))

pub loop-body-preserved : goal.loop-body-preserved
loop-body-preserved c = λ p es ps s. each_next (FitsNewsBy (graph_in c.args.server.now) p c.args.client (counted es)) c.args.news.now c.body-item.result c.loop-body.body-index c.loop-body-test.true (c.loop-body.invariant p es ps s) (subst (FitsNewsBy (graph_in c.args.server.now) p c.args.client (counted es)) c.body-item.is ((c.fits_news.ensures p es ps s).0 c.if-not-fits_news.false))

pub returns : goal.returns
returns c = λ p es ps s. yes (each_so_far (FitsNewsBy (graph_in c.args.server.now) p c.args.client (counted es)) c.args.news.now c.loop-body.body-index c.loop-body-test.false (c.loop-body.invariant p es ps s))

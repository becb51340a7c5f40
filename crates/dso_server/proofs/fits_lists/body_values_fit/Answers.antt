use Rattle.std.proofs.Common.{sym, ◌∙◌, subst}
use Rattle.std.specs.List.{AllByRecursion}
use Rattle.dso_server.proofs.lists.Lists.{each_at, each_next, each_so_far}
use Rattle.dso_server.proofs.lists.Telling.{no, told_at, yes}
use Rattle.dso_server.specs.Fitting.{graph_in}
use Rattle.dso_server.specs.Records.{FitsValue}
use Rattle.dso_server.proofs.fits_lists.body_values_fit.Goals as goal

pub returns-then-not-values_fit : goal.returns-then-not-values_fit
returns-then-not-values_fit c = no (λ all. cc (sym c.if-not-values_fit.true ∙ (told_at (AllByRecursion (FitsValue c.args.shape.now (graph_in c.args.server.now) c.args.news.now)) c.as_slice.ensures (c.values_fit.ensures)).1 (subst (λ body. AllByRecursion (FitsValue c.args.shape.now (graph_in c.args.server.now) c.args.news.now) body.values) (sym c.body-item.is) (each_at (λ body. AllByRecursion (FitsValue c.args.shape.now (graph_in c.args.server.now) c.args.news.now) body.values) c.args.bodies.now c.body-item.result c.loop-body.body-index c.loop-body-test.true all))))

pub loop-body-preserved : goal.loop-body-preserved
loop-body-preserved c = each_next (λ body. AllByRecursion (FitsValue c.args.shape.now (graph_in c.args.server.now) c.args.news.now) body.values) c.args.bodies.now c.body-item.result c.loop-body.body-index c.loop-body-test.true (c.loop-body.invariant) (subst (λ body. AllByRecursion (FitsValue c.args.shape.now (graph_in c.args.server.now) c.args.news.now) body.values) c.body-item.is ((told_at (AllByRecursion (FitsValue c.args.shape.now (graph_in c.args.server.now) c.args.news.now)) c.as_slice.ensures (c.values_fit.ensures)).0 c.if-not-values_fit.false))

pub returns : goal.returns
returns c = yes (each_so_far (λ body. AllByRecursion (FitsValue c.args.shape.now (graph_in c.args.server.now) c.args.news.now) body.values) c.args.bodies.now c.loop-body.body-index c.loop-body-test.false (c.loop-body.invariant))

use Rattle.std.proofs.Common.{sym, ◌∙◌, subst}
use Rattle.dso_store.specs.Graph.{body_in}
use Rattle.dso_keep.specs.Records.{IsNewObject}
use Rattle.dso_keep.proofs.lists.Each.{each_at, each_next, each_so_far}
use Rattle.dso_keep.proofs.lists.Telling.{no, yes}
use Rattle.dso_keep.proofs.fitting.are_new.Goals as goal

pub returns-then-not-is_new : goal.returns-then-not-is_new
returns-then-not-is_new c = no (λ all. cc (sym c.if-not-is_new.true ∙ (c.is_new.ensures).1 (subst (IsNewObject c.args.shape.now (body_in c.args.store.now) c.args.news.now) (sym c.body-item.is) (each_at (IsNewObject c.args.shape.now (body_in c.args.store.now) c.args.news.now) c.args.bodies.now c.body-item.result c.loop-body.body-index c.loop-body-test.true all))))

pub loop-body-preserved : goal.loop-body-preserved
loop-body-preserved c = each_next (IsNewObject c.args.shape.now (body_in c.args.store.now) c.args.news.now) c.args.bodies.now c.body-item.result c.loop-body.body-index c.loop-body-test.true (c.loop-body.invariant) (subst (IsNewObject c.args.shape.now (body_in c.args.store.now) c.args.news.now) c.body-item.is ((c.is_new.ensures).0 c.if-not-is_new.false))

pub returns : goal.returns
returns c = yes (each_so_far (IsNewObject c.args.shape.now (body_in c.args.store.now) c.args.news.now) c.args.bodies.now c.loop-body.body-index c.loop-body-test.false (c.loop-body.invariant))

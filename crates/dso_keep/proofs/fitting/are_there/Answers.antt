use Rattle.std.proofs.Common.{sym, ◌∙◌}
use Rattle.dso_store.specs.Graph.{body_in}
use Rattle.dso_keep.specs.Records.{IsThere}
use Rattle.dso_keep.proofs.lists.Each.{each_at, each_next, each_so_far}
use Rattle.dso_keep.proofs.lists.Telling.{no, yes}
use Rattle.dso_keep.proofs.fitting.are_there.Goals as goal

pub returns-then-not-is_there : goal.returns-then-not-is_there
returns-then-not-is_there c = no (λ all. cc (sym c.if-not-is_there.true ∙ (c.is_there.ensures).1 (each_at (IsThere c.args.shape.now (body_in c.args.store.now) c.args.news.now) c.args.values.now _ c.loop-value.value-index c.loop-value-test.true all)))

pub loop-value-preserved : goal.loop-value-preserved
loop-value-preserved c = each_next (IsThere c.args.shape.now (body_in c.args.store.now) c.args.news.now) c.args.values.now _ c.loop-value.value-index c.loop-value-test.true (c.loop-value.invariant) ((c.is_there.ensures).0 c.if-not-is_there.false)

pub returns : goal.returns
returns c = yes (each_so_far (IsThere c.args.shape.now (body_in c.args.store.now) c.args.news.now) c.args.values.now c.loop-value.value-index c.loop-value-test.false (c.loop-value.invariant))

use Rattle.std.proofs.Common.{sym, ◌∙◌}
use Rattle.dso_store.specs.Graph.{body_in}
use Rattle.dso_keep.specs.Records.{FitsObject}
use Rattle.dso_keep.proofs.lists.Each.{each_at, each_next, each_so_far}
use Rattle.dso_keep.proofs.lists.Telling.{no, yes}
use Rattle.dso_keep.proofs.fitting.fit_objects.Goals as goal

pub returns-then-not-fits_object : goal.returns-then-not-fits_object
returns-then-not-fits_object c = no (λ all. cc (sym c.if-not-fits_object.true ∙ (c.fits_object.ensures).1 (each_at (FitsObject c.args.shape.now (body_in c.args.store.now) c.args.news.now) c.args.sets.now _ c.loop-set.set-index c.loop-set-test.true all)))

pub loop-set-preserved : goal.loop-set-preserved
loop-set-preserved c = each_next (FitsObject c.args.shape.now (body_in c.args.store.now) c.args.news.now) c.args.sets.now _ c.loop-set.set-index c.loop-set-test.true (c.loop-set.invariant) ((c.fits_object.ensures).0 c.if-not-fits_object.false)

pub returns : goal.returns
returns c = yes (each_so_far (FitsObject c.args.shape.now (body_in c.args.store.now) c.args.news.now) c.args.sets.now c.loop-set.set-index c.loop-set-test.false (c.loop-set.invariant))

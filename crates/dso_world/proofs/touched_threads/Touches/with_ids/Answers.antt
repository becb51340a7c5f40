use Rattle.std.proofs.Common.{refl}
use Rattle.dso_open_law.specs.TouchedThreads.{OfIds}
use Rattle.dso_world.proofs.touches.Added.{bucket_added}
use Rattle.dso_world.proofs.touched_threads.Touches.with_ids.Goals as goal

pub returns : goal.returns
returns c = bucket_added OfIds 0 c.args.self c.with_bucket.result refl c.with_bucket.ensures

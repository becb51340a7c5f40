use Rattle.std.proofs.Common.{refl}
use Rattle.dso_open_law.specs.TouchedThreads.{OfRecords}
use Rattle.dso_world.proofs.touches.Added.{bucket_added}
use Rattle.dso_world.proofs.touched_threads.Touches.with_records.Goals as goal

pub returns : goal.returns
returns c = λ t. bucket_added (OfRecords t) 1 c.args.self c.with_bucket.result refl c.with_bucket.ensures

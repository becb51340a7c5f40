use Rattle.std.proofs.Common.{subst}
use Rattle.std.specs.List.{flat_map}
use Rattle.dso_open_law.specs.TouchedThreads.{sent_topics}
use Rattle.dso_world.specs.EntryTouches.{Adds}
use Rattle.dso_world.proofs.touches.Added.{entry_added}
use Rattle.dso_world.proofs.touched_threads.Touches.of.Goals as goal

pub returns : goal.returns
returns c = entry_added c.args.entry.now c.args.next (record { buckets = 0 })
    c.with_taken.result c.with_acted.result c.with_sent.result c.with_taken.ensures c.with_acted.ensures
    (subst (λ messages. Adds (flat_map sent_topics messages) c.with_acted.result c.with_sent.result) c.as_slice.ensures c.with_sent.ensures)

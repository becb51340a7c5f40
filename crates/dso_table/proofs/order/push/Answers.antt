use Rattle.std.proofs.Common.{◌∙◌, ap}
use Rattle.lru.specs.LruCache.{lru_cache}
use Rattle.dso_table.proofs.uses.Joining.{put_absent}
use Rattle.dso_table.proofs.order.push.Goals as goal

pub returns-then-len-get-clause-pushed : goal.returns-then-len-get-clause-pushed
returns-then-len-get-clause-pushed c = c.in_ok-push.ensures.entries ∙ ap (λ es. lru_cache es c.args.recent.now.cap) (put_absent c.args.recent.now c.args.object c.requires.new)

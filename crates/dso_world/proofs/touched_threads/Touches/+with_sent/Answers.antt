use Rattle.dso_world.proofs.touches.Added.{more_added}
use Rattle.dso_world.proofs.touched_threads.Touches.+with_sent.Goals as goal

pub returns-in-len1-up : goal.returns-in-len1-up
returns-in-len1-up t c = more_added c.args.messages.now c.message-item.result c.args.self c.with_one.result c.with_sent.result c.in-len1-up.len_at_least c.message-item.is c.with_one.ensures c.with_sent.ensures

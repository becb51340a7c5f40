use Rattle.dso_world.proofs.touches.Added.{news_added}
use Rattle.dso_world.proofs.touched_threads.Touches.+with_news.Goals as goal

pub returns-in-len1-up : goal.returns-in-len1-up
returns-in-len1-up t c = news_added c.args.news.now c.body-item.result c.args.self c.with_object.result c.with_news.result c.in-len1-up.len_at_least c.body-item.is c.with_object.ensures c.with_news.ensures

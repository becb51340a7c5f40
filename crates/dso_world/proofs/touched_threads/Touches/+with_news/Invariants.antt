use Rattle.std.proofs.Common.{length}
use Rattle.dso_world.proofs.touched_threads.Touches.+with_news.Given as goal

abbrev pub decreases-with_news : goal.decreases-with_news
decreases-with_news l = length l.news.now

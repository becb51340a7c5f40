use Rattle.dso_legal.proofs.laws.news_are_new.Goals as goal
use Rattle.dso_legal.proofs.records.NewsAreNew.{news_are_new}

pub returns : goal.returns
returns c = news_are_new

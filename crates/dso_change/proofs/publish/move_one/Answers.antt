use Rattle.std.proofs.Common.{ap, ◌∙◌}
use Rattle.std.proofs.lemmas.Result.{on_ok_weaker}
use Rattle.std.specs.BTreeMap.{is_at}
use Rattle.std.specs.Ordering.{nat_cmp}
use Rattle.dso_change.specs.Hands.{either}
use Rattle.dso_lookup.specs.Maps.{look, writes, written}
use Rattle.dso_change.proofs.publish.move_one.Goals as goal

pub returns-in-Some-clause-news : goal.returns-in-Some-clause-news
returns-in-Some-clause-news c = on_ok_weaker c.put.result (λ puts. puts ∙ ap (λ body. written (writes (is_at (nat_cmp c.args.object)) (λ _. either body (look nat_cmp c.args.news.now c.args.object))) (look nat_cmp c.args.news.now)) c.in-Some.ensures.was) c.put.ensures

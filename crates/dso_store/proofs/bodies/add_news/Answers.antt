use Rattle.std.proofs.Common.{◌≡◌, ◌∙◌, Some, sym, subst}
use Rattle.std.specs.BTreeMap.{is_at}
use Rattle.std.specs.Ordering.{nat_cmp}
use Rattle.dso_lookup.specs.Maps.{look, writes, written}
use Rattle.dso_store.proofs.BodiesWritten.{news_next, news_all}
use Rattle.dso_store.proofs.bodies.add_news.Goals as goal

pub loop-body-preserved : goal.loop-body-preserved
loop-body-preserved c =
    let put = subst (λ body. look nat_cmp c.put.new.map ≡ written (writes (is_at (nat_cmp body.object)) (λ _. Some body)) (look nat_cmp c.loop-body.bodies)) c.in_ok-body.ensures c.in_ok-put.ensures in
    news_next c.args.news.now c.body-item.result c.loop-body.body-index (look nat_cmp c.loop-body.bodies) (look nat_cmp c.put.new.map) c.loop-body-test.true c.body-item.is put ∙ c.loop-body.invariant

pub returns : goal.returns
returns c = sym (news_all c.args.news.now c.loop-body.body-index (look nat_cmp c.loop-body.bodies) c.loop-body-test.false) ∙ c.loop-body.invariant

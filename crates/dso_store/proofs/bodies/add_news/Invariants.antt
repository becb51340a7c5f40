use Rattle.std.proofs.Common.{◌≡◌, drop}
use Rattle.std.specs.Ordering.{nat_cmp}
use Rattle.dso_lookup.specs.Maps.{look}
use Rattle.dso_store.specs.Graph.{with_news}
use Rattle.dso_store.proofs.bodies.add_news.Given as goal

abbrev pub invariant-loop-body : goal.invariant-loop-body
invariant-loop-body l = with_news (drop l.body-index l.news) (look nat_cmp l.bodies) ≡ with_news l.news (look nat_cmp l.initial.bodies)

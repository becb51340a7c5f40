use Rattle.std.proofs.Common.{◌∙◌, ap}
use Rattle.std.proofs.lemmas.Result.{on_ok_weaker}
use Rattle.std.specs.Ordering.{nat_cmp}
use Rattle.dso_lookup.specs.Maps.{look}
use Rattle.dso_store.specs.Graph.{with_news, with_sets}
use Rattle.dso_store.proofs.BodiesWritten.{last_written}
use Rattle.dso_store.proofs.store.Store.apply.Goals as goal

pub returns-clause-bodies : goal.returns-clause-bodies
returns-clause-bodies c = on_ok_weaker c.put.result
    (λ put. c.set_all.ensures ∙ (ap (λ sets. with_sets sets (look nat_cmp c.add_news.new.bodies)) c.as_slice-2.ensures
    ∙ (ap (λ bodies. with_sets c.args.txn.now.sets bodies) (c.in_ok-add_news.ensures ∙ ap (λ news. with_news news (look nat_cmp c.args.self.now.bodies)) c.as_slice.ensures))))
    c.put.ensures

pub returns-clause-last : goal.returns-clause-last
returns-clause-last c = on_ok_weaker c.put.result (λ put. last_written c.args.client c.args.txn.now.seq c.args.self.now.numbers c.put.new.map put) c.put.ensures

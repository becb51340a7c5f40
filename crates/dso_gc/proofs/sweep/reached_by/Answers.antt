use Rattle.std.proofs.lemmas.Result.{IfOk-weaker}
use Rattle.dso_gc.proofs.Reaching.{searched}
use Rattle.dso_gc.proofs.sweep.reached_by.Goals as goal

pub returns : goal.returns
returns c = IfOk-weaker c.reached_from.result _ _ (λ reached tells o.
    let at = searched c.args.first c.args.starts.now c.requires c.args.edges.now c.in_ok-edges.edges c.in_ok-edges.ensures o in
    ((λ e. at.0 ((tells o).0 e)), (λ r. (tells o).1 (at.1 r)))) c.reached_from.ensures

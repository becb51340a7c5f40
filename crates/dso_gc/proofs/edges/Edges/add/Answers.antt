use Rattle.std.proofs.lemmas.Result.{on_ok_weaker}
use Rattle.dso_gc.proofs.Adding.{edge_added}
use Rattle.dso_gc.proofs.edges.Edges.add.Goals as goal

pub returns : goal.returns
returns c = on_ok_weaker c.put.result (λ targets edges. edge_added c.args.self.now (record { rows = c.push_at.new.map; targets = c.put.new.map }) c.args.edge.0 c.args.edge.1 edges c.in_ok-push_at.ensures targets) c.put.ensures

use Rattle.dso_cell.proofs.pairs.Ends.{pair_at}
use Rattle.dso_cell.proofs.server_cell.ServerCell.pair.Goals as goal

pub returns-in-Some-clause-some : goal.returns-in-Some-clause-some
returns-in-Some-clause-some c =
    pair_at c.args.self.now c.args.client c.args.cell.now c.in-Some.end.now c.is_lost.result c.new.result c.deref.result.now c.new.ensures c.deref.ensures.value
    c.in-Some.ensures.lookup.0 c.in-Some.ensures.lookup.1 c.is_lost.ensures

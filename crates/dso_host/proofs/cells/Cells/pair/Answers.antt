use Rattle.dso_host.proofs.hosts.Told.{no_cell, no_end, pair_of}
use Rattle.dso_host.proofs.cells.Cells.pair.Goals as goal

pub returns-in-Some-clause-some : goal.returns-in-Some-clause-some
returns-in-Some-clause-some c =
    pair_of c.args.self.now c.args.client c.in-Some.cell.now c.deref.result.now c.requires c.deref.ensures.value c.in-Some.ensures.lookup.0 c.in-Some.ensures.lookup.1 c.pair.result c.pair.ensures.some

pub returns-in-Some-clause-none : goal.returns-in-Some-clause-none
returns-in-Some-clause-none c = no_end c.args.self.now c.args.client c.pair.result c.pair.ensures.none

pub returns-in-None-clause-none : goal.returns-in-None-clause-none
returns-in-None-clause-none c = no_cell c.args.self.now c.args.client c.deref.result.now c.deref.ensures.value c.in-None.ensures.lookup.0

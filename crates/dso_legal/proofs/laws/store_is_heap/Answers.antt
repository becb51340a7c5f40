use Rattle.dso_legal.proofs.laws.store_is_heap.Goals as goal
use Rattle.dso_legal.proofs.central.CentralLaw.{the_store_is_heap}

pub returns : goal.returns
returns c = the_store_is_heap

use Rattle.std.proofs.Common.{◌≡◌, ◌∷◌, Some, map, take}
use Rattle.dso_store.specs.Graph.{body_in}
use Rattle.dso_show.specs.Published.{published}
use Rattle.dso_show.proofs.shown.bodies_of.Given as goal

abbrev pub invariant-loop-txn : goal.invariant-loop-txn
invariant-loop-txn l = map Some l.bodies.items ≡ map (body_in l.kept.store) (0 ∷ published (take l.txn-index l.kept.records.items))

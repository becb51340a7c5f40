use Rattle.std.proofs.Common.{◌≡◌, length}
use Rattle.dso_host.specs.HostStates.{ClientsStandFor}
use Rattle.dso_host.proofs.epoch.unlock_all.Given as goal

-- the cells that are out stand for what is named, as many as were taken out
abbrev pub invariant-loop-node : goal.invariant-loop-node
invariant-loop-node g l = ClientsStandFor g.N.Naming.cluster 1 l.cells.items × (length l.cells.items ≡ length l.yielded)

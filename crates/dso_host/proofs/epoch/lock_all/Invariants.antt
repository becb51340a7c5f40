use Rattle.std.proofs.Common.{ℕ, ◌≡◌, length, vec_len}
use Rattle.dso_host.specs.HostStates.{ClientsStandFor}
use Rattle.dso_host.proofs.epoch.lock_all.Given as goal

-- those that are left stand for what is named, from some client on; as many are locked as were yielded
abbrev pub invariant-loop-cell : goal.invariant-loop-cell
invariant-loop-cell g l = ((c : ℕ) × ClientsStandFor g.N.Naming.cluster c l.cell-iterator.rest.items) × (vec_len l.nodes ≡ length l.yielded)

use Rattle.std.specs.List.{sum_by}
use Rattle.std.proofs.Common.{◌-◌, ◌^◌, ◌≡◌, ◌∷◌, map, min, take}
use Rattle.dso_base.specs.Weight.{entry_weight_of}
use Rattle.dso_host.proofs.cells.Cells.weight.Given as goal

abbrev pub invariant-loop-cell : goal.invariant-loop-cell
invariant-loop-cell l = l.sum ≡ min (sum_by (λ log. sum_by entry_weight_of log.entries) (l.self.server.log ∷ map (λ cell. cell.log) (take l.cell-index l.self.clients.items))) (2 ^ 64 - 1)

use Rattle.std.proofs.Common.{◌≡◌, Some, filter, take}
use Rattle.dso_store.specs.Changes.{row_has}
use Rattle.dso_store.proofs.changes.sets_in.Given as goal

abbrev pub invariant-loop-set : goal.invariant-loop-set
invariant-loop-set l = l.held.items ≡ filter (λ set. row_has (Some l.row) set.object) (take l.set-index l.sets)

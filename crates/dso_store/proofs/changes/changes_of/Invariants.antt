use Rattle.std.proofs.Common.{◌≡◌, ◌++◌, Some, flat_map}
use Rattle.dso_store.specs.Changes.{messages_of, row_changes, all_changes}
use Rattle.dso_store.proofs.changes.changes_of.Given as goal

abbrev pub invariant-loop-other : goal.invariant-loop-other
invariant-loop-other l = messages_of l.changes.items ++ flat_map (λ e. row_changes l.client l.txn.sets e.0 (Some e.1)) l.other-iterator ≡ all_changes l.client l.txn.sets l.holders

use Rattle.std.proofs.Common.{◌≡◌}
use Rattle.std.specs.BTreeMap.{btree_map_len}
use Rattle.dso_law.specs.ServerWaiters.{without_client}
use Rattle.dso_legal.specs.JournalPassTables.{waiters_in}
use Rattle.dso_legal.proofs.journal_pass.WaiterTables.{leaving}
use Rattle.dso_legal.proofs.waiters.lose.Given as goal

abbrev pub invariant-loop-lock : goal.invariant-loop-lock
invariant-loop-lock l = leaving l.client l.before l.waiters ≡ (λ k. without_client l.client (waiters_in l.initial.before k))

abbrev pub decreases-loop-lock : goal.decreases-loop-lock
decreases-loop-lock l = btree_map_len l.before

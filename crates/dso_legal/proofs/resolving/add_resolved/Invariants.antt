use Rattle.std.proofs.Common.{◌≡◌, ◌++◌, drop}
use Rattle.dso_legal.specs.Committed.{resolved}
use Rattle.dso_legal.specs.JournalPassTables.{server_state_in, lists_left}
use Rattle.dso_legal.proofs.resolving.add_resolved.Given as goal

abbrev pub invariant-loop-event : goal.invariant-loop-event
invariant-loop-event l = l.history.items ++ resolved (drop l.event-index l.block) (lists_left (server_state_in l.lists).waiters l.gone) ≡ l.fn.history.items ++ resolved l.block (server_state_in l.lists).waiters

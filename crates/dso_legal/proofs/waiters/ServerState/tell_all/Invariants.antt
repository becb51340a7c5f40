use Rattle.std.proofs.Common.{◌≡◌, take}
use Rattle.dso_law.specs.Entries.{by_sent_down}
use Rattle.dso_law.specs.ServerWaiters.{waiters_by_sent}
use Rattle.dso_legal.specs.JournalPassTables.{waiters_in}
use Rattle.dso_legal.proofs.waiters.ServerState.tell_all.Given as goal

abbrev pub invariant-loop-sent : goal.invariant-loop-sent
invariant-loop-sent l = (l.self.lost ≡ l.fn.self.lost) × (waiters_in l.self.waiters ≡ (λ k. by_sent_down (waiters_by_sent k) (take l.sent-index l.messages) (waiters_in l.fn.self.waiters k)))

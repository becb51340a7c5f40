use Rattle.std.proofs.Common.{◌≡◌, ◌++◌, drop}
use Rattle.dso_law.specs.ServerWaiters.{lists_noted, wakes}
use Rattle.dso_server.specs.Sending.{sent_of}
use Rattle.dso_server.specs.Waiters.{lists_in}
use Rattle.dso_server.proofs.wakes.wake_all.Given as goal

abbrev pub invariant-loop-note : goal.invariant-loop-note
invariant-loop-note l = (sent_of l.messages.items ++ wakes (drop l.note-index l.notes) (lists_in l.waiters) ≡ sent_of l.initial.messages.items ++ wakes l.notes (lists_in l.initial.waiters))
    × (lists_noted (drop l.note-index l.notes) (lists_in l.waiters) ≡ lists_noted l.notes (lists_in l.initial.waiters))

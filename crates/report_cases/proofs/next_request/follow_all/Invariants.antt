use Rattle.std.proofs.Common.{take}
use Rattle.dso_machine.specs.Standing.{ThreadStands}
use Rattle.dso_plain.specs.History.{events_of}
use Rattle.report_cases.proofs.next_request.follow_all.Given as goal

-- the thread stands for its events among those so far
abbrev pub invariant-loop-event : goal.invariant-loop-event
invariant-loop-event l = ThreadStands l.code l.thread l.run (events_of l.thread (take l.event-index l.events))

use Rattle.std.proofs.Common.{◌≡◌, take}
use Rattle.dso_plain.specs.History.{end_of}
use Rattle.dso_plain.specs.HeapTables.{state_of}
use Rattle.dso_run.proofs.replay.play_all.Given as goal

-- the heap is the one after the events so far
abbrev pub invariant-loop-event : goal.invariant-loop-event
invariant-loop-event l = state_of l.plain ≡ end_of l.shape (take l.event-index l.events) (state_of l.fn.plain)

use Rattle.std.proofs.Common.{◌≡◌, [], take, reverse}
use Rattle.dso_plain.specs.History.{last_state}
use Rattle.dso_plain.specs.HeapTables.{state_of}
use Rattle.dso_legal.specs.Committed.{committed}
use Rattle.dso_legal.specs.JournalPass.{pass_state_of, without_history}
use Rattle.dso_legal.specs.JournalPassTables.{kept_in}
use Rattle.dso_run.proofs.replay.heap_after.Given as goal

-- the pass is the one after the entries so far, the heap the one after what they commit, and nothing waits to be played
abbrev pub invariant-loop-entry : goal.invariant-loop-entry
invariant-loop-entry l = (l.given.items ≡ []) × (kept_in l.pass ≡ without_history (pass_state_of (reverse (take l.entry-index l.entry-items)))) × (state_of l.plain ≡ last_state l.fn.shape (committed (reverse (take l.entry-index l.entry-items))))

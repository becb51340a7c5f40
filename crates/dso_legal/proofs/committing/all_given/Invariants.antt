use Rattle.std.proofs.Common.{◌≡◌, take, reverse}
use Rattle.dso_legal.specs.Committed.{committed}
use Rattle.dso_legal.specs.JournalPass.{pass_state_of, without_history}
use Rattle.dso_legal.specs.JournalPassTables.{kept_in}
use Rattle.dso_legal.proofs.committing.all_given.Given as goal

abbrev pub invariant-loop-entry : goal.invariant-loop-entry
invariant-loop-entry l = (kept_in l.kept ≡ without_history (pass_state_of (reverse (take l.entry-index l.entry-items)))) × (l.given.items ≡ committed (reverse (take l.entry-index l.entry-items)))

use Rattle.std.proofs.Common.{◌≡◌}
use Rattle.dso_table.proofs.objects.FirstNotes.{first_noting}
use Rattle.dso_table.proofs.notes.first_thread.Given as goal

abbrev pub invariant-loop-thread : goal.invariant-loop-thread
invariant-loop-thread l = first_noting l.object l.thread-iterator ≡ first_noting l.object l.notes.entries

use Rattle.dso_plain.proofs.laws.heap_reads.Goals as goal
use Rattle.dso_plain.proofs.histories.HeapReads.{count_never_falls, heap_reads}

pub returns-clause-never_falls : goal.returns-clause-never_falls
returns-clause-never_falls c = count_never_falls

pub returns-clause-none : goal.returns-clause-none
returns-clause-none c = heap_reads

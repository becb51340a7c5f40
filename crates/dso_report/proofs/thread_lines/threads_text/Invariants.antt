use Rattle.std.proofs.Common.{take}
use Rattle.dso_plain.specs.HeapTables.{state_of}
use Rattle.dso_report.specs.Report.{IsThreadsText}
use Rattle.dso_report.proofs.thread_lines.threads_text.Given as goal

abbrev pub invariant-loop-thread : goal.invariant-loop-thread
invariant-loop-thread l = IsThreadsText l.names (state_of l.plain) (take l.thread-index l.threads) l.text.items

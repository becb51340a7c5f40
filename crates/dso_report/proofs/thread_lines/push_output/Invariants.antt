use Rattle.std.proofs.Common.{◌≡◌, Some, take, reverse}
use Rattle.std.specs.Fmt.{◌++?◌}
use Rattle.dso_plain.specs.HeapTables.{state_of}
use Rattle.dso_report.specs.Report.{output_line}
use Rattle.dso_report.specs.Texts.{each_of}
use Rattle.dso_report.proofs.thread_lines.push_output.Given as goal

abbrev pub invariant-loop-at : goal.invariant-loop-at
invariant-loop-at l = Some l.fn.text.items ++? each_of (output_line l.texts) (take l.at (reverse ((state_of l.plain).output l.thread))) ≡ Some l.text.items

use Rattle.std.proofs.Common.{◌≡◌, Some, take}
use Rattle.std.specs.Fmt.{◌++?◌}
use Rattle.dso_report.specs.Report.{entry_text}
use Rattle.dso_report.specs.Texts.{each_of}
use Rattle.dso_report.proofs.map_lines.push_entries.Given as goal

abbrev pub invariant-loop-entry : goal.invariant-loop-entry
invariant-loop-entry l = Some l.fn.text.items ++? each_of (entry_text l.order.keys) (take l.entry-index l.entries) ≡ Some l.text.items

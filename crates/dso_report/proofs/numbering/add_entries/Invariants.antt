use Rattle.std.proofs.Common.{◌≡◌, take}
use Rattle.dso_report.specs.Numbering.{add_entries}
use Rattle.dso_report.proofs.numbering.add_entries.Given as goal

abbrev pub invariant-loop-entry : goal.invariant-loop-entry
invariant-loop-entry l = l.order.keys ≡ add_entries (take l.entry-index l.entries) l.fn.order.keys

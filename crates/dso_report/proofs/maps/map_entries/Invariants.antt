use Rattle.std.proofs.Common.{◌≡◌}
use Rattle.dso_report.specs.MapEntries.{entries_below}
use Rattle.dso_report.proofs.maps.map_entries.Given as goal

abbrev pub invariant-loop-slot : goal.invariant-loop-slot
invariant-loop-slot g l = l.entries.items ≡ entries_below (g.S.Seen.state l.seen) l.object l.slot

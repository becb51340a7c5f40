use Rattle.std.proofs.Common.{◌≡◌, ◌≤◌, ◌-◌, IfSome}
use Rattle.dso_keep.specs.Disk.{bytes_in}
use Rattle.dso_keep.specs.Reading.{IsWhole, StandBefore}
use Rattle.dso_keep.proofs.reading.records_of.Given as goal

abbrev pub invariant-loop-reading : goal.invariant-loop-reading
invariant-loop-reading g l = record {
  same : g.D.Disk.file l.disk ≡ g.D.Disk.file l.fn.disk;
  sound : g.D.Disk.faults l.disk ≡ g.D.Disk.faults l.fn.disk;
  count : l.reading.count ≡ l.count;
  within : l.reading.at ≤ l.reading.count;
  whole : IsWhole l.shape l.reading.kept;
  stand : IfSome (g.D.Disk.file l.fn.disk) (λ f. StandBefore l.reading.kept.records.items l.reading.at (bytes_in f));
}

abbrev pub decreases-loop-reading : goal.decreases-loop-reading
decreases-loop-reading g l = l.reading.count - l.reading.at

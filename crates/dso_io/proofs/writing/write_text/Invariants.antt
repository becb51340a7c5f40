use Rattle.std.proofs.Common.{length, take, ◌-◌, ◌≡◌, ◌≤◌}
use Rattle.dso_io.specs.Environment.{taken_after}
use Rattle.dso_io.specs.Giving.{GaveRests}
use Rattle.dso_io.proofs.writing.write_text.Given as goal

abbrev pub invariant-loop-written : goal.invariant-loop-written
invariant-loop-written g l = record {
  within : l.written ≤ length l.text;
  taken : g.K.Sink.taken l.out ≡ taken_after (g.K.Sink.taken l.initial.out) (take l.written l.text);
  faults : g.K.Sink.faults l.out ≡ g.K.Sink.faults l.initial.out;
  gave : GaveRests g.K.Sink.puts l.text l.initial.out l.written l.out;
}

abbrev pub decreases-loop-written : goal.decreases-loop-written
decreases-loop-written g l = length l.text - l.written

use Rattle.std.proofs.Common.{◌≡◌, ◌++◌, length}
use Rattle.dso_session.specs.Ends.{IsInOrder}
use Rattle.dso_world.specs.Link.{gives, emptied}
use Rattle.dso_world.proofs.pump.pump.Given as goal

abbrev pub invariant-loop-frame : goal.invariant-loop-frame
invariant-loop-frame g l = record {
  frames : l.channel.items ++ gives l.end ≡ l.initial.channel.items ++ gives l.initial.end;
  end : emptied l.end ≡ emptied l.initial.end;
  order : IsInOrder l.end;
}

abbrev pub decreases-loop-frame : goal.decreases-loop-frame
decreases-loop-frame g l = length (gives l.end)

use Rattle.dso_port.specs.Ports.{EndKeeps, HasGiven, frames_left, given}
use Rattle.rtrb.specs.Ring.{SameProducer}
use Rattle.dso_port.proofs.gift.give_all.Given as goal

-- what was given so far goes on
abbrev pub invariant-loop : goal.invariant-loop
invariant-loop g l = record {
  keeps : EndKeeps g.S.Carried.as_both l.session;
  ring : SameProducer l.initial.out l.out;
  gives : HasGiven g.S.Carried.as_both g.S.Carried.cells g.S.Carried.is l.initial.session l.session (given l.initial.out) (given l.out);
}

abbrev pub decreases-loop : goal.decreases-loop
decreases-loop g l = frames_left l.session

use Rattle.std.proofs.Common.{rules, ◌∙◌}
use Rattle.dso_port.specs.Ports.{given}
use Rattle.dso_port.proofs.ends.Given.{given_through, stopped_through}
use Rattle.dso_port.proofs.gift.give_all.Goals as goal

pub loop-preserved : goal.loop-preserved
loop-preserved g c = record {
  keeps = c.give_one.ensures.keeps;
  ring = (
    (
      c.give_one.ensures.ring.0.0 ∙ c.loop.invariant.ring.0.0,
      c.give_one.ensures.ring.0.1 ∙ c.loop.invariant.ring.0.1,
      c.give_one.ensures.ring.0.2 ∙ c.loop.invariant.ring.0.2,
      c.give_one.ensures.ring.0.3 ∙ c.loop.invariant.ring.0.3,
    ),
    c.give_one.ensures.ring.1 ∙ c.loop.invariant.ring.1,
  );
  gives = given_through g.S.Carried.as_both g.S.Carried.cells g.S.Carried.is c.args.session.now c.loop.session c.give_one.new.session
      (given c.args.out.now) (given c.loop.out) (given c.give_one.new.out) c.loop.invariant.gives c.in_ok-give_one.ensures.gives;
}

pub returns-clause-gives : goal.returns-clause-gives
returns-clause-gives g c = given_through g.S.Carried.as_both g.S.Carried.cells g.S.Carried.is c.args.session.now c.loop.session c.give_one.new.session
    (given c.args.out.now) (given c.loop.out) (given c.give_one.new.out) c.loop.invariant.gives c.in_ok-give_one.ensures.gives

pub returns-in_err-give_one-clause-stops : goal.returns-in_err-give_one-clause-stops
returns-in_err-give_one-clause-stops g c =
    let stops = stopped_through g.S.Carried.as_both g.S.Carried.cells g.S.Carried.is g.S.Carried.can_go c.in_err-give_one.field-0.0 c.args.session.now c.loop.session
    (given c.args.out.now) (given c.loop.out) c.loop.invariant.gives c.in_err-give_one.ensures.stops in
    let told = c.from_residual.ensures in
    search rules

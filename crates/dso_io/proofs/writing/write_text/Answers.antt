use Rattle.std.proofs.Common.{arith, rules, ◌∙◌, refl}
use Rattle.dso_io.specs.Giving.{nothing, rest}
use Rattle.dso_io.proofs.SinkPieces.{taken_after-more}
use Rattle.dso_io.proofs.writing.write_text.Goals as goal

-- nothing was given yet
pub loop-written-init : goal.loop-written-init
loop-written-init g c = record { within = omega arith; taken = search rules; faults = refl; gave = nothing }

-- all that was left was given
pub loop-written-preserved : goal.loop-written-preserved
loop-written-preserved g c = record {
  within = omega (arith, c.in_ok-written.ensures.within);
  taken =
      taken_after-more (g.K.Sink.taken c.args.out.now) (g.K.Sink.taken c.put.new.self) c.args.text.now c.loop-written.written c.in_ok-written.field-0
      (cc (c.in_ok-written.ensures.taken, c.loop-written.invariant.taken, c.split_at.ensures.back));
  faults = c.in_ok-written.ensures.sound ∙ c.loop-written.invariant.faults;
  gave =
      rest c.loop-written.written c.in_ok-written.field-0 c.loop-written.out c.put.new.self c.loop-written.invariant.gave c.loop-written-test.true
      (rw c.split_at.ensures.back at c.in_ok-written.ensures.told);
}

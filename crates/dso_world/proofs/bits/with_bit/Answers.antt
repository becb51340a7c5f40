use Rattle.std.proofs.Common.{w64}
use Rattle.std.proofs.lemmas.Nat.Bits.{bit_at_set_same}
use Rattle.dso_world.proofs.asking.Words.{kept_with}
use Rattle.dso_world.proofs.bits.with_bit.Goals as goal

pub returns-then-bit-lt64-clause-here : goal.returns-then-bit-lt64-clause-here
returns-then-bit-lt64-clause-here c = λ within. bit_at_set_same w64 _ _ within

pub returns-then-bit-lt64-clause-others : goal.returns-then-bit-lt64-clause-others
returns-then-bit-lt64-clause-others c = λ i was. kept_with c.args.word c.args.bit i c.if-bit-lt64.true was

use Rattle.std.proofs.Common.{w64}
use Rattle.std.proofs.lemmas.Nat.Bits.{bit_at_clear_other, bit_at_clear_same}
use Rattle.dso_world.proofs.asking.Words.{fewer_without}
use Rattle.dso_world.proofs.bits.without_bit.Goals as goal

pub returns-then-bit-lt64-clause-here : goal.returns-then-bit-lt64-clause-here
returns-then-bit-lt64-clause-here c = λ within. bit_at_clear_same w64 _ _ within

pub returns-then-bit-lt64-clause-others : goal.returns-then-bit-lt64-clause-others
returns-then-bit-lt64-clause-others c = bit_at_clear_other w64 _ _ c.if-bit-lt64.true

pub returns-then-bit-lt64-clause-fewer : goal.returns-then-bit-lt64-clause-fewer
returns-then-bit-lt64-clause-fewer c = λ within. fewer_without c.args.word c.args.bit within

use Rattle.std.proofs.Common.{w64, arith}
use Rattle.std.proofs.lemmas.Nat.Bits.{bit_at-trailing_zeros}
use Rattle.dso_world.proofs.bits.first_bit.Goals as goal

pub returns-clause-there : goal.returns-clause-there
returns-clause-there c =
    let some = c.requires in
    (bit_at-trailing_zeros w64 c.args.word (omega (arith, some)) c.ranges.word.fits).1

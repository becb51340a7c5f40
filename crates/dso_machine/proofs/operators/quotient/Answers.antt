use Rattle.std.proofs.Common.{ap₂, ◌∙◌, arith, w64, to_z-of_z}
use Rattle.std.specs.Int.{int_wrapping_div}
use Rattle.dso_machine.proofs.values.Arithmetic.{quotient_wraps}
use Rattle.dso_machine.proofs.operators.quotient.Goals as goal

pub returns : goal.returns
returns c =
    let divisor = to_z-of_z c.ranges.divisor in
    let operands = ap₂ (int_wrapping_div w64) (to_z-of_z c.ranges.dividend) divisor in
    let result = c.wrapping_div.ensures ∙ operands ∙ quotient_wraps _ _ c.ranges.dividend in
    grind (arith, result, to_z-of_z, divisor)

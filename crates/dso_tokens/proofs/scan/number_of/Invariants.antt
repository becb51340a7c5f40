use Rattle.std.proofs.Common.{◌≡◌, take}
use Rattle.std.specs.Prelude.{min}
use Rattle.dso_tokens.specs.Token.{decimal}
use Rattle.dso_tokens.proofs.scan.number_of.Given as goal

-- the value so far, or the bound where it is beyond that
abbrev pub invariant-loop-digit : goal.invariant-loop-digit
invariant-loop-digit l = l.value ≡ min (decimal (take l.digit-index l.digits)) 9223372036854775808

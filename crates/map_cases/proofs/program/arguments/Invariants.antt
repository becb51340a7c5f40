use Rattle.std.proofs.Common.{◌≡◌, All, length}
use Rattle.map_cases.specs.CallCode.{IsPart}
use Rattle.map_cases.proofs.program.arguments.Given as goal

abbrev pub invariant-loop-value : goal.invariant-loop-value
invariant-loop-value l = record { parts : All IsPart l.args; count : length l.args ≡ l.value-index }

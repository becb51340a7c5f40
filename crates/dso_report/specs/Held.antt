-- What a field holds.
use Rattle.std.specs.Prelude.{ℤ, pos, Option, Some}
use Rattle.dso_base.specs.declared.value.Value.{Value}
use Rattle.dso_base.specs.declared.value.Value.TheVariants as value

-- the number that a field holds; 0 where it holds none
abbrev pub number_in : Option Value → ℤ
number_in (Some (value.Long number)) = number
number_in held = pos 0

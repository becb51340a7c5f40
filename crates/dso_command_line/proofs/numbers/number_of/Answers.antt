use Rattle.std.proofs.Common.{arith, ◌≡◌, ◌^◌, ◌≤◌, ◌<◌, length, MatchOption, true, ℕ, Result, Ok, Err}
use Rattle.std.specs.Result.{OkIff, result_ok}
use Rattle.std.specs.Str.Parse.{digits_value}
use Rattle.std.proofs.lemmas.Str.Parse.{numerals_by_value, parse_digits, tells_all_ascii_digits}
use Rattle.std.specs.Str.{all_ascii_digits}
use Rattle.dso_command_line.proofs.numbers.number_of.Goals as goal

-- what parsing tells of one digit or more
tells : {E : Type 0} (result : Result ℕ E) (count value : ℕ) → 1 ≤ count → OkIff result ((0 < count) × (value < 2 ^ 64)) value
    → MatchOption (result_ok result) (2 ^ 64 ≤ value) (λ number. number ≡ value)
tells (Ok number) count value some is = is.1
tells (Err e) count value some not = grind (arith, not, some)

pub returns : goal.returns
returns c =
    let own = numerals_by_value (λ ds. all_ascii_digits ds ≡ true) tells_all_ascii_digits in
    let is = parse_digits own 64 c.args.word.now c.parse.result c.parse.ensures.value.0 c.requires.digits in
    rw c.ok.ensures.value (tells c.parse.result (length c.args.word.now) (digits_value 10 c.args.word.now) c.requires.some is)

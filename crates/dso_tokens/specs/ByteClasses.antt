-- The classes of bytes that runs are made of.
use Rattle.std.specs.Prelude.{ℕ, Bool}
use Rattle.dso_tokens.specs.declared.bytes.Class.{Class}
use Rattle.dso_tokens.specs.declared.bytes.Class.TheVariants as class
use Rattle.dso_tokens.specs.Bytes.{is_of_line, is_digit, is_word}

-- the bytes of a class
abbrev pub is_in : Class → ℕ → Bool
is_in class.Line = is_of_line
is_in class.Digit = is_digit
is_in class.Word = is_word

-- The limits of a token.
use Rattle.std.specs.Prelude.{ℕ}

-- the most bytes of a name
abbrev pub longest_name : ℕ
longest_name = 64

-- the most bytes that a text literal may stand for
abbrev pub longest_content : ℕ
longest_content = 255

-- the largest number
abbrev pub largest_number : ℕ
largest_number = 9223372036854775807

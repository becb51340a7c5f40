-- The limits of a program text.
use Rattle.std.specs.Prelude.{ℕ}

-- the most bytes of a text
abbrev pub longest_text : ℕ
longest_text = 1048576

-- the most levels of nesting
abbrev pub most_levels : ℕ
most_levels = 64

-- The bytes of a program, by what they may stand for.
use Rattle.std.specs.Prelude.{ℕ, ◌+◌, if◌then◌else◌, ◌==◌, ◌||◌, ◌&&◌, not, nat_le, Bool, false, List, [], ◌∷◌}
use Rattle.std.specs.Char.{is_ascii_alphabetic, is_ascii_digit}

-- what is read: its bytes
abbrev pub Text : Type 0
Text = List ℕ

-- the visible bytes and the space
abbrev pub is_printable : ℕ → Bool
is_printable b = nat_le 32 b && nat_le b 126

-- tab, line feed, carriage return, space
abbrev pub is_white : ℕ → Bool
is_white b = b == 9 || (b == 10 || (b == 13 || b == 32))

-- the bytes that a program may have
abbrev pub is_allowed : ℕ → Bool
is_allowed b = is_white b || is_printable b

-- those that a line may have: all but its end
abbrev pub is_of_line : ℕ → Bool
is_of_line b = is_allowed b && not (b == 10)

-- what a name begins with
abbrev pub is_letter : ℕ → Bool
is_letter b = is_ascii_alphabetic b || b == 95

-- what a number is made of
abbrev pub is_digit : ℕ → Bool
is_digit b = is_ascii_digit b

-- what a name goes on with
abbrev pub is_word : ℕ → Bool
is_word b = is_letter b || is_digit b

-- whether the first byte is such a byte
abbrev pub begins : (ℕ → Bool) → Text → Bool
begins p [] = false
begins p (b ∷ rest) = p b

-- a line ends behind its line feed
abbrev pub line_after : ℕ → ℕ → ℕ
line_after b line = if b == 10 then line + 1 else line

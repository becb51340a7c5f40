-- The tokens of a text: what bytes are which token, and where a token ends.
use Rattle.std.specs.Prelude.{◌≡◌, ◌≢◌, ℕ, ◌+◌, ◌*◌, ◌-◌, ◌≤◌, ◌||◌, ◌==◌, nat_le, true, false, if◌then◌else◌, []}
use Rattle.std.specs.Prelude.{◌∷◌, ◌++◌, length, fold, flat_map, Option, Some, None, ℤ, pos}
use Rattle.std.specs.List.{list_all}
use Rattle.dso_tokens.specs.declared.token.Keyword.{Keyword}
use Rattle.dso_tokens.specs.declared.token.Mark.{Mark}
use Rattle.dso_tokens.specs.declared.token.Form.{Form}
use Rattle.dso_tokens.specs.declared.token.Form.TheVariants as form
use Rattle.dso_tokens.specs.Bytes.{Text, is_letter, is_digit, is_word, is_printable, begins}
use Rattle.dso_tokens.specs.TokenLimits.{longest_name, longest_content, largest_number}
use Rattle.dso_tokens.specs.Spelling.{word_of, symbol_of}

-- the value of a row of decimal digits
abbrev pub decimal : Text → ℕ
decimal = fold (λ value digit. 10 * value + (digit - 48)) 0

-- the value of a number, none where it is too wide
abbrev pub number_of : Text → Option ℤ
number_of digits = if nat_le (decimal digits) largest_number then Some (pos (decimal digits)) else None

-- in a text the quote and the backslash have a backslash before them
abbrev pub escaped : ℕ → Text
escaped b = if b == 34 || b == 92 then 92 ∷ b ∷ [] else b ∷ []

-- The bytes `word`, with `rest` behind them, are this token: the longest that stands there.
abbrev pub IsToken : Form → Text → Text → Type 0
IsToken (form.Name name) word rest =
    (word ≡ name) × (begins is_letter word ≡ true) × (list_all is_word word ≡ true) × (begins is_word rest ≡ false) ×
    (length word ≤ longest_name)
    × ((reserved : Keyword) → word ≢ word_of reserved)
IsToken (form.Keyword reserved) word rest = (word ≡ word_of reserved) × (begins is_word rest ≡ false)
IsToken (form.Number value) word rest =
    (value ≡ number_of word) × (begins is_digit word ≡ true) × (list_all is_digit word ≡ true) ×
    (begins is_word rest ≡ false)
IsToken (form.Text content) word rest =
    (word ≡ 34 ∷ flat_map escaped content ++ 34 ∷ []) × (list_all is_printable content ≡ true) ×
    (length content ≤ longest_content)
IsToken (form.Mark mark) word rest =
    (word ≡ symbol_of mark) ×
    ((other : Mark) (behind : Text) → word ++ rest ≡ symbol_of other ++ behind
    → length (symbol_of other) ≤ length word)

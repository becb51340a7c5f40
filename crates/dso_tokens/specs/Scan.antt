-- What stands at the front of a text, by its first bytes: how the reader of tokens finds it.
-- `Token` says what a token is; `TokenLaws` of the proofs says that this finds exactly that.
use Rattle.std.specs.Prelude.{ℕ, ◌+◌, ◌||◌, ◌&&◌, ◌==◌, nat_le, Bool, true, false, if◌then◌else◌, List, [], ◌∷◌}
use Rattle.std.specs.Prelude.{length, take, drop, find, Option, Some, None}
use Rattle.std.specs.List.{prefix_len, starts_with}
use Rattle.std.specs.Str.{bytes_eq}
use Rattle.std.specs.Prelude.{nat_eq}
use Rattle.dso_tokens.specs.declared.token.Keyword.{Keyword}
use Rattle.dso_tokens.specs.declared.token.Mark.{Mark}
use Rattle.dso_tokens.specs.declared.token.Form.{Form}
use Rattle.dso_tokens.specs.declared.token.Form.TheVariants as form
use Rattle.dso_tokens.specs.declared.literal.LiteralByte.{LiteralByte}
use Rattle.dso_tokens.specs.declared.literal.LiteralByte.TheVariants as literal_byte
use Rattle.dso_tokens.specs.declared.scan.Front.{Front}
use Rattle.dso_tokens.specs.declared.scan.Front.TheVariants as front
use Rattle.dso_tokens.specs.Bytes.{Text, is_white, is_allowed, is_of_line, is_letter, is_digit, is_word, is_printable}
use Rattle.dso_tokens.specs.Bytes.{begins}
use Rattle.dso_tokens.specs.Spelling.{word_of, symbol_of, every_keyword, double_marks, single_marks}
use Rattle.dso_tokens.specs.TokenLimits.{longest_name, longest_content}
use Rattle.dso_tokens.specs.Token.{number_of}

-- a token, and how many bytes it takes
abbrev pub Found : Type 0
Found = Option (Form × ℕ)

-- the first of these reserved words that is written so
abbrev pub keyword_among : List Keyword → Text → Option Keyword
keyword_among keywords word = find (λ reserved. bytes_eq (word_of reserved) word) keywords

-- the reserved word that is written so
abbrev pub keyword_of : Text → Option Keyword
keyword_of = keyword_among every_keyword

-- a word of so many bytes: a reserved word, or else a name where it is not too long
abbrev pub name_of : ℕ → Text → Option Keyword → Found
name_of count word (Some reserved) = Some (form.Keyword reserved, count)
name_of count word None = if nat_le count longest_name then Some (form.Name word, count) else None

-- the letters, digits and underscores at the front
abbrev pub word_at : Text → Found
word_at text = let count = prefix_len is_word text in name_of count (take count text) (keyword_of (take count text))

-- the digits at the front, with no letter behind them
abbrev pub number_at : Text → Found
number_at text =
    let count = prefix_len is_digit text in
    if begins is_word (drop count text) then None else Some (form.Number (number_of (take count text)), count)

-- one more byte of content, after this many bytes of the text
abbrev pub with_byte : ℕ → Option (Text × ℕ) → Option (Text × ℕ)
with_byte b None = None
with_byte b (Some found) = Some (b ∷ found.0, found.1 + 1)

-- one more byte that is no content
abbrev pub one_further : Option (Text × ℕ) → Option (Text × ℕ)
one_further None = None
one_further (Some found) = Some (found.0, found.1 + 1)

-- what a byte of a text literal is: behind a backslash a quote or a backslash, else the closing quote, a backslash or
-- a printable byte
abbrev pub literal_byte_of : Bool → ℕ → LiteralByte
literal_byte_of true b = if b == 34 || b == 92 then literal_byte.Content else literal_byte.Bad
literal_byte_of false b = if b == 34 then literal_byte.Close
    else (if b == 92 then literal_byte.Backslash
    else (if is_printable b then literal_byte.Content else literal_byte.Bad))

-- what is found from a byte on, by what that byte is and what is found behind it, where it is a backslash and where not
abbrev pub content_by : LiteralByte → ℕ → Option (Text × ℕ) → Option (Text × ℕ) → Option (Text × ℕ)
content_by literal_byte.Close b plain after = Some ([], 1)
content_by literal_byte.Backslash b plain after = one_further after
content_by literal_byte.Content b plain after = with_byte b plain
content_by literal_byte.Bad b plain after = None

-- The content of a text literal, from behind its opening quote or, where that is told, from behind a backslash, and
-- how many bytes there are up to its end and with the closing quote.
abbrev pub content_at : Bool → Text → Option (Text × ℕ)
content_at after_backslash [] = None
content_at after_backslash (b ∷ rest) = content_by (literal_byte_of after_backslash b) b (content_at false rest)
    (content_at true rest)

-- a literal whose content is not too long
abbrev pub literal_of : Option (Text × ℕ) → Found
literal_of None = None
literal_of (Some found) = if nat_le (length found.0) longest_content then Some (form.Text found.0, found.1 + 1)
    else None

-- the symbol of these that stands at the front
abbrev pub mark_among : List Mark → Text → Option Mark
mark_among marks text = find (λ mark. starts_with nat_eq text (symbol_of mark)) marks

-- the symbol with its length, the first of the two that there is
abbrev pub mark_or : Option Mark → Option Mark → Found
mark_or (Some mark) other = Some (form.Mark mark, 2)
mark_or None (Some mark) = Some (form.Mark mark, 1)
mark_or None None = None

-- a symbol of two bytes, or else of one
abbrev pub mark_at : Text → Found
mark_at text = mark_or (mark_among double_marks text) (mark_among single_marks text)

-- the token at the front of a text, none where no token begins
abbrev pub token_at : Text → Found
token_at [] = None
token_at (b ∷ rest) =
    if is_letter b then word_at (b ∷ rest)
    else (if is_digit b then number_at (b ∷ rest)
    else (if b == 34 then literal_of (content_at false rest) else mark_at (b ∷ rest)))

-- two slashes
abbrev pub begins_comment : Text → Bool
begins_comment [] = false
begins_comment (b ∷ rest) = b == 47 && begins (λ c. c == 47) rest

-- a token, or the fault that there is none
abbrev pub front_of : Found → Front
front_of None = front.BadToken
front_of (Some found) = front.Token found.0 found.1

-- what a text begins with
abbrev pub front_at : Text → Front
front_at [] = front.End
front_at (b ∷ rest) =
    if is_white b then front.Gap 1
    else (if begins_comment (b ∷ rest) then front.Gap (2 + prefix_len is_of_line (drop 1 rest))
    else (if is_allowed b then front_of (token_at (b ∷ rest)) else front.BadByte))

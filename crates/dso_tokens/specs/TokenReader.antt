-- How the tokens that are left are taken, as functions: each gives what it took and what is left, or why and where
-- reading stops.
use Rattle.std.specs.Prelude.{ℕ, zero, suc, Bool, true, false, if◌then◌else◌, ◌==◌, List, [], ◌∷◌, Option, Some, None}
use Rattle.std.specs.Prelude.{Result, Ok, Err}
use Rattle.std.specs.Str.{bytes_eq}
use Rattle.dso_base.specs.declared.op.Op.{Op}
use Rattle.dso_base.specs.declared.value.Kind.{Kind}
use Rattle.dso_tokens.specs.declared.token.Keyword.{Keyword}
use Rattle.dso_tokens.specs.declared.token.Mark.{Mark}
use Rattle.dso_tokens.specs.declared.token.Form.{Form}
use Rattle.dso_tokens.specs.declared.token.Form.TheVariants as form
use Rattle.dso_tokens.specs.declared.token.Token.{Token}
use Rattle.dso_tokens.specs.Spelling.{word_of, symbol_of}
use Rattle.dso_tokens.specs.Operators.{kind_of, operator_of, sign_of}

-- a row of tokens
abbrev pub Tokens : Type 0
Tokens = List Token

-- the tokens that are left, and the levels that may still be opened
pub record Input : Type 0 where
  pub tokens : Tokens
  pub room : ℕ

-- why reading stops
pub data StopCause : Type 0 where
  unexpected : StopCause
  too_wide : StopCause
  too_deep : StopCause

-- what is read and what is left, or why and where reading stops
abbrev pub Outcome : Type 0 → Type 0
Outcome A = Result (A × Input) (StopCause × Tokens)

-- what reads something from the tokens that are left
abbrev pub Parser : Type 0 → Type 0
Parser A = Input → Outcome A

-- one step and then another, where the first reads something
abbrev pub and_then : {A B : Type 0} → Outcome A → (A → Parser B) → Outcome B
and_then (Ok p) f = f p.0 p.1
and_then (Err stop) f = Err stop

-- takes no token
abbrev pub pure : {A : Type 0} → A → Parser A
pure a = λ i. Ok (a, i)

-- the next token is not expected
abbrev pub refuse : {A : Type 0} → Parser A
refuse i = Err (unexpected, i.tokens)

-- the symbol that a token is
abbrev pub mark_of : Form → Option Mark
mark_of (form.Mark mark) = Some mark
mark_of other = None

-- the reserved word that a token is
abbrev pub keyword_of : Form → Option Keyword
keyword_of (form.Keyword word) = Some word
keyword_of other = None

-- whether a symbol is this one
abbrev pub is_mark : Mark → Option Mark → Bool
is_mark mark None = false
is_mark mark (Some other) = bytes_eq (symbol_of mark) (symbol_of other)

-- whether a reserved word is this one
abbrev pub is_keyword : Keyword → Option Keyword → Bool
is_keyword word None = false
is_keyword word (Some other) = bytes_eq (word_of word) (word_of other)

-- the form of the next token, if there is one
abbrev pub next_form : Tokens → Option Form
next_form [] = None
next_form (t ∷ rest) = Some t.form

-- the symbol that is next
abbrev pub next_mark : Tokens → Option Mark
next_mark [] = None
next_mark (t ∷ rest) = mark_of t.form

-- the reserved word that is next
abbrev pub next_keyword : Tokens → Option Keyword
next_keyword [] = None
next_keyword (t ∷ rest) = keyword_of t.form

-- takes the next token, whatever it is
abbrev pub take_from : ℕ → Tokens → Outcome Token
take_from room [] = Err (unexpected, [])
take_from room (t ∷ rest) = Ok (t, record { tokens = rest; room = room })

-- takes the next token
abbrev pub take_any : Parser Token
take_any i = take_from i.room i.tokens

-- takes this symbol
abbrev pub take_mark : Mark → Parser Token
take_mark mark i = if is_mark mark (next_mark i.tokens) then take_any i else refuse i

-- takes this reserved word
abbrev pub take_keyword : Keyword → Parser Token
take_keyword word i = if is_keyword word (next_keyword i.tokens) then take_any i else refuse i

-- takes a level from the room, for the next token
abbrev pub enter_at : Tokens → ℕ → Outcome (Unit {0})
enter_at tokens zero = Err (too_deep, tokens)
enter_at tokens (suc room) = Ok (tt, record { tokens = tokens; room = room })

-- takes a level from the room that is left
abbrev pub enter : Parser (Unit {0})
enter i = enter_at i.tokens i.room

-- gives a level back
abbrev pub leave : Parser (Unit {0})
leave i = Ok (tt, record { tokens = i.tokens; room = suc i.room })

-- takes a symbol that opens a level
abbrev pub open_mark : Mark → Parser Token
open_mark mark i = if is_mark mark (next_mark i.tokens) then and_then (enter i) (λ _. take_any) else refuse i

-- takes a symbol that closes a level
abbrev pub close_mark : Mark → Parser Token
close_mark mark i = and_then (take_mark mark i) (λ t j. and_then (leave j) (λ _. pure t))

-- the operator that a token is, of this rank
abbrev pub of_rank : ℕ → Option (ℕ × Op) → Option Op
of_rank rank None = None
of_rank rank (Some p) = if p.0 == rank then Some p.1 else None

-- the operator that a symbol is
abbrev pub operator_at : Option Mark → Option (ℕ × Op)
operator_at None = None
operator_at (Some mark) = operator_of mark

-- the sign that a symbol is
abbrev pub sign_at : Option Mark → Option Op
sign_at None = None
sign_at (Some mark) = sign_of mark

-- the kind that a reserved word is
abbrev pub kind_at : Option Keyword → Option Kind
kind_at None = None
kind_at (Some word) = kind_of word

-- whether a token is a number that is too wide
abbrev pub is_wide : Option Form → Bool
is_wide (Some (form.Number None)) = true
is_wide other = false

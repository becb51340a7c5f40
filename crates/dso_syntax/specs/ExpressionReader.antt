-- A reader of expressions over tokens, as a function, step by step as a parser goes. It reads exactly what the
-- relations of `Grammar` have: `read_exactly` says so.
use Rattle.std.specs.Prelude.{ℕ, zero, suc, if◌then◌else◌, List, [], ◌∷◌, length, Option, Some, None, Ok, Err}
use Rattle.dso_base.specs.declared.op.Op.{Op}
use Rattle.dso_base.specs.declared.value.Kind.{Kind}
use Rattle.dso_tokens.specs.declared.token.Keyword.TheVariants as k
use Rattle.dso_tokens.specs.declared.token.Mark.TheVariants as m
use Rattle.dso_tokens.specs.declared.token.Form.{Form}
use Rattle.dso_tokens.specs.declared.token.Form.TheVariants as form
use Rattle.dso_tokens.specs.declared.token.Token.{Token}
use Rattle.dso_syntax.specs.declared.tree.Ident.{Ident}
use Rattle.dso_syntax.specs.declared.tree.ExprTree.{ExprTree}
use Rattle.dso_syntax.specs.declared.tree.ExprForm.{ExprForm}
use Rattle.dso_syntax.specs.declared.tree.ExprForm.TheVariants as e
pub use Rattle.dso_tokens.specs.TokenReader.{Input, StopCause, unexpected, too_wide, too_deep, Outcome, Parser}
pub use Rattle.dso_tokens.specs.TokenReader.{and_then, pure, refuse}
pub use Rattle.dso_tokens.specs.TokenReader.{mark_of, keyword_of, is_mark, is_keyword, next_form, next_mark}
pub use Rattle.dso_tokens.specs.TokenReader.{next_keyword, is_wide}
pub use Rattle.dso_tokens.specs.TokenReader.{take_from, take_any, take_mark, take_keyword, enter_at, enter, leave}
pub use Rattle.dso_tokens.specs.TokenReader.{open_mark, close_mark}
pub use Rattle.dso_tokens.specs.TokenReader.{of_rank, operator_at, sign_at, kind_at}
use Rattle.dso_syntax.specs.Grammar.{Tokens, expression, line_of, plain_of, top_rank}

-- the name that a token is, by its form
abbrev pub name_by : ℕ → Token → Tokens → Form → Outcome Ident
name_by room t rest (form.Name name) = Ok (record { line = t.line; name = name }, record { tokens = rest; room = room })
name_by room t rest other = Err (unexpected, t ∷ rest)

-- the name that is next
abbrev pub name_from : ℕ → Tokens → Outcome Ident
name_from room [] = Err (unexpected, [])
name_from room (t ∷ rest) = name_by room t rest t.form

-- takes a name
abbrev pub take_name : Parser Ident
take_name i = name_from i.room i.tokens

-- one or more with commas between; the number bounds how many
abbrev pub listed : Parser ExprTree → ℕ → Parser (List ExprTree)
listed item zero i = refuse i
listed item (suc n) i = and_then (item i) (λ a j.
    if is_mark m.Comma (next_mark j.tokens)
    then and_then (take_any j) (λ _ l. and_then (listed item n l) (λ all. pure (a ∷ all))) else pure (a ∷ []) j)

-- the expression that the next token is by itself
abbrev pub plain_at : Tokens → Option ExprForm
plain_at [] = None
plain_at (t ∷ rest) = plain_of t.form

-- The number bounds how many levels there are to open, and `deeper` reads a whole expression after one of them was
-- opened.
module _ (deeper : Parser ExprTree) where
  -- behind the opening bracket of a call
  abbrev pub arguments : Parser (List ExprTree)
  arguments i = if is_mark m.CloseParen (next_mark i.tokens) then Ok ([], i) else listed deeper (length i.tokens) i

  -- the arguments of a call, from the opening parenthesis on
  abbrev pub call_suffix : ExprTree → Ident → Parser ExprTree
  call_suffix a name i =
      and_then (open_mark m.OpenParen i)
      (λ _ j. and_then (arguments j)
      (λ all l. and_then (close_mark m.CloseParen l) (λ _. pure (expression (line_of a) (e.Call a name all)))))

  -- a field, or a call where an opening parenthesis follows the name
  abbrev pub field_suffix : ExprTree → Ident → Parser ExprTree
  field_suffix a name i = if is_mark m.OpenParen (next_mark i.tokens) then call_suffix a name i
      else Ok (expression (line_of a) (e.Field a name), i)

  -- a dot, a name and what follows
  abbrev pub dot_suffix : ExprTree → Parser ExprTree
  dot_suffix a i = and_then (open_mark m.Dot i) (λ _ j. and_then (take_name j) (λ name. field_suffix a name))

  -- an index in brackets
  abbrev pub element_suffix : ExprTree → Parser ExprTree
  element_suffix a i =
      and_then (open_mark m.OpenBracket i)
      (λ _ j. and_then (deeper j)
      (λ b l. and_then (take_mark m.CloseBracket l) (λ _. pure (expression (line_of a) (e.Elem a b)))))

  -- the suffixes behind an expression; the number bounds how many
  abbrev pub suffixes : ℕ → ExprTree → Parser ExprTree
  suffixes zero a i = if is_mark m.Dot (next_mark i.tokens) then Err (too_deep, i.tokens)
      else (if is_mark m.OpenBracket (next_mark i.tokens) then Err (too_deep, i.tokens) else Ok (a, i))
  suffixes (suc n) a i =
      if is_mark m.Dot (next_mark i.tokens) then and_then (dot_suffix a i) (suffixes n)
      else (if is_mark m.OpenBracket (next_mark i.tokens) then and_then (element_suffix a i) (suffixes n)
      else Ok (a, i))

  -- behind the opening parenthesis
  abbrev pub parens : ℕ → Parser ExprTree
  parens line i = and_then (deeper i)
      (λ a j. and_then (close_mark m.CloseParen j) (λ _. pure (expression line (e.Paren a))))

  -- behind `new`
  abbrev pub made : ℕ → Option Kind → Parser ExprTree
  made line (Some kind) i = and_then (take_any i)
      (λ _ j. and_then (open_mark m.OpenBracket j)
      (λ _ l. and_then (deeper l)
      (λ a n. and_then (close_mark m.CloseBracket n) (λ _. pure (expression line (e.NewArray kind a))))))
  made line None i = and_then (take_name i)
      (λ name j. and_then (open_mark m.OpenParen j)
      (λ _ l. and_then (close_mark m.CloseParen l) (λ _. pure (expression line (e.NewObject name)))))

  -- an expression in parentheses, or one behind `new`; a number that is too wide is told as such
  abbrev pub primary_other : Parser ExprTree
  primary_other i =
      if is_mark m.OpenParen (next_mark i.tokens) then and_then (open_mark m.OpenParen i) (λ t. parens t.line)
      else (if is_wide (next_form i.tokens) then Err (too_wide, i.tokens)
      else and_then (take_keyword k.New i) (λ t j. made t.line (kind_at (next_keyword j.tokens)) j))

  -- an expression of one token, or another primary expression
  abbrev pub primary_of : Option ExprForm → Parser ExprTree
  primary_of (Some this) i = and_then (take_any i) (λ t. pure (expression t.line this))
  primary_of None i = primary_other i

  -- a primary expression
  abbrev pub primary : Parser ExprTree
  primary i = primary_of (plain_at i.tokens) i

  -- a primary expression with its suffixes
  abbrev pub postfix : ℕ → Parser ExprTree
  postfix n i = and_then (primary i) (suffixes n)

  -- a sign, its operand, and the level given back
  abbrev pub signed : Op → Parser ExprTree → Parser ExprTree
  signed o operand i = and_then (enter i)
      (λ _ j. and_then (take_any j)
      (λ t l. and_then (operand l) (λ a q. and_then (leave q) (λ _. pure (expression t.line (e.Unary o a))))))

  -- a sign with its operand, or none
  abbrev pub unary_of : Option Op → Parser ExprTree → Parser ExprTree → Parser ExprTree
  unary_of (Some o) operand plain i = signed o operand i
  unary_of None operand plain i = plain i

  -- an operand with its signs: the first number bounds how many signs there are, the second how many suffixes
  abbrev pub unary : ℕ → ℕ → Parser ExprTree
  unary zero n i = unary_of (sign_at (next_mark i.tokens)) refuse (postfix n) i
  unary (suc depth) n i = unary_of (sign_at (next_mark i.tokens)) (unary depth n) (postfix n) i

-- operators of a rank with their operands, as long as there are any
abbrev pub operation_of : Option Op → Parser ExprTree → ExprTree → (ExprTree → Parser ExprTree) → Parser ExprTree
operation_of None operand a more i = Ok (a, i)
operation_of (Some o) operand a more i = and_then (enter i)
    (λ _ j. and_then (take_any j) (λ _ l. and_then (operand l) (λ b. more (expression (line_of a) (e.Binary o a b)))))

-- operators of a rank with their operands; the last number bounds how many
abbrev pub operations : Parser ExprTree → ℕ → ℕ → ExprTree → Parser ExprTree
operations operand rank zero a i = operation_of (of_rank rank (operator_at (next_mark i.tokens))) operand a
    (λ b. refuse) i
operations operand rank (suc n) a i = operation_of (of_rank rank (operator_at (next_mark i.tokens))) operand a
    (operations operand rank n) i

-- an expression of a rank
abbrev pub climb : Parser ExprTree → ℕ → ℕ → Parser ExprTree
climb unary n zero i = unary i
climb unary n (suc rank) i = and_then (climb unary n rank i) (operations (climb unary n rank) rank n)

-- gives back all levels that were opened since
abbrev pub restored : ℕ → Outcome ExprTree → Outcome ExprTree
restored room (Ok p) = Ok (p.0, record { tokens = p.1.tokens; room = room })
restored room (Err stop) = Err stop

-- a whole expression, where so many levels may be opened
abbrev pub whole : ℕ → Parser ExprTree
whole zero i = refuse i
whole (suc n) i = restored i.room (climb (unary (whole n) n n) n top_rank i)

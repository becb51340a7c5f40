-- The parts of an expression that hold no whole expression, as readers: what stands before one and behind it.
use Rattle.std.specs.Prelude.{ℕ, Bool, ◌||◌, if◌then◌else◌, List, Option, Some, None, Ok, Err}
use Rattle.dso_base.specs.declared.value.Kind.{Kind}
use Rattle.dso_tokens.specs.declared.token.Keyword.TheVariants as k
use Rattle.dso_tokens.specs.declared.token.Mark.{Mark}
use Rattle.dso_tokens.specs.declared.token.Mark.TheVariants as m
use Rattle.dso_tokens.specs.declared.token.Token.{Token}
use Rattle.dso_syntax.specs.declared.tree.Ident.{Ident}
use Rattle.dso_syntax.specs.declared.tree.ExprTree.{ExprTree}
use Rattle.dso_syntax.specs.declared.tree.ExprForm.{ExprForm}
use Rattle.dso_syntax.specs.declared.tree.ExprForm.TheVariants as e
use Rattle.dso_syntax.specs.declared.operand.Bracket.{Bracket}
use Rattle.dso_syntax.specs.declared.operand.Bracket.TheVariants as bracket
use Rattle.dso_syntax.specs.declared.operand.Part.{Part}
use Rattle.dso_syntax.specs.declared.operand.Part.TheVariants as part
use Rattle.dso_syntax.specs.declared.operand.Suffix.{Suffix}
use Rattle.dso_syntax.specs.declared.operand.Suffix.TheVariants as suffix
use Rattle.dso_syntax.specs.Grammar.{expression, line_of}
use Rattle.dso_syntax.specs.ExpressionReader.{too_wide, Parser, and_then, pure, is_mark, is_wide, next_form}
use Rattle.dso_syntax.specs.ExpressionReader.{next_mark, next_keyword, take_any, take_mark, take_keyword, take_name}
use Rattle.dso_syntax.specs.ExpressionReader.{enter, open_mark, close_mark, plain_at, kind_at}

-- a token that opens a level
abbrev pub entered : Parser Token
entered i = and_then (enter i) (λ _. take_any)

-- how many levels a part holds open
abbrev pub held : Part → ℕ
held (part.Done a) = 0
held (part.Inside bracket) = 1

-- behind `new`, where a kind is next or none
abbrev pub made_of : ℕ → Option Kind → Parser Part
made_of line (Some kind) i = and_then (take_any i)
    (λ _ j. and_then (open_mark m.OpenBracket j) (λ _. pure (part.Inside (bracket.Array line kind))))
made_of line None i = and_then (take_name i)
    (λ name j. and_then (open_mark m.OpenParen j)
    (λ _ l. and_then (close_mark m.CloseParen l) (λ _. pure (part.Done (expression line (e.NewObject name))))))

-- behind `new`
abbrev pub made : ℕ → Parser Part
made line i = made_of line (kind_at (next_keyword i.tokens)) i

-- a primary expression up to the expression that it holds, where the next token is an expression by itself or is none
abbrev pub opened_of : Option ExprForm → Parser Part
opened_of (Some this) i = and_then (take_any i) (λ t. pure (part.Done (expression t.line this)))
opened_of None i =
    if is_mark m.OpenParen (next_mark i.tokens)
    then and_then (open_mark m.OpenParen i) (λ t. pure (part.Inside (bracket.Paren t.line)))
    else (if is_wide (next_form i.tokens) then Err (too_wide, i.tokens)
    else and_then (take_keyword k.New i) (λ t. made t.line))

-- a primary expression up to the expression that it holds
abbrev pub opened : Parser Part
opened i = opened_of (plain_at i.tokens) i

-- the symbol that closes a bracket
abbrev pub closing_of : Bracket → Mark
closing_of (bracket.Paren line) = m.CloseParen
closing_of (bracket.Array line kind) = m.CloseBracket

-- what a bracket makes of the expression in it
abbrev pub enclosed : Bracket → ExprTree → ExprTree
enclosed (bracket.Paren line) a = expression line (e.Paren a)
enclosed (bracket.Array line kind) a = expression line (e.NewArray kind a)

-- the closing bracket behind an expression, and what both make
abbrev pub closed : Bracket → ExprTree → Parser ExprTree
closed bracket a i = and_then (close_mark (closing_of bracket) i) (λ _. pure (enclosed bracket a))

-- a dot and a name, and the parenthesis of a call
abbrev pub named : Parser Suffix
named i = and_then (open_mark m.Dot i) (λ _ j. and_then (take_name j) (λ name l.
    if is_mark m.OpenParen (next_mark l.tokens) then and_then (open_mark m.OpenParen l) (λ _. pure (suffix.Call name))
    else Ok (suffix.Field name, l)))

-- whether a suffix begins with this symbol: a dot or an opening bracket
abbrev pub begins_suffix : Option Mark → Bool
begins_suffix next = is_mark m.Dot next || is_mark m.OpenBracket next

-- a suffix up to the expressions that it holds
abbrev pub take_suffix : Parser Suffix
take_suffix i = if is_mark m.Dot (next_mark i.tokens) then named i
    else and_then (open_mark m.OpenBracket i) (λ _. pure suffix.Element)

-- the parenthesis behind the arguments of a call, and the call
abbrev pub called : ExprTree → Ident → List ExprTree → Parser ExprTree
called a name all i = and_then (close_mark m.CloseParen i) (λ _. pure (expression (line_of a) (e.Call a name all)))

-- the bracket behind an index, and the element
abbrev pub indexed : ExprTree → ExprTree → Parser ExprTree
indexed a at i = and_then (take_mark m.CloseBracket i) (λ _. pure (expression (line_of a) (e.Elem a at)))

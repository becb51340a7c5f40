-- The grammar of the language: which tokens are which tree.
--
-- Each form is told with its room: how many levels of nesting may still be opened before it and, where that differs,
-- behind it. A token that opens a level takes one from the room. A form in brackets gives its level back with its
-- closing bracket, a sign with the end of its operand; a binary operator, a dot and the bracket of an element keep
-- theirs to the end of the expression.
use Rattle.std.specs.Prelude.{◌≡◌, ℕ, zero, suc, true, false, List, [], ◌∷◌, ◌++◌, Option, Some, None}
use Rattle.dso_base.specs.declared.op.Op.{Op}
use Rattle.dso_base.specs.declared.value.Kind.{Kind}
use Rattle.dso_tokens.specs.declared.token.Keyword.{Keyword}
use Rattle.dso_tokens.specs.declared.token.Keyword.TheVariants as k
use Rattle.dso_tokens.specs.declared.token.Mark.{Mark}
use Rattle.dso_tokens.specs.declared.token.Mark.TheVariants as m
use Rattle.dso_tokens.specs.declared.token.Form.{Form}
use Rattle.dso_tokens.specs.declared.token.Form.TheVariants as form
use Rattle.dso_tokens.specs.declared.token.Token.{Token}
pub use Rattle.dso_tokens.specs.Operators.{kind_of, operator_of, sign_of}
pub use Rattle.dso_tokens.specs.TokenReader.{Tokens}
use Rattle.dso_syntax.specs.declared.tree.Ident.{Ident}
use Rattle.dso_syntax.specs.declared.tree.ExprTree.{ExprTree, roll-ExprTree, out-ExprTree}
use Rattle.dso_syntax.specs.declared.tree.ExprForm.{ExprForm}
use Rattle.dso_syntax.specs.declared.tree.ExprForm.TheVariants as e

-- an expression with the line of its first token
abbrev pub expression : ℕ → ExprForm → ExprTree
expression line form = roll-ExprTree (record { line = line; form = form })

-- the line of an expression
abbrev pub line_of : ExprTree → ℕ
line_of a = (out-ExprTree a).line

-- the token is this symbol
abbrev pub IsMark : Mark → Token → Type 0
IsMark mark t = t.form ≡ form.Mark mark

-- the token is this reserved word
abbrev pub IsKeyword : Keyword → Token → Type 0
IsKeyword word t = t.form ≡ form.Keyword word

-- the token is this name, where it stands
abbrev pub IsName : Ident → Token → Type 0
IsName name t = (t.form ≡ form.Name name.name) × (t.line ≡ name.line)

-- the rank of a whole expression, above that of every operator
abbrev pub top_rank : ℕ
top_rank = 6

-- the expressions of one token
abbrev pub plain_of : Form → Option ExprForm
plain_of (form.Number (Some n)) = Some (e.Number n)
plain_of (form.Text content) = Some (e.Text content)
plain_of (form.Name name) = Some (e.Name name)
plain_of (form.Keyword k.True) = Some (e.Truth true)
plain_of (form.Keyword k.False) = Some (e.Truth false)
plain_of (form.Keyword k.Null) = Some e.Null
plain_of (form.Keyword k.This) = Some e.This
plain_of other = None

mutual
  -- An expression of a rank. It is one of the rank below, or one of its own rank, an operator of the rank below and
  -- one of the rank below: so the operators of a rank group to the left, and those of lower ranks bind tighter.
  pub data Binary : ℕ → ℕ → ℕ → Tokens → ExprTree → Type 0 where
    operand : {room left : ℕ} {ts : Tokens} {a : ExprTree} → Unary room left ts a → Binary zero room left ts a
    tighter : {rank room left : ℕ} {ts : Tokens} {a : ExprTree} → Binary rank room left ts a
        → Binary (suc rank) room left ts a
    operation : {rank room between left : ℕ} {ts us : Tokens} {a b : ExprTree} (t : Token) (mark : Mark) (o : Op)
        → IsMark mark t → operator_of mark ≡ Some (rank, o) →
        Binary (suc rank) room (suc between) ts a → Binary rank between left us b →
        Binary (suc rank) room left (ts ++ t ∷ us) (expression (line_of a) (e.Binary o a b))

  -- a sign before an operand, or none
  pub data Unary : ℕ → ℕ → Tokens → ExprTree → Type 0 where
    plain : {room left : ℕ} {ts : Tokens} {a : ExprTree} → Postfix room left ts a → Unary room left ts a
    signed : {room left : ℕ} {ts : Tokens} {a : ExprTree} (t : Token) (mark : Mark) (o : Op) → IsMark mark t
        → sign_of mark ≡ Some o →
        Unary room left ts a → Unary (suc room) (suc left) (t ∷ ts) (expression t.line (e.Unary o a))

  -- a primary expression with its suffixes: fields, calls, elements
  pub data Postfix : ℕ → ℕ → Tokens → ExprTree → Type 0 where
    primary : {room : ℕ} {ts : Tokens} {a : ExprTree} → Primary room ts a → Postfix room room ts a
    field : {room left : ℕ} {ts : Tokens} {a : ExprTree} (dot named : Token) (name : Ident) → IsMark m.Dot dot
        → IsName name named →
        Postfix room (suc left) ts a
        → Postfix room left (ts ++ dot ∷ named ∷ []) (expression (line_of a) (e.Field a name))
    call : {room left : ℕ} {ts us : Tokens} {a : ExprTree} {all : List ExprTree} (dot named opening closing : Token)
        (name : Ident) →
        IsMark m.Dot dot → IsName name named → IsMark m.OpenParen opening → IsMark m.CloseParen closing →
        Postfix room (suc (suc left)) ts a → Arguments left us all →
        Postfix room (suc left) (ts ++ (dot ∷ named ∷ opening ∷ us ++ closing ∷ []))
        (expression (line_of a) (e.Call a name all))
    element : {room left : ℕ} {ts us : Tokens} {a b : ExprTree} (opening closing : Token)
        → IsMark m.OpenBracket opening → IsMark m.CloseBracket closing →
        Postfix room (suc left) ts a → Whole left us b →
        Postfix room left (ts ++ (opening ∷ us ++ closing ∷ [])) (expression (line_of a) (e.Elem a b))

  -- an expression of one token, in parentheses, or after `new`
  pub data Primary : ℕ → Tokens → ExprTree → Type 0 where
    single : {room : ℕ} (t : Token) (this : ExprForm) → plain_of t.form ≡ Some this
        → Primary room (t ∷ []) (expression t.line this)
    parens : {room : ℕ} {ts : Tokens} {a : ExprTree} (opening closing : Token) → IsMark m.OpenParen opening
        → IsMark m.CloseParen closing →
        Whole room ts a → Primary (suc room) (opening ∷ ts ++ closing ∷ []) (expression opening.line (e.Paren a))
    object : {room : ℕ} (new named opening closing : Token) (name : Ident) → IsKeyword k.New new → IsName name named
        → IsMark m.OpenParen opening → IsMark m.CloseParen closing →
        Primary (suc room) (new ∷ named ∷ opening ∷ closing ∷ []) (expression new.line (e.NewObject name))
    array : {room : ℕ} {ts : Tokens} {a : ExprTree} (new made opening closing : Token) (word : Keyword) (this : Kind) →
        IsKeyword k.New new → IsKeyword word made → kind_of word ≡ Some this → IsMark m.OpenBracket opening
        → IsMark m.CloseBracket closing →
        Whole room ts a → Primary (suc room) (new ∷ made ∷ opening ∷ ts ++ closing ∷ [])
        (expression new.line (e.NewArray this a))

  -- a whole expression
  pub data Whole : ℕ → Tokens → ExprTree → Type 0 where
    whole : {room left : ℕ} {ts : Tokens} {a : ExprTree} → Binary top_rank room left ts a → Whole room ts a

  -- the arguments of a call, with commas between them
  pub data Arguments : ℕ → Tokens → List ExprTree → Type 0 where
    none : {room : ℕ} → Arguments room [] []
    some : {room : ℕ} {ts : Tokens} {all : List ExprTree} → Listed room ts all → Arguments room ts all

  -- one argument or more, with commas between them
  pub data Listed : ℕ → Tokens → List ExprTree → Type 0 where
    last : {room : ℕ} {ts : Tokens} {a : ExprTree} → Whole room ts a → Listed room ts (a ∷ [])
    more : {room : ℕ} {ts us : Tokens} {a : ExprTree} {all : List ExprTree} (comma : Token) → IsMark m.Comma comma →
        Whole room ts a → Listed room us all → Listed room (ts ++ comma ∷ us) (a ∷ all)

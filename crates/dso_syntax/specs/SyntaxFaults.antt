-- What is wrong with a text: where its tokens stop being those of a program.
use Rattle.std.specs.Prelude.{◌≡◌, ℕ, Bool, true, [], ◌∷◌, ◌++◌, Some, None, is_some, pos}
use Rattle.dso_tokens.specs.declared.token.Mark.{Mark}
use Rattle.dso_tokens.specs.declared.token.Mark.TheVariants as m
use Rattle.dso_tokens.specs.declared.token.Form.{Form}
use Rattle.dso_tokens.specs.declared.token.Form.TheVariants as form
use Rattle.dso_tokens.specs.declared.token.Token.{Token}
use Rattle.dso_tokens.specs.declared.token.Ending.{Ending}
use Rattle.dso_tokens.specs.declared.token.Ending.TheVariants as ending
use Rattle.dso_syntax.specs.declared.tree.Ast.{Ast}
use Rattle.dso_syntax.specs.declared.fault.SyntaxFault.{SyntaxFault}
use Rattle.dso_syntax.specs.declared.fault.SyntaxFault.TheVariants as fault
use Rattle.dso_tokens.specs.Bytes.{Text}
use Rattle.dso_syntax.specs.Grammar.{Tokens, IsMark, operator_of}
use Rattle.dso_syntax.specs.TextLimits.{most_levels}
use Rattle.dso_syntax.specs.ProgramGrammar.{IsProgram}
use Rattle.dso_tokens.specs.Reading.{Reads}

-- some program of so many levels of nesting at most begins with these tokens
abbrev pub IsPrefix : ℕ → Tokens → Type 0
IsPrefix levels tokens = (more : Tokens) × (ast : Ast) × IsProgram levels (tokens ++ more) ast

-- some program begins with these tokens, however deep its nesting is
abbrev pub IsPrefixAtAnyDepth : Tokens → Type 0
IsPrefixAtAnyDepth tokens = (levels : ℕ) × IsPrefix levels tokens

-- a token as the grammar sees it: a number that is too wide stands for some number
abbrev pub narrowed : Token → Token
narrowed t = record t { form = narrow t.form }
  where
    narrow : Form → Form
    narrow (form.Number None) = form.Number (Some (pos 0))
    narrow other = other

-- the symbols that open a level: braces, parentheses, brackets, dots, signs and operators
abbrev pub opens : Mark → Bool
opens m.OpenBrace = true
opens m.OpenParen = true
opens m.OpenBracket = true
opens m.Dot = true
opens m.Bang = true
opens other = is_some (operator_of other)

-- The token is a symbol that opens a level. An `if` behind an `else` opens one too, but never the first one too many:
-- the block before the `else` was nested as deeply.
abbrev pub OpensLevel : Token → Type 0
OpensLevel t = (mark : Mark) × IsMark mark t × (opens mark ≡ true)

-- What is wrong with a token behind tokens that some program begins with. It is unexpected where no program goes on
-- with it; a number is too wide where a program goes on with a number; nesting is too deep at a token that opens a
-- level where some program goes on with it, but none of the most levels.
pub data IsWrong : Tokens → Token → SyntaxFault → Type 0 where
  unexpected : {before : Tokens} {t : Token} → (IsPrefixAtAnyDepth (before ++ narrowed t ∷ []) → ⊥)
      → IsWrong before t (fault.Unexpected t.place)
  too_wide : {before : Tokens} {t : Token} → t.form ≡ form.Number None
      → IsPrefixAtAnyDepth (before ++ narrowed t ∷ []) → IsWrong before t (fault.NumberTooWide t.place)
  too_deep : {before : Tokens} {t : Token} → OpensLevel t → IsPrefixAtAnyDepth (before ++ t ∷ [])
      → (IsPrefix most_levels (before ++ t ∷ []) → ⊥) →
      IsWrong before t (fault.NestTooDeep t.place)

-- nothing is wrong with any of the tokens
abbrev pub NoneWrong : Tokens → Type 0
NoneWrong tokens = (before after : Tokens) (t : Token) (which : SyntaxFault) → tokens ≡ before ++ t ∷ after
    → IsWrong before t which → ⊥

-- What is wrong with a text whose tokens end so, behind all of them.
pub data EndsWrong : Tokens → Ending → SyntaxFault → Type 0 where
  bad_byte : {tokens : Tokens} {place : ℕ} → EndsWrong tokens (ending.BadByte place) (fault.BadByte place)
  bad_token : {tokens : Tokens} {place : ℕ} → EndsWrong tokens (ending.BadToken place) (fault.BadToken place)
  too_short : {tokens : Tokens} {place : ℕ} → ((ast : Ast) → IsProgram most_levels tokens ast → ⊥)
      → EndsWrong tokens (ending.End place) (fault.Unexpected place)

-- The fault of a text: it is at the first token that is wrong or, where none is, where the tokens end.
pub data HasFault : Text → SyntaxFault → Type 0 where
  at_token : {text : Text} {which : SyntaxFault} (before after : Tokens) (t : Token) (end : Ending)
      → Reads 0 1 text (before ++ t ∷ after) end →
      NoneWrong before → IsWrong before t which → HasFault text which
  at_end : {text : Text} {which : SyntaxFault} (tokens : Tokens) (end : Ending) → Reads 0 1 text tokens end →
      NoneWrong tokens → EndsWrong tokens end which → HasFault text which

-- The text is a program of this tree.
abbrev pub IsText : Text → Ast → Type 0
IsText text ast = (tokens : Tokens) × (place : ℕ) × Reads 0 1 text tokens
    (ending.End place) × IsProgram most_levels tokens ast

-- What is answered of a text: its tree, or its fault, by what the reader answers of its tokens and by how they end.
use Rattle.std.specs.Prelude.{◌≡◌, ◌<◌, ◌≤◌, ◌∷◌, [], List, Option, Some, None, Result, Ok, Err, ℕ, length}
use Rattle.dso_tokens.specs.declared.token.Token.{Token}
use Rattle.dso_tokens.specs.declared.token.Ending.{Ending}
use Rattle.dso_tokens.specs.declared.token.Ending.TheVariants as ending
use Rattle.dso_syntax.specs.declared.tree.Ast.{Ast}
use Rattle.dso_syntax.specs.declared.tree.Item.{Item}
use Rattle.dso_tokens.specs.declared.stop.Stop.{Stop}
use Rattle.dso_tokens.specs.declared.stop.Stop.TheVariants as stop
use Rattle.dso_syntax.specs.declared.fault.SyntaxFault.{SyntaxFault}
use Rattle.dso_syntax.specs.declared.fault.SyntaxFault.TheVariants as fault
use Rattle.dso_tokens.specs.Bytes.{Text}
use Rattle.dso_syntax.specs.Grammar.{Tokens}
use Rattle.dso_syntax.specs.TextLimits.{longest_text, most_levels}
use Rattle.dso_syntax.specs.SyntaxFaults.{IsText, HasFault}
use Rattle.dso_syntax.specs.ExpressionReader.{StopCause, unexpected, too_wide, too_deep, Outcome}
use Rattle.dso_syntax.specs.ProgramReader.{program}

-- the reader's trouble, at a place
abbrev pub fault_at : StopCause → ℕ → SyntaxFault
fault_at unexpected place = fault.Unexpected place
fault_at too_wide place = fault.NumberTooWide place
fault_at too_deep place = fault.NestTooDeep place

-- what is wrong behind all tokens, where they are not those of a program or end before the text does
abbrev pub fault_behind : Ending → SyntaxFault
fault_behind (ending.End place) = fault.Unexpected place
fault_behind (ending.BadByte place) = fault.BadByte place
fault_behind (ending.BadToken place) = fault.BadToken place

-- the place of the next token
abbrev pub place_of : Tokens → Option ℕ
place_of [] = None
place_of (t ∷ rest) = Some t.place

-- the fault where the reader stops at a place or, where it stops at no token, behind all of them
abbrev pub fault_by : StopCause → Option ℕ → Ending → SyntaxFault
fault_by cause (Some place) end = fault_at cause place
fault_by cause None end = fault_behind end

-- The answer by the tokens' ending and by what the reader answers.
abbrev pub answer_by : Ending → Outcome (List Item) → Result Ast SyntaxFault
answer_by end (Err stop) = Err (fault_by stop.0 (place_of stop.1) end)
answer_by (ending.End place) (Ok read) = Ok (record { items = read.0 })
answer_by (ending.BadByte place) (Ok read) = Err (fault.BadByte place)
answer_by (ending.BadToken place) (Ok read) = Err (fault.BadToken place)

-- the answer of a text with these tokens, which end so
unfoldable pub answer_of : List Token → Ending → Result Ast SyntaxFault
answer_of tokens end = answer_by end (program most_levels tokens)

-- the fault for which a function of the parser stops
abbrev pub fault_of : Stop → Ending → SyntaxFault
fault_of (stop.NoMemory refused) end = fault.NoMemory refused
fault_of (stop.Unexpected tokens) end = fault_by unexpected (place_of tokens.now) end
fault_of (stop.TooWide tokens) end = fault_by too_wide (place_of tokens.now) end
fault_of (stop.TooDeep tokens) end = fault_by too_deep (place_of tokens.now) end

-- A result is this answer, unless memory ran out.
abbrev pub AnswersAs : Result Ast SyntaxFault → Result Ast SyntaxFault → Type 0
AnswersAs (Err (fault.NoMemory refused)) answer = Unit {0}
AnswersAs result answer = result ≡ answer

-- What a refusal says of a text: nothing where memory ran out; that it is too long; else that it is the program of no
-- tree, and that this is its fault.
abbrev pub Refuses : Text → SyntaxFault → Type 0
Refuses text (fault.NoMemory refused) = Unit {0}
Refuses text fault.TooLong = longest_text < length text
Refuses text other = (length text ≤ longest_text) × ((ast : Ast) → IsText text ast → ⊥) × HasFault text other

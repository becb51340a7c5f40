-- A reader of statements, members and whole programs over tokens, as a function, step by step as a parser goes.
use Rattle.std.specs.Prelude.{ℕ, zero, suc, Bool, true, false, if◌then◌else◌, List, [], ◌∷◌, length, Option, Some}
use Rattle.std.specs.Prelude.{None, Ok, Err, ℤ}
use Rattle.dso_base.specs.declared.value.Kind.{Kind}
use Rattle.dso_tokens.specs.declared.token.Keyword.{Keyword}
use Rattle.dso_tokens.specs.declared.token.Keyword.TheVariants as k
use Rattle.dso_tokens.specs.declared.token.Mark.TheVariants as m
use Rattle.dso_tokens.specs.declared.token.Form.{Form}
use Rattle.dso_tokens.specs.declared.token.Form.TheVariants as form
use Rattle.dso_tokens.specs.declared.token.Token.{Token}
use Rattle.dso_syntax.specs.declared.tree.Ident.{Ident}
use Rattle.dso_syntax.specs.declared.tree.Item.{Item}
use Rattle.dso_syntax.specs.declared.tree.Item.TheVariants as item
use Rattle.dso_syntax.specs.declared.tree.Member.{Member}
use Rattle.dso_syntax.specs.declared.tree.Member.TheVariants as member
use Rattle.dso_syntax.specs.declared.tree.StmtTree.{StmtTree}
use Rattle.dso_syntax.specs.declared.tree.StmtForm.{StmtForm}
use Rattle.dso_syntax.specs.declared.tree.StmtForm.TheVariants as s
use Rattle.dso_syntax.specs.declared.tree.ExprTree.{ExprTree, out-ExprTree}
use Rattle.dso_syntax.specs.declared.tree.ExprForm.{out-ExprForm}
use Rattle.dso_syntax.specs.Grammar.{Tokens, line_of}
use Rattle.dso_syntax.specs.ProgramGrammar.{statement, is_place}
use Rattle.dso_syntax.specs.ExpressionReader.{unexpected, too_wide, Outcome, Parser, and_then, pure, refuse, is_mark}
use Rattle.dso_syntax.specs.ExpressionReader.{is_keyword, next_mark, next_keyword, take_any, take_mark, take_keyword}
use Rattle.dso_syntax.specs.ExpressionReader.{enter, leave, open_mark, close_mark, take_name, whole}

-- something in parentheses
abbrev pub parenthesized : {A : Type 0} → Parser A → Parser A
parenthesized inner i = and_then (open_mark m.OpenParen i)
    (λ _ j. and_then (inner j) (λ a l. and_then (close_mark m.CloseParen l) (λ _. pure a)))

-- items up to the closing brace; the number bounds how many
abbrev pub until_brace : {A : Type 0} → Parser A → ℕ → Parser (List A)
until_brace item zero i = if is_mark m.CloseBrace (next_mark i.tokens) then Ok ([], i) else refuse i
until_brace item (suc n) i =
    if is_mark m.CloseBrace (next_mark i.tokens) then Ok ([], i)
    else and_then (item i) (λ a j. and_then (until_brace item n j) (λ all. pure (a ∷ all)))

-- items in braces
abbrev pub braced : {A : Type 0} → Parser A → Parser (List A)
braced item i = and_then (open_mark m.OpenBrace i)
    (λ _ j. and_then (until_brace item (length j.tokens) j)
    (λ all l. and_then (close_mark m.CloseBrace l) (λ _. pure all)))

-- what a statement's first word makes of it
pub data Lead : Type 0 where
  variable : Lead
  conditional : Lead
  guarded : (ExprTree → List StmtTree → StmtForm) → Lead
  command : (ExprTree → StmtForm) → Lead
  waiting : Lead
  returned : Lead
  plain : Lead

-- the lead of a statement whose first token is this reserved word, or is none
abbrev pub lead_of : Option Keyword → Lead
lead_of (Some k.Var) = variable
lead_of (Some k.If) = conditional
lead_of (Some k.While) = guarded s.While
lead_of (Some k.Synchronized) = guarded s.Sync
lead_of (Some k.Wait) = waiting
lead_of (Some k.Notify) = command s.Notify
lead_of (Some k.NotifyAll) = command s.NotifyAll
lead_of (Some k.Print) = command s.Print
lead_of (Some k.Return) = returned
lead_of other = plain

-- behind an expression that stands first in a statement
abbrev pub behind_expression : Parser ExprTree → ExprTree → Parser StmtTree
behind_expression expr a i =
    if is_mark m.Assign (next_mark i.tokens)
    then (if is_place (out-ExprForm (out-ExprTree a).form)
    then and_then (take_any i)
    (λ _ j. and_then (expr j)
    (λ b l. and_then (take_mark m.Semicolon l) (λ _. pure (statement (line_of a) (s.Assign a b)))))
    else refuse i)
    else and_then (take_mark m.Semicolon i) (λ _. pure (statement (line_of a) (s.Eval a)))

-- behind what a `wait` waits on
abbrev pub behind_waited : Parser ExprTree → ExprTree → Parser StmtForm
behind_waited expr a i =
    if is_mark m.Comma (next_mark i.tokens)
    then and_then (take_any i) (λ _ j. and_then (expr j) (λ b. pure (s.TimedWait a b)))
    else Ok (s.Wait a, i)

-- what stands in the parentheses of a `wait`
abbrev pub waited : Parser ExprTree → Parser StmtForm
waited expr i = and_then (expr i) (behind_waited expr)

-- behind `return`
abbrev pub behind_return : Parser ExprTree → ℕ → Parser StmtTree
behind_return expr line i =
    if is_mark m.Semicolon (next_mark i.tokens) then and_then (take_any i) (λ _. pure (statement line (s.Return None)))
    else and_then (expr i) (λ a j. and_then (take_mark m.Semicolon j) (λ _. pure (statement line (s.Return (Some a)))))

-- behind `var`
abbrev pub behind_var : Parser ExprTree → ℕ → Parser StmtTree
behind_var expr line i =
    and_then (take_name i) (λ name j. and_then (take_mark m.Assign j)
    (λ _ l. and_then (expr l)
    (λ a q. and_then (take_mark m.Semicolon q) (λ _. pure (statement line (s.Var name a))))))

-- behind the block of an `if`; `chain` reads an `if`
abbrev pub behind_then : Parser StmtTree → Parser (List StmtTree) → ℕ → ExprTree → List StmtTree → Parser StmtTree
behind_then chain block line a all i =
    if is_keyword k.Else (next_keyword i.tokens)
    then and_then (take_any i) (λ _ j.
    if is_keyword k.If (next_keyword j.tokens)
    then and_then (enter j) (λ _ l. and_then (chain l)
    (λ other q. and_then (leave q) (λ _. pure (statement line (s.If a all (other ∷ []))))))
    else and_then (block j) (λ others. pure (statement line (s.If a all others))))
    else Ok (statement line (s.If a all []), i)

-- an `if`; the number bounds how many are chained
abbrev pub chain : Parser ExprTree → Parser (List StmtTree) → ℕ → Parser StmtTree
chain expr block zero i = and_then (take_keyword k.If i)
    (λ t j. and_then (parenthesized expr j)
    (λ a l. and_then (block l) (λ all. behind_then refuse block t.line a all)))
chain expr block (suc n) i = and_then (take_keyword k.If i)
    (λ t j. and_then (parenthesized expr j)
    (λ a l. and_then (block l) (λ all. behind_then (chain expr block n) block t.line a all)))

-- a statement by its lead
abbrev pub by_lead : Parser ExprTree → Parser (List StmtTree) → ℕ → Lead → Parser StmtTree
by_lead expr block n variable i = and_then (take_any i) (λ t. behind_var expr t.line)
by_lead expr block n conditional i = chain expr block n i
by_lead expr block n (guarded made) i = and_then (take_any i)
    (λ t j. and_then (parenthesized expr j) (λ a l. and_then (block l) (λ all. pure (statement t.line (made a all)))))
by_lead expr block n (command made) i = and_then (take_any i)
    (λ t j. and_then (parenthesized expr j)
    (λ a l. and_then (take_mark m.Semicolon l) (λ _. pure (statement t.line (made a)))))
by_lead expr block n waiting i = and_then (take_any i)
    (λ t j. and_then (parenthesized (waited expr) j)
    (λ form l. and_then (take_mark m.Semicolon l) (λ _. pure (statement t.line form))))
by_lead expr block n returned i = and_then (take_any i) (λ t. behind_return expr t.line)
by_lead expr block n plain i = and_then (expr i) (behind_expression expr)

-- a statement, by its first word
abbrev pub one_statement : Parser ExprTree → Parser (List StmtTree) → ℕ → Parser StmtTree
one_statement expr block n i = by_lead expr block n (lead_of (next_keyword i.tokens)) i

-- a block where so many levels may be opened
abbrev pub block : Parser ExprTree → ℕ → Parser (List StmtTree)
block expr zero i = refuse i
block expr (suc n) i = braced (one_statement expr (block expr n) n) i

-- names with commas between; the number bounds how many
abbrev pub names : ℕ → Parser (List Ident)
names zero i = refuse i
names (suc n) i = and_then (take_name i) (λ name j.
    if is_mark m.Comma (next_mark j.tokens)
    then and_then (take_any j) (λ _ l. and_then (names n l) (λ all. pure (name ∷ all))) else pure (name ∷ []) j)

-- the parameters up to the closing parenthesis
abbrev pub parameters : Parser (List Ident)
parameters i = if is_mark m.CloseParen (next_mark i.tokens) then Ok ([], i) else names (length i.tokens) i

-- behind a method's `synchronized`, if it has one
abbrev pub method : Parser (List StmtTree) → ℕ → Bool → Parser Member
method block line synced i =
    and_then (take_name i) (λ name j. and_then (open_mark m.OpenParen j)
    (λ _ l. and_then (parameters l)
    (λ params q. and_then (close_mark m.CloseParen q)
    (λ _ r. and_then (block r) (λ body. pure (member.Method line synced name params body))))))

-- what a member's first word makes of it
pub data Start : Type 0 where
  field : Kind → Start
  static : Start
  synchronized : Start
  named : Start

-- the start of a member whose first token is this reserved word, or is none
abbrev pub start_of : Option Keyword → Start
start_of (Some k.Long) = field Rattle.dso_base.specs.declared.value.Kind.TheVariants.Long
start_of (Some k.Boolean) = field Rattle.dso_base.specs.declared.value.Kind.TheVariants.Bool
start_of (Some k.Text) = field Rattle.dso_base.specs.declared.value.Kind.TheVariants.Text
start_of (Some k.Ref) = field Rattle.dso_base.specs.declared.value.Kind.TheVariants.Ref
start_of (Some k.Static) = static
start_of (Some k.Synchronized) = synchronized
start_of other = named

-- the line of the next token
abbrev pub next_line : Tokens → ℕ
next_line [] = 0
next_line (t ∷ rest) = t.line

-- a member by its start
abbrev pub by_start : Parser (List StmtTree) → Start → Parser Member
by_start block (field kind) i = and_then (take_any i)
    (λ t j. and_then (take_name j)
    (λ name l. and_then (take_mark m.Semicolon l) (λ _. pure (member.Field t.line kind name))))
by_start block static i = and_then (take_any i)
    (λ t j. and_then (take_keyword k.Ref j)
    (λ _ l. and_then (take_name l)
    (λ name q. and_then (take_mark m.Semicolon q) (λ _. pure (member.Static t.line name)))))
by_start block synchronized i = and_then (take_any i) (λ t. method block t.line true)
by_start block named i = method block (next_line i.tokens) false i

-- one member of a class
abbrev pub one_member : Parser (List StmtTree) → Parser Member
one_member block i = by_start block (start_of (next_keyword i.tokens)) i

-- a number that is not too wide, with its line
abbrev pub number_by : ℕ → Token → Tokens → Form → Outcome (ℤ × ℕ)
number_by room t rest (form.Number (Some n)) = Ok ((n, t.line), record { tokens = rest; room = room })
number_by room t rest (form.Number None) = Err (too_wide, t ∷ rest)
number_by room t rest other = Err (unexpected, t ∷ rest)

-- the number that is next
abbrev pub number_from : ℕ → Tokens → Outcome (ℤ × ℕ)
number_from room [] = Err (unexpected, [])
number_from room (t ∷ rest) = number_by room t rest t.form

-- a class or a thread
abbrev pub one_item : Parser (List StmtTree) → Parser Item
one_item block i =
    if is_keyword k.Class (next_keyword i.tokens)
    then and_then (take_any i)
    (λ t j. and_then (take_name j)
    (λ name l. and_then (braced (one_member block) l) (λ members. pure (item.Class t.line name members))))
    else and_then (take_keyword k.Thread i)
    (λ t j. and_then (number_from j.room j.tokens)
    (λ n l. and_then (block l) (λ body. pure (item.Thread t.line n.0 n.1 body))))

-- classes and threads up to the end; the number bounds how many
abbrev pub items_from : Parser (List StmtTree) → ℕ → ℕ → Tokens → Outcome (List Item)
items_from block n room [] = Ok ([], record { tokens = []; room = room })
items_from block zero room (t ∷ rest) = Err (unexpected, t ∷ rest)
items_from block (suc n) room (t ∷ rest) =
    and_then (one_item block (record { tokens = t ∷ rest; room = room }))
    (λ a j. and_then (items_from block n j.room j.tokens) (λ all. pure (a ∷ all)))

-- a whole program with so many levels of nesting at most
abbrev pub program : ℕ → Tokens → Outcome (List Item)
program levels tokens = items_from (block (whole (suc levels)) (suc levels)) (length tokens) levels tokens

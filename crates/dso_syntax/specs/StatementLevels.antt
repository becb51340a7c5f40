-- The reader of statements, part by part, where so many levels of blocks may still be opened within. Each is what
-- `ProgramReader` has, under a name of its own.
use Rattle.std.specs.Prelude.{ℕ, zero, suc, if◌then◌else◌, List, [], ◌∷◌, Ok}
use Rattle.dso_tokens.specs.declared.token.Keyword.TheVariants as k
use Rattle.dso_tokens.specs.declared.token.Mark.TheVariants as m
use Rattle.dso_tokens.specs.declared.token.Token.{Token}
use Rattle.dso_syntax.specs.declared.tree.ExprTree.{ExprTree}
use Rattle.dso_syntax.specs.declared.tree.StmtTree.{StmtTree}
use Rattle.dso_syntax.specs.declared.tree.StmtForm.{StmtForm}
use Rattle.dso_syntax.specs.declared.tree.StmtForm.TheVariants as s
use Rattle.dso_syntax.specs.declared.tree.Item.{Item}
use Rattle.dso_syntax.specs.declared.tree.Item.TheVariants as item
use Rattle.dso_syntax.specs.declared.blockless.Command.{Command}
use Rattle.dso_syntax.specs.declared.blockless.Command.TheVariants as command
use Rattle.dso_syntax.specs.declared.blockless.Guarding.{Guarding}
use Rattle.dso_syntax.specs.declared.blockless.Guarding.TheVariants as guarding
use Rattle.dso_syntax.specs.declared.blockless.Else.{Else}
use Rattle.dso_syntax.specs.declared.blockless.Else.TheVariants as part
use Rattle.dso_syntax.specs.ExpressionReader.{Parser, and_then, pure, refuse, is_mark, is_keyword, next_mark}
use Rattle.dso_syntax.specs.ExpressionReader.{next_keyword, take_any, take_mark, take_keyword, take_name, enter}
use Rattle.dso_syntax.specs.ExpressionReader.{leave, open_mark, close_mark}
use Rattle.dso_syntax.specs.TextLimits.{most_levels}
use Rattle.dso_syntax.specs.ProgramReader.{Lead}
use Rattle.dso_syntax.specs.ProgramGrammar as program
use Rattle.dso_syntax.specs.ProgramReader as reader
use Rattle.dso_syntax.specs.ExpressionLevels as levels

-- the form of a statement of one word and an expression
abbrev pub command_form : Command → ExprTree → StmtForm
command_form command.Notify = s.Notify
command_form command.NotifyAll = s.NotifyAll
command_form command.Print = s.Print

-- the form of a statement of one word, an expression and a block
abbrev pub guarding_of : Guarding → ExprTree → List StmtTree → StmtForm
guarding_of guarding.While = s.While
guarding_of guarding.Sync = s.Sync

-- an expression: it may open one level more than a program has, so that the room alone bounds it
abbrev pub expr : Parser ExprTree
expr = levels.whole (suc most_levels)

-- an expression in parentheses
abbrev pub parenthesized : Parser ExprTree
parenthesized = reader.parenthesized expr

-- the end of a `wait`, from the closing parenthesis on
abbrev pub wait_end : Parser Token
wait_end i = and_then (close_mark m.CloseParen i) (λ _. take_mark m.Semicolon)

-- behind what a `wait` waits on, up to its end
abbrev pub behind_waited : ℕ → ExprTree → Parser StmtTree
behind_waited line a i =
    if is_mark m.Comma (next_mark i.tokens)
    then and_then (take_any i)
    (λ _ j. and_then (expr j)
    (λ b l. and_then (wait_end l) (λ _. pure (program.statement line (s.TimedWait a b)))))
    else and_then (wait_end i) (λ _. pure (program.statement line (s.Wait a)))

-- a `wait`
abbrev pub waiting : Parser StmtTree
waiting i = and_then (take_any i)
    (λ t j. and_then (open_mark m.OpenParen j) (λ _ l. and_then (expr l) (behind_waited t.line)))

-- the line of the next token, and an expression in parentheses behind it
abbrev pub guard : Parser (ℕ × ExprTree)
guard i = and_then (take_any i) (λ t j. and_then (parenthesized j) (λ a. pure (t.line, a)))

-- the line of an `if`, and its condition
abbrev pub condition : Parser (ℕ × ExprTree)
condition i = and_then (take_keyword k.If i) (λ t j. and_then (parenthesized j) (λ a. pure (t.line, a)))

-- how many levels an `else` holds open: one where an `if` is next
abbrev pub held : Else → ℕ
held part.Chained = 1
held other = 0

-- an `else`, if there is one, and the level that an `if` behind it opens
abbrev pub else_part : Parser Else
else_part i =
    if is_keyword k.Else (next_keyword i.tokens)
    then and_then (take_any i)
    (λ _ j. if is_keyword k.If (next_keyword j.tokens) then and_then (enter j) (λ _. pure part.Chained)
    else Ok (part.Block, j))
    else Ok (part.Nothing, i)

-- a statement without a block, by its lead
abbrev pub simple : Lead → Parser StmtTree
simple lead = reader.by_lead expr refuse 0 lead

-- a block
unfoldable pub block : ℕ → Parser (List StmtTree)
block levels = reader.block expr levels

-- a statement
unfoldable pub statement : ℕ → Parser StmtTree
statement levels = reader.one_statement expr (reader.block expr levels) levels

-- a statement of one word, an expression and a block
unfoldable pub guarded : ℕ → Guarding → Parser StmtTree
guarded levels which = reader.by_lead expr (reader.block expr levels) levels (reader.guarded (guarding_of which))

-- an `if`; the second number bounds how many are chained
unfoldable pub chain : ℕ → ℕ → Parser StmtTree
chain levels more = reader.chain expr (reader.block expr levels) more

-- what follows an `else`, where an `if` behind it is read so
abbrev pub other_of : ℕ → Parser StmtTree → Else → Parser (List StmtTree)
other_of levels chained part.Nothing i = Ok ([], i)
other_of levels chained part.Block i = reader.block expr levels i
other_of levels chained part.Chained i = and_then (chained i) (λ other j. and_then (leave j) (λ _. pure (other ∷ [])))

-- how an `if` behind an `else` is read, where so many more may be chained
abbrev pub chained : ℕ → ℕ → Parser StmtTree
chained levels zero = refuse
chained levels (suc more) = reader.chain expr (reader.block expr levels) more

-- the statements of the `else` of an `if`, none where it has none
unfoldable pub otherwise : ℕ → ℕ → Parser (List StmtTree)
otherwise levels more i = and_then (else_part i) (other_of levels (chained levels more))

-- a block of a method or a thread: it may open one level more than a program has, so that the room alone bounds it
abbrev pub body : Parser (List StmtTree)
body = block (suc most_levels)

-- a class, from its word on
abbrev pub class : Parser Item
class i = and_then (take_any i)
    (λ t j. and_then (take_name j)
    (λ name l. and_then (reader.braced (reader.one_member body) l)
    (λ members. pure (item.Class t.line name members))))

-- a thread
abbrev pub thread : Parser Item
thread i =
    and_then (take_keyword k.Thread i)
    (λ t j. and_then (reader.number_from j.room j.tokens)
    (λ n l. and_then (body l) (λ all. pure (item.Thread t.line n.0 n.1 all))))

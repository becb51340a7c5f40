-- How the reserved words and the symbols are written.
use Rattle.std.specs.Prelude.{List, [], ◌∷◌, codes}
use Rattle.dso_tokens.specs.declared.token.Keyword.{Keyword}
use Rattle.dso_tokens.specs.declared.token.Keyword.TheVariants as k
use Rattle.dso_tokens.specs.declared.token.Mark.{Mark}
use Rattle.dso_tokens.specs.declared.token.Mark.TheVariants as m
use Rattle.dso_tokens.specs.Bytes.{Text}

-- how a reserved word is written
abbrev pub word_of : Keyword → Text
word_of k.Class = codes "class"
word_of k.Static = codes "static"
word_of k.Synchronized = codes "synchronized"
word_of k.Thread = codes "thread"
word_of k.Var = codes "var"
word_of k.If = codes "if"
word_of k.Else = codes "else"
word_of k.While = codes "while"
word_of k.Wait = codes "wait"
word_of k.Notify = codes "notify"
word_of k.NotifyAll = codes "notifyAll"
word_of k.Print = codes "print"
word_of k.Return = codes "return"
word_of k.New = codes "new"
word_of k.This = codes "this"
word_of k.Null = codes "null"
word_of k.True = codes "true"
word_of k.False = codes "false"
word_of k.Long = codes "long"
word_of k.Boolean = codes "boolean"
word_of k.Text = codes "text"
word_of k.Ref = codes "ref"

-- how a symbol is written
abbrev pub symbol_of : Mark → Text
symbol_of m.OpenBrace = codes "{"
symbol_of m.CloseBrace = codes "}"
symbol_of m.OpenParen = codes "("
symbol_of m.CloseParen = codes ")"
symbol_of m.OpenBracket = codes "["
symbol_of m.CloseBracket = codes "]"
symbol_of m.Semicolon = codes ";"
symbol_of m.Comma = codes ","
symbol_of m.Dot = codes "."
symbol_of m.Assign = codes "="
symbol_of m.EqualTo = codes "=="
symbol_of m.NotEqual = codes "!="
symbol_of m.Less = codes "<"
symbol_of m.LessEqual = codes "<="
symbol_of m.Greater = codes ">"
symbol_of m.GreaterEqual = codes ">="
symbol_of m.Plus = codes "+"
symbol_of m.Minus = codes "-"
symbol_of m.Star = codes "*"
symbol_of m.Slash = codes "/"
symbol_of m.Percent = codes "%"
symbol_of m.Bang = codes "!"
symbol_of m.AndAnd = codes "&&"
symbol_of m.OrOr = codes "||"

-- every reserved word
abbrev pub every_keyword : List Keyword
every_keyword = k.Class ∷ k.Static ∷ k.Synchronized ∷ k.Thread ∷ k.Var ∷ k.If ∷ k.Else ∷ k.While ∷ k.Wait ∷ k.Notify
    ∷ k.NotifyAll ∷ k.Print
    ∷ k.Return ∷ k.New ∷ k.This ∷ k.Null ∷ k.True ∷ k.False ∷ k.Long ∷ k.Boolean ∷ k.Text ∷ k.Ref ∷ []

-- the symbols of two bytes
abbrev pub double_marks : List Mark
double_marks = m.EqualTo ∷ m.NotEqual ∷ m.LessEqual ∷ m.GreaterEqual ∷ m.AndAnd ∷ m.OrOr ∷ []

-- the symbols of one byte
abbrev pub single_marks : List Mark
single_marks = m.OpenBrace ∷ m.CloseBrace ∷ m.OpenParen ∷ m.CloseParen ∷ m.OpenBracket ∷ m.CloseBracket ∷ m.Semicolon
    ∷ m.Comma ∷ m.Dot
    ∷ m.Assign ∷ m.Less ∷ m.Greater ∷ m.Plus ∷ m.Minus ∷ m.Star ∷ m.Slash ∷ m.Percent ∷ m.Bang ∷ []

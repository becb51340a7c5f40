-- The reader of expressions, part by part, where so many levels may still be opened within: the number bounds how
-- deep the parts hold each other. Each is what `ExpressionReader` has, under a name of its own.
use Rattle.std.specs.Prelude.{ℕ, List, Ok}
use Rattle.dso_syntax.specs.declared.tree.ExprTree.{ExprTree}
use Rattle.dso_syntax.specs.declared.tree.ExprForm.TheVariants as e
use Rattle.dso_syntax.specs.declared.operand.Suffix.{Suffix}
use Rattle.dso_syntax.specs.declared.operand.Suffix.TheVariants as suffix
use Rattle.dso_syntax.specs.Grammar.{expression, line_of}
use Rattle.dso_syntax.specs.OperandReader.{called, indexed}
use Rattle.dso_syntax.specs.ExpressionReader.{Parser, and_then}
use Rattle.dso_syntax.specs.ExpressionReader as reader

-- a whole expression
unfoldable pub whole : ℕ → Parser ExprTree
whole levels = reader.whole levels

-- an operand with the signs before it; the second number bounds how many
unfoldable pub unary : ℕ → ℕ → Parser ExprTree
unary levels more = reader.unary (reader.whole levels) more levels

-- an expression of a rank
unfoldable pub climb : ℕ → ℕ → Parser ExprTree
climb levels rank = reader.climb (reader.unary (reader.whole levels) levels levels) levels rank

-- the operators of a rank behind an operand; the last number bounds how many
unfoldable pub operations : ℕ → ℕ → ℕ → ExprTree → Parser ExprTree
operations levels rank more = reader.operations
    (reader.climb (reader.unary (reader.whole levels) levels levels) levels rank) rank more

-- a primary expression
unfoldable pub primary : ℕ → Parser ExprTree
primary levels = reader.primary (reader.whole levels)

-- an expression with the suffixes behind it; the last number bounds how many
unfoldable pub suffixes : ℕ → ℕ → ExprTree → Parser ExprTree
suffixes levels more = reader.suffixes (reader.whole levels) more

-- an expression with one suffix, from behind what `take_suffix` takes of it
unfoldable pub suffixed : ℕ → Suffix → ExprTree → Parser ExprTree
suffixed levels (suffix.Field name) a i = Ok (expression (line_of a) (e.Field a name), i)
suffixed levels (suffix.Call name) a i = and_then (reader.arguments (reader.whole levels) i) (called a name)
suffixed levels suffix.Element a i = and_then (reader.whole levels i) (indexed a)

-- the arguments of a call
unfoldable pub arguments : ℕ → Parser (List ExprTree)
arguments levels = reader.arguments (reader.whole levels)

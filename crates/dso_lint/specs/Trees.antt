-- Where expressions and statements stand in each other.
use Rattle.std.specs.Prelude.{List, [], ◌∷◌, Contains, None, Some}
use Rattle.dso_machine.specs.declared.tree.Expr.{Expr, Expr-F, out-Expr}
use Rattle.dso_machine.specs.declared.tree.Expr.TheOpen as x
use Rattle.dso_machine.specs.declared.tree.Stmt.{Stmt, Stmt-F, out-Stmt}
use Rattle.dso_machine.specs.declared.tree.Stmt.TheOpen as s

-- the operands of an expression
abbrev pub operands_in : Expr-F Expr → List Expr
operands_in (x.Field a f) = a ∷ []
operands_in (x.Elem a b) = a ∷ b ∷ []
operands_in (x.Call a callees args) = a ∷ args
operands_in (x.NewArray kind a) = a ∷ []
operands_in (x.Unary op a) = a ∷ []
operands_in (x.Binary op a b) = a ∷ b ∷ []
operands_in leaf = []

abbrev pub operands : Expr → List Expr
operands whole = operands_in (out-Expr whole)

-- the expression is the whole one, or stands in one of its operands
pub data IsPart (e : Expr) : Expr → Type 0 where
  itself : IsPart e e
  of_operand : {whole operand : Expr} → Contains (operands whole) operand → IsPart e operand → IsPart e whole

-- the expressions that a statement evaluates itself, not by a block in it
abbrev pub evaluated_in : Stmt-F Stmt → List Expr
evaluated_in (s.Assign i a) = a ∷ []
evaluated_in (s.PutField a f b) = a ∷ b ∷ []
evaluated_in (s.PutElem a b c) = a ∷ b ∷ c ∷ []
evaluated_in (s.PutRoot r a) = a ∷ []
evaluated_in (s.Eval a) = a ∷ []
evaluated_in (s.If a all others) = a ∷ []
evaluated_in (s.While a all) = a ∷ []
evaluated_in (s.Sync a grade all) = a ∷ []
evaluated_in (s.Wait a) = a ∷ []
evaluated_in (s.TimedWait a b) = a ∷ b ∷ []
evaluated_in (s.Notify a) = a ∷ []
evaluated_in (s.NotifyAll a) = a ∷ []
evaluated_in (s.Print a) = a ∷ []
evaluated_in (s.Return None) = []
evaluated_in (s.Return (Some a)) = a ∷ []

abbrev pub evaluated : Stmt → List Expr
evaluated a = evaluated_in (out-Stmt a)

-- the blocks in a statement
abbrev pub blocks_in : Stmt-F Stmt → List (List Stmt)
blocks_in (s.If a all others) = all ∷ others ∷ []
blocks_in (s.While a all) = all ∷ []
blocks_in (s.Sync a grade all) = all ∷ []
blocks_in other = []

abbrev pub blocks : Stmt → List (List Stmt)
blocks a = blocks_in (out-Stmt a)

-- the statement stands in the block, at any depth
pub data StandsIn (a : Stmt) : List Stmt → Type 0 where
  here : {block : List Stmt} → Contains block a → StandsIn a block
  deeper : {block inner : List Stmt} {b : Stmt} → Contains block b → Contains (blocks b) inner → StandsIn a inner →
      StandsIn a block

-- the statement evaluates the expression, or one in which it stands
pub record Evaluates (a : Stmt) (e : Expr) : Type 0 where
  pub whole : Expr
  pub evaluates : Contains (evaluated a) whole
  pub is_part : IsPart e whole

-- some statement of the block evaluates the expression
pub record Uses (block : List Stmt) (e : Expr) : Type 0 where
  pub statement : Stmt
  pub stands : StandsIn statement block
  pub evaluates : Evaluates statement e

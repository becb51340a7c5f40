-- Which trees and configurations names can be resolved of.
use Rattle.dso_config.specs.declared.config.Config.{Config}
use Rattle.dso_config.specs.InRange.{IsInRange}
use Rattle.dso_syntax.specs.declared.tree.Ast.{Ast}
use Rattle.dso_syntax.specs.Grammar.{Tokens}
use Rattle.dso_syntax.specs.TextLimits.{most_levels}
use Rattle.dso_syntax.specs.ProgramGrammar.{IsProgram}

-- The tree is that of some row of tokens, and the configuration is one that a text can say.
pub record IsValidInput (config : Config) (ast : Ast) : Type 0 where
  pub tokens : Tokens
  pub grammar : IsProgram most_levels tokens ast
  pub in_range : IsInRange config

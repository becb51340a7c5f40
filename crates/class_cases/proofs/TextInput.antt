-- A text that was read, with a configuration in range, is valid input for `resolve`.
use Rattle.std.proofs.Common.{List, ℕ}
use Rattle.dso_config.specs.declared.config.Config.{Config}
use Rattle.dso_config.specs.InRange.{IsInRange}
use Rattle.dso_syntax.specs.declared.tree.Ast.{Ast}
use Rattle.dso_syntax.specs.SyntaxFaults.{IsText}
use Rattle.dso_class.specs.ValidInput.{IsValidInput}

-- the tree of a text is that of its tokens
pub valid_input : (text : List ℕ) (ast : Ast) (config : Config) → IsText text ast → IsInRange config → IsValidInput config ast
valid_input text ast config is fits = record { tokens = is.0; grammar = is.3; in_range = fits }

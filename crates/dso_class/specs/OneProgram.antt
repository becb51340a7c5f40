-- What it is that a tree has one program.
use Rattle.std.specs.Prelude.{◌≡◌}
use Rattle.dso_config.specs.declared.config.Config.{Config}
use Rattle.dso_syntax.specs.declared.tree.Ast.{Ast}
use Rattle.dso_class.specs.declared.program.Program.{Program}
use Rattle.dso_class.specs.TextProgram.{IsProgramOf}

-- a tree has one program at most under a configuration
abbrev pub HasOneProgram : Config → Ast → Type 0
HasOneProgram config tree = (p q : Program) → IsProgramOf config tree p → IsProgramOf config tree q → p ≡ q

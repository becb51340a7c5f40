-- What is answered of mentions: that none of them breaks a rule, or the first fault among them.
use Rattle.std.specs.Prelude.{◌≡◌, ℕ, ◌≤◌, List, [], ◌∷◌, ◌++◌}
use Rattle.dso_config.specs.declared.config.Config.{Config}
use Rattle.dso_syntax.specs.declared.tree.Ast.{Ast}
use Rattle.dso_class.specs.declared.fault.NameKind.{NameKind}
use Rattle.dso_class.specs.Mentions.{Mention, Mentioned}
use Rattle.dso_class.specs.NameFaults.{Breaks, rank}

-- the mentions so far with these behind them; the nearest is first
abbrev pub behind : List Mention → List Mention → List Mention
behind before [] = before
behind before (mention ∷ rest) = behind (mention ∷ before) rest

-- what is mentioned breaks no rule
abbrev pub IsFine : Config → Ast → List Mention → Mentioned → Type 0
IsFine config ast before here = (kind : NameKind) → Breaks config ast before here kind → ⊥

-- what is mentioned breaks a rule, and this is the fault that is told
pub record IsFault (config : Config) (ast : Ast) (before : List Mention) (here : Mentioned) (kind : NameKind)
    : Type 0 where
  pub breaks : Breaks config ast before here kind
  pub least : (other : NameKind) → Breaks config ast before here other → rank kind ≤ rank other

-- none of the mentions breaks a rule, behind those before it
abbrev pub AreFine : Config → Ast → List Mention → List Mention → Type 0
AreFine config ast before [] = Unit {0}
AreFine config ast before (mention ∷ rest) =
    IsFine config ast before mention.what × AreFine config ast (mention ∷ before) rest

-- the first fault among the mentions, with its line
pub record IsFaultAmong (config : Config) (ast : Ast) (before mentions : List Mention) (kind : NameKind) (line : ℕ)
    : Type 0 where
  pub front : List Mention
  pub here : Mention
  pub rest : List Mention
  pub stands : mentions ≡ front ++ here ∷ rest
  pub fine : AreFine config ast before front
  pub broken : IsFault config ast (behind before front) here.what kind
  pub on_line : here.line ≡ line

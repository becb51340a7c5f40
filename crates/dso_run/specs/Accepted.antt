-- Which texts of a configuration and of a program are taken, as which program, and why the others are refused.
use Rattle.std.specs.Prelude.{◌≤◌, ℕ, List, length}
use Rattle.dso_class.specs.declared.fault.NameFault.TheVariants as name
use Rattle.dso_class.specs.declared.program.Program.{Program}
use Rattle.dso_class.specs.NameFaults.{IsFirstFault}
use Rattle.dso_class.specs.TextProgram.{IsProgramOf}
use Rattle.dso_class.specs.Sound.{IsSoundProgram}
use Rattle.dso_config.specs.declared.config.Config.{Config}
use Rattle.dso_config.specs.declared.fault.ConfigFault.{ConfigFault}
use Rattle.dso_config.specs.declared.fault.ConfigFault.TheVariants as config_fault
use Rattle.dso_config.specs.Configuration.{IsConfigurationOf, IsFaultOf}
use Rattle.dso_syntax.specs.declared.fault.SyntaxFault.TheVariants as syntax
use Rattle.dso_syntax.specs.declared.tree.Ast.{Ast}
use Rattle.dso_syntax.specs.ParseAnswer.{Refuses}
use Rattle.dso_syntax.specs.SyntaxFaults.{IsText}
use Rattle.dso_syntax.specs.TextLimits.{longest_text}
use Rattle.dso_run.specs.declared.status.ProgramFault.{ProgramFault}
use Rattle.dso_run.specs.declared.status.ProgramFault.TheVariants as fault
pub use Rattle.dso_world.specs.WorldSteps.{settings_of}

-- The text is a program of this tree by the grammar, and isn't too long.
pub record HasTree (text : List ℕ) (tree : Ast) : Type 0 where
  pub short : length text ≤ longest_text
  pub is_text : IsText text tree

-- The tree is this program under this configuration.
pub record IsResolved (config : Config) (tree : Ast) (p : Program) : Type 0 where
  pub program : IsProgramOf config tree p
  pub sound : IsSoundProgram p

-- UNDER A CONFIGURATION
module _ (config : Config) where
  -- A text is taken as this program: it has a tree by the grammar, and the tree is this program.
  pub record IsTakenText (text : List ℕ) (p : Program) : Type 0 where
    pub tree : Ast
    pub has_tree : HasTree text tree
    pub resolved : IsResolved config tree p

  -- why a text of this tree is refused: for the first fault of its names, and for nothing else
  abbrev pub IsTreeFault : Ast → ProgramFault → Type 0
  IsTreeFault tree (fault.Name (name.At kind line)) = IsFirstFault config tree kind line
  IsTreeFault tree other = ⊥

  -- There is a tree that is the text's, and it is refused for this fault.
  pub record HasTreeFault (text : List ℕ) (which : ProgramFault) : Type 0 where
    pub tree : Ast
    pub has_tree : HasTree text tree
    pub refused : IsTreeFault tree which

  -- Why a program text is refused: it is too long, or the program of no tree and this is its fault, or it has a tree
  -- and this is the tree's first fault. The fault is never a want of memory.
  abbrev pub IsTextFault : List ℕ → ProgramFault → Type 0
  IsTextFault text (fault.Syntax (syntax.NoMemory refusal)) = ⊥
  IsTextFault text (fault.Syntax which) = Refuses text which
  IsTextFault text which = HasTreeFault text which

-- BOTH TEXTS
module _ (config_text program_text : List ℕ) where
  -- The configuration says this, and under it something holds of the program's text.
  pub record Under (P : Config → Type 0) : Type 0 where
    pub config : Config
    pub says : IsConfigurationOf config_text config
    pub holds : P config

  -- why the configuration is refused: for its fault, and never for want of memory
  abbrev pub IsConfigRefusal : ConfigFault → Type 0
  IsConfigRefusal (config_fault.NoMemory refusal) = ⊥
  IsConfigRefusal which = IsFaultOf config_text which

  -- why the program is refused: nothing is wrong with the configuration, and under it the program has this fault
  abbrev pub IsProgramRefusal : ProgramFault → Type 0
  IsProgramRefusal which = Under (λ config. IsTextFault config program_text which)

  -- the texts are taken as this program: nothing is wrong with the configuration, and under it the text is the program
  abbrev pub AreTaken : Program → Type 0
  AreTaken p = Under (λ config. IsTakenText config program_text p)

-- The verdict on the texts of a command: why nothing is run, or which program is accepted.
use Rattle.std.specs.Prelude.{ℕ, List}
use Rattle.dso_config.specs.declared.config.Config.{Config}
use Rattle.dso_syntax.specs.declared.tree.Ast.{Ast}
use Rattle.dso_run.specs.declared.status.Refusal.TheVariants as refusal
use Rattle.dso_run.specs.declared.verdict.Verdict.{Verdict}
use Rattle.dso_run.specs.declared.verdict.Verdict.TheVariants.{Refused, Accepted}
use Rattle.dso_run.specs.Accepted.{AreTaken, IsConfigRefusal, IsProgramRefusal, IsResolved}
use Rattle.dso_run.specs.Accepted.{IsTakenText, IsTextFault, IsTreeFault}
use Rattle.dso_io.specs.Environment.{Told}
use Rattle.dso_run.specs.Headline.{Gives, ReadFailed}
use Rattle.dso_command_line.specs.Words.{Command}

-- UNDER A CONFIGURATION
module _ (config : Config) where
  -- what a tree comes to: it is refused for a fault of its names, or taken as a program
  abbrev pub IsVerdictOnTree : Ast → Verdict → Type 0
  IsVerdictOnTree tree (Refused (refusal.Program fault)) = IsTreeFault config tree fault
  IsVerdictOnTree tree (Accepted p) = IsResolved config tree p
  IsVerdictOnTree tree verdict = ⊥

  -- what a program's text comes to
  abbrev pub IsVerdictOnProgram : List ℕ → Verdict → Type 0
  IsVerdictOnProgram text (Refused (refusal.Program fault)) = IsTextFault config text fault
  IsVerdictOnProgram text (Accepted p) = IsTakenText config text p
  IsVerdictOnProgram text verdict = ⊥

-- what the texts of a configuration and of a program come to
abbrev pub IsVerdictOnTexts : List ℕ → List ℕ → Verdict → Type 0
IsVerdictOnTexts config_text program_text (Refused (refusal.Config fault)) =
    IsConfigRefusal config_text program_text fault
IsVerdictOnTexts config_text program_text (Refused (refusal.Program fault)) =
    IsProgramRefusal config_text program_text fault
IsVerdictOnTexts config_text program_text (Accepted p) = AreTaken config_text program_text p
IsVerdictOnTexts config_text program_text verdict = ⊥

-- WHAT GIVEN TEXTS COME TO, by which texts are given, and by whether a read failed
module _ (Given : List ℕ → List ℕ → Type 0) (failed : Type 0) where
  -- The texts are those that are given, and come to this verdict.
  pub record IsVerdictOnGiven (which : Verdict) : Type 0 where
    pub config_text : List ℕ
    pub program_text : List ℕ
    pub given : Given config_text program_text
    pub verdict : IsVerdictOnTexts config_text program_text which

  -- a read failed, or the texts come to this
  abbrev pub IsVerdictBy : Verdict → Type 0
  IsVerdictBy (Refused refusal.Words) = ⊥
  IsVerdictBy (Refused refusal.Store) = ⊥
  IsVerdictBy (Refused refusal.InUse) = ⊥
  IsVerdictBy (Refused (refusal.BadStore place)) = ⊥
  IsVerdictBy (Refused refusal.Reading) = failed
  IsVerdictBy (Refused (refusal.Config fault)) = IsVerdictOnGiven (Refused (refusal.Config fault))
  IsVerdictBy (Refused (refusal.Program fault)) = IsVerdictOnGiven (Refused (refusal.Program fault))
  IsVerdictBy (Accepted p) = IsVerdictOnGiven (Accepted p)

-- what a command's texts come to, by what is told of each file, and by what tells of each that a read of it failed
abbrev pub IsVerdictOn : (List ℕ → Told) → (List ℕ → Type 0) → Command → Verdict → Type 0
IsVerdictOn content failed command = IsVerdictBy (Gives content command) (ReadFailed command failed)

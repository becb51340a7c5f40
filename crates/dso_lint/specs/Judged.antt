-- What is found of the bodies of code, one after the other.
use Rattle.std.specs.Prelude.{◌≡◌, length, Option, None, Some}
use Rattle.dso_machine.specs.declared.code.Code.{Code}
use Rattle.dso_lint.specs.declared.answer.Place.{Place}
use Rattle.dso_lint.specs.declared.answer.Why.{Why}
use Rattle.dso_lint.specs.declared.checker.Bodies.{Bodies}
use Rattle.dso_lint.specs.Clean.{Choice}
use Rattle.dso_lint.specs.CleanRows.{AreClean, choice_of}
use Rattle.dso_lint.specs.Listed.{AreListed, routines}
use Rattle.dso_lint.specs.Verdict.{Passes, Fails}

-- these are the bodies of the code, with the clean variables of each
pub record AreBodies (code : Code) (bodies : Bodies) : Type 0 where
  pub listed : AreListed (routines code) bodies.all.items
  pub clean : AreClean code bodies.rows.items
  pub methods : bodies.methods ≡ length code.methods

-- their clean variables
abbrev pub choice_by : Code → Bodies → Choice
choice_by code bodies = choice_of (length code.methods) bodies.rows.items

-- both rules hold at the place, or it fails this one
abbrev pub IsJudged : Code → Choice → Place → Option Why → Type 0
IsJudged code choice at None = Passes code choice at
IsJudged code choice at (Some reason) = Fails code choice at reason

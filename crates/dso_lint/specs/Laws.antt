-- The law of the lock checker's answers.
use Rattle.std.specs.Prelude.{◌≡◌}
use Rattle.dso_machine.specs.declared.code.Code.{Code}
use Rattle.dso_lint.specs.declared.answer.Lint.{Lint}
use Rattle.dso_lint.specs.Verdict.{IsVerdict}

-- code has one verdict
abbrev pub AnswersOnce : Type 0
AnswersOnce = (code : Code) (answer other : Lint) → IsVerdict code answer → IsVerdict code other → answer ≡ other

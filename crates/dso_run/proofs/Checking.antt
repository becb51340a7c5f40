-- What a call's answer means that checks a program's locks.
use Rattle.std.proofs.Common.{◌≡◌, ◌∙◌, refl, ℕ, List, []}
use Rattle.dso_class.specs.declared.program.Program.{Program}
use Rattle.dso_command_line.specs.Words.{Lint, LintCall}
use Rattle.dso_io.specs.Environment.{Told}
use Rattle.dso_lint.specs.declared.answer.Lint as checker
use Rattle.dso_lint.specs.Verdict.{IsVerdict}
use Rattle.dso_run.specs.declared.status.Status.{Status}
use Rattle.dso_run.specs.Files.{AreAsBefore}
use Rattle.dso_run.specs.Headline.{CallOutput}
use Rattle.dso_run.specs.Status.{lint_line, status_of_lint}
use Rattle.dso_run.specs.Stores.{IsUntouched}
use Rattle.dso_run.specs.Writing.{MeansFor, Wrote}
use Rattle.dso_run.proofs.StatusMeaning.{verdict_means}

pub locks_checked : (call : LintCall) (p : Program) (before : List ℕ → Told) (output : CallOutput) → output.journal ≡ [] → AreAsBefore before output.content
    → output.writes_after ≡ output.writes_before → (answer : checker.Lint) (status : Status) → IsVerdict p.code answer → IsUntouched output.disk
    → Wrote output.sink_before output.sink_after output.failed_before output.failed_after (lint_line answer) (status_of_lint answer) status
    → MeansFor (Lint call) p before output status
locks_checked call p before output none unchanged files answer status verdict untouched wrote input accepted same =
    verdict_means input output answer (lint_line answer) status
    (record {
      call = call;
      program = p;
      accepted = accepted;
      verdict = verdict;
      is_line = refl;
      nothing_ran = none;
      unchanged = λ file. unchanged file ∙ same file;
      untouched = untouched;
    }) files wrote

-- What the lock checker's Yes says of the runs of a program, in one place.
use Rattle.std.specs.Prelude.{List}
use Rattle.dso_class.specs.declared.program.Program.{Program}
use Rattle.dso_command_line.specs.Words.{Lint, LintCall}
use Rattle.dso_lint_law.specs.GuardedHistories.{IsGuardedCode}
use Rattle.dso_run.specs.declared.status.Status.TheVariants.{LintYes}
use Rattle.dso_run.specs.Headline.{CallInput, CallOutput, IsAccepted, StatusMeans}

-- A program was accepted, and each legal history of it is guarded: no act in it is refused for want of a lock, and no
-- read in it is unguarded.
pub record IsGuardedProgram (input : CallInput) : Type 0 where
  pub call : LintCall
  pub program : Program
  pub accepted : IsAccepted input (Lint call) program
  pub guarded : IsGuardedCode program.code

-- what exit 0 of `lint` means
abbrev pub YesMeansGuarded : Type 0
YesMeansGuarded = (input : CallInput) (output : CallOutput) → StatusMeans input output LintYes → IsGuardedProgram input

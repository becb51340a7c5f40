-- What was told of a run, by what was written of its text.
use Rattle.std.proofs.Common.{◌≡◌, inl, inr, sym, subst, ℕ, List}
use Rattle.dso_class.specs.declared.program.Program.{Program}
use Rattle.dso_io.specs.Environment.{Told}
use Rattle.dso_run.specs.declared.running.Outcome.{Outcome}
use Rattle.dso_run.specs.declared.running.Outcome.TheVariants.{Finished, FinishedFault, Stuck, Budget}
use Rattle.dso_run.specs.declared.status.Status.{Status}
use Rattle.dso_run.specs.Headline.{CallOutput, IsKept, IsRunText}
use Rattle.dso_run.specs.Status.{status_of_run}
use Rattle.dso_run.specs.Writing.{Ran, ToldRun, ToldWhole, Wrote}
use Rattle.dso_command_line.specs.Words.{Command}

module _ (command : Command) (p : Program) (before : List ℕ → Told) (output : CallOutput) where
  -- all of it was told
  whole : (ended : Outcome) → ToldWhole command p before output ended → ToldRun command p before output (status_of_run ended)
  whole Finished is = is
  whole FinishedFault is = is
  whole Stuck is = is
  whole Budget is = is

  -- all of it, or a prefix
  pub told_run : (ended : Outcome) (text : List ℕ) (answer : Status) → Ran command p before output ended → IsKept command output.journal before output.content
      → IsRunText command p output.journal text → output.writes_after ≡ output.writes_before
      → Wrote output.sink_before output.sink_after output.failed_before output.failed_after text (status_of_run ended) answer
      → ToldRun command p before output answer
  told_run ended text answer ran kept is files (inl all) =
      subst (ToldRun command p before output) (sym all.0) (whole ended (ran, kept, (text, is, all.1), all.2, files))
  told_run ended text answer ran kept is files (inr cut) =
      subst (ToldRun command p before output) (sym cut.0) (inl ((ended, ran), kept, (text, is, cut.1), cut.2))

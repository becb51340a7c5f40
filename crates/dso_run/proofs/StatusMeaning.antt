-- What a status means, from the verdict and from what was written.
use Rattle.std.proofs.Common.{◌≡◌, ◌≢◌, ◌∙◌, inl, inr, refl, sym, ap, subst, ℕ, List, Option, Some, None, reverse}
use Rattle.dso_class.specs.declared.program.Program.{Program}
use Rattle.dso_class.specs.declared.fault.NameFault.TheVariants as name
use Rattle.dso_config.specs.declared.config.Config as set
use Rattle.dso_config.specs.declared.fault.ConfigFault.{ConfigFault}
use Rattle.dso_config.specs.declared.fault.ConfigFault.TheVariants as config_fault
use Rattle.dso_syntax.specs.declared.fault.SyntaxFault.TheVariants as syntax
use Rattle.dso_run.specs.declared.status.ProgramFault.{ProgramFault}
use Rattle.dso_run.specs.declared.status.ProgramFault.TheVariants as program
use Rattle.dso_run.specs.declared.status.Refusal.{Refusal}
use Rattle.dso_run.specs.declared.status.Refusal.TheVariants.{Words, Reading, Config}
use Rattle.dso_run.specs.declared.status.Refusal.TheVariants as refusal
use Rattle.dso_run.specs.declared.status.Status.{Status}
use Rattle.dso_run.specs.declared.status.Status.TheVariants.{Finished, FinishedFault, Usage, BadConfig, BadProgram, ReadFault, WriteFault, Stuck, Budget, NoMemory, StoreFault, StoreInUse, BadStore, Shown, LintYes, LintNo}
use Rattle.dso_lint.specs.declared.answer.Lint.{Lint}
use Rattle.dso_lint.specs.declared.answer.Lint.TheVariants as lint
use Rattle.dso_run.specs.Accepted.{IsConfigRefusal, IsTextFault}
use Rattle.dso_io.specs.Environment.{Told, replaced, taken_after}
use Rattle.dso_run.specs.declared.running.Outcome.{Outcome}
use Rattle.dso_run.specs.declared.running.Outcome.TheVariants as outcome
use Rattle.dso_run.specs.Files.{AreAsBefore, IsWritten}
use Rattle.dso_kept.specs.Keeping.{applied}
use Rattle.dso_run.specs.Headline.{CallInput, CallOutput, HasCause, HasRunOf, IsAccepted, IsGraphDue, IsKept, IsLineDue, IsReportDue, IsRunText, IsVerdictDue, LeavesNothing, StatusMeans, WroteWhole}
use Rattle.dso_run.specs.declared.verdict.Verdict.TheVariants.{Refused}
use Rattle.dso_run.specs.Verdict.{IsVerdictBy}
use Rattle.dso_run.specs.Status.{HasLine, line_of, status_of, status_of_lint}
use Rattle.dso_run.specs.Stores.{KeepsRecords}
use Rattle.dso_command_line.specs.Words.{Command, journal_of, store_of}
use Rattle.dso_run.specs.Writing.{Ran, ToldRun, ToldWhole, Wrote}

-- what is written over files that are as before is written over those from before
written_from : (file : Option (List ℕ)) (bytes : List ℕ) (before between after : List ℕ → Told) → AreAsBefore before between → IsWritten file bytes between after
    → IsWritten file bytes before after
written_from None bytes before between after same is = λ name. is name ∙ same name
written_from (Some file) bytes before between after same is =
    (is.0 ∙ ap (λ told. replaced told bytes) (same file), λ other differs. is.1 other differs ∙ same other)

module _ (input : CallInput) (output : CallOutput) where
  -- AN ACCEPTED PROGRAM, whose run began with files as they were before the call
  module _ (command : Command) (p : Program) (between : List ℕ → Told) (accepted : IsAccepted input command p) (same : AreAsBefore input.content between) where
    -- the store that is named has the records of the journal
    abbrev pub Stored : Type 0
    Stored = KeepsRecords (store_of command) p.code.shape (applied (reverse output.journal)) output.disk

    run_of : (ended : Outcome) → Stored → Ran command p between output ended → HasRunOf input output command p ended
    run_of ended stored ran = record { accepted = accepted; ran = ran; stored = stored }

    -- what is told of its run is due
    report_due : (ended : Outcome) (text : List ℕ) → Stored → Ran command p between output ended → IsKept command output.journal between output.content
        → IsRunText command p output.journal text → IsReportDue input output ended text
    report_due ended text stored ran kept is = record {
      command = command;
      program = p;
      run = run_of ended stored ran;
      kept = written_from (journal_of command) _ input.content between output.content same kept;
      is_text = is;
    }

    -- it was written whole
    report_written : (ended : Outcome) → Stored → ToldWhole command p between output ended → WroteWhole input output (IsReportDue input output ended)
    report_written ended stored told = record {
      text = told.2.0;
      due = report_due ended told.2.0 stored told.0 told.1 told.2.1;
      took = told.2.2;
      sink_sound = told.3;
      files_sound = told.4;
    }

    -- what was told of the run means what the status is to mean
    pub run_means : (answer : Status) → (answer ≢ NoMemory → Stored) → ToldRun command p between output answer → StatusMeans input output answer
    run_means NoMemory stored told = record { untouched = told.0; unchanged = λ name. told.1 name ∙ same name; nothing_kept = told.2 }
    run_means WriteFault stored (inl cut) = inl (record {
      text = cut.2.0;
      due = inr (inl (cut.0.0, report_due cut.0.0 cut.2.0 (stored (λ is. cc is)) cut.0.1 cut.1 cut.2.1));
      took = cut.2.2;
      failed = cut.3;
    })
    run_means WriteFault stored (inr unkept) = inr (record {
      command = command;
      program = p;
      ended = unkept.0.0;
      run = run_of unkept.0.0 (stored (λ is. cc is)) unkept.0.1;
      file = unkept.1.0;
      named = unkept.1.1;
      unchanged = λ name. unkept.2 name ∙ same name;
      untouched = unkept.3;
      failed = unkept.4;
    })
    run_means Finished stored told = report_written outcome.Finished (stored (λ is. cc is)) told
    run_means FinishedFault stored told = report_written outcome.FinishedFault (stored (λ is. cc is)) told
    run_means Stuck stored told = report_written outcome.Stuck (stored (λ is. cc is)) told
    run_means Budget stored told = report_written outcome.Budget (stored (λ is. cc is)) told
    run_means Usage stored told = absurd told
    run_means ReadFault stored told = absurd told
    run_means (BadConfig fault) stored told = absurd told
    run_means (BadProgram fault) stored told = absurd told
    run_means StoreFault stored told = absurd told
    run_means StoreInUse stored told = absurd told
    run_means (BadStore place) stored told = absurd told
    run_means Shown stored told = absurd told
    run_means LintYes stored told = absurd told
    run_means (LintNo place why) stored told = absurd told

  -- a refusal's line is due
  line_due : (refusal : Refusal) → HasCause input output refusal → LeavesNothing input output refusal → AreAsBefore input.content output.content
      → IsLineDue input output refusal (line_of refusal)
  line_due refusal cause none same = record { cause = cause; is_line = refl; nothing_else = none; unchanged = same }

  -- the refusal's line was written whole
  line_written : (refusal : Refusal) → HasCause input output refusal → LeavesNothing input output refusal → AreAsBefore input.content output.content
      → output.sink_after ≡ taken_after output.sink_before (line_of refusal) → output.failed_after ≡ output.failed_before → output.writes_after ≡ output.writes_before
      → WroteWhole input output (IsLineDue input output refusal)
  line_written refusal cause none same took sink files = record {
    text = line_of refusal;
    due = line_due refusal cause none same;
    took = took;
    sink_sound = sink;
    files_sound = files;
  }

  -- so the refusal's status means what it is to mean
  of_line : (refusal : Refusal) → WroteWhole input output (IsLineDue input output refusal) → StatusMeans input output (status_of refusal)
  of_line Words whole = whole
  of_line Reading whole = whole
  of_line (Config fault) whole = whole
  of_line (refusal.Program fault) whole = whole
  of_line refusal.Store whole = whole
  of_line refusal.InUse whole = whole
  of_line (refusal.BadStore place) whole = whole

  -- a refusal, by what was written of its line
  pub refusal_means : (refusal : Refusal) (answer : Status) → HasCause input output refusal → LeavesNothing input output refusal → AreAsBefore input.content output.content
      → output.writes_after ≡ output.writes_before
      → Wrote output.sink_before output.sink_after output.failed_before output.failed_after (line_of refusal) (status_of refusal) answer
      → StatusMeans input output answer
  refusal_means refusal answer cause none same files (inl whole) =
      subst (StatusMeans input output) (sym whole.0) (of_line refusal (line_written refusal cause none same whole.1 whole.2 files))
  refusal_means refusal answer cause none same files (inr part) =
      let cut : StatusMeans input output WriteFault = inl (record {
        text = line_of refusal;
        due = inl (refusal, line_due refusal cause none same);
        took = part.1;
        failed = part.2;
      }) in subst (StatusMeans input output) (sym part.0) cut

  -- the graph of a store, by what was written of it
  pub graph_means : (text : List ℕ) (answer : Status) → IsGraphDue input output text → output.writes_after ≡ output.writes_before
      → Wrote output.sink_before output.sink_after output.failed_before output.failed_after text Shown answer → StatusMeans input output answer
  graph_means text answer due files (inl whole) =
      let shown : StatusMeans input output Shown = record { text = text; due = due; took = whole.1; sink_sound = whole.2; files_sound = files } in
      subst (StatusMeans input output) (sym whole.0) shown
  graph_means text answer due files (inr part) =
      let cut : StatusMeans input output WriteFault = inl (record { text = text; due = inr (inr (inl due)); took = part.1; failed = part.2 }) in
      subst (StatusMeans input output) (sym part.0) cut

  -- the lock checker's answer, by what was written of its line
  of_verdict : (answer : Lint) → WroteWhole input output (IsVerdictDue input output answer) → StatusMeans input output (status_of_lint answer)
  of_verdict lint.Yes whole = whole
  of_verdict (lint.No place why) whole = whole

  pub verdict_means : (answer : Lint) (text : List ℕ) (status : Status) → IsVerdictDue input output answer text → output.writes_after ≡ output.writes_before
      → Wrote output.sink_before output.sink_after output.failed_before output.failed_after text (status_of_lint answer) status → StatusMeans input output status
  verdict_means answer text status due files (inl whole) =
      subst (StatusMeans input output) (sym whole.0)
      (of_verdict answer (record { text = text; due = due; took = whole.1; sink_sound = whole.2; files_sound = files }))
  verdict_means answer text status due files (inr part) =
      let cut : StatusMeans input output WriteFault = inl (record { text = text; due = inr (inr (inr (answer, due))); took = part.1; failed = part.2 }) in
      subst (StatusMeans input output) (sym part.0) cut

-- A refusal by what is given has a line: no want of memory is a fault of a configuration or a program.
config_has_line : (config program : List ℕ) (wrong : ConfigFault) → IsConfigRefusal config program wrong → HasLine (Config wrong)
config_has_line config program config_fault.NotToml is = tt
config_has_line config program (config_fault.UnknownKey spot) is = tt
config_has_line config program (config_fault.WrongKind spot) is = tt
config_has_line config program (config_fault.OutOfRange spot) is = tt
config_has_line config program (config_fault.BadMethodPattern spot) is = tt
config_has_line config program (config_fault.BadGuard spot) is = tt
config_has_line config program (config_fault.Twice spot) is = tt
config_has_line config program config_fault.TooLong is = tt
config_has_line config program (config_fault.BadName spot) is = tt
config_has_line config program (config_fault.NoMemory refusal) never = never

text_has_line : (config : set.Config) (text : List ℕ) (wrong : ProgramFault) → IsTextFault config text wrong → HasLine (refusal.Program wrong)
text_has_line config text (program.Syntax (syntax.BadByte place)) is = tt
text_has_line config text (program.Syntax (syntax.BadToken place)) is = tt
text_has_line config text (program.Syntax (syntax.Unexpected place)) is = tt
text_has_line config text (program.Syntax (syntax.NumberTooWide place)) is = tt
text_has_line config text (program.Syntax (syntax.NestTooDeep place)) is = tt
text_has_line config text (program.Syntax syntax.TooLong) is = tt
text_has_line config text (program.Syntax (syntax.NoMemory refusal)) never = never
text_has_line config text (program.Name (name.At kind line)) is = tt
text_has_line config text (program.Name (name.NoMemory refusal)) never = never.refused

pub verdict_has_line : (Given : List ℕ → List ℕ → Type 0) (failed : Type 0) (refusal : Refusal) → IsVerdictBy Given failed (Refused refusal) → HasLine refusal
verdict_has_line Given failed Words is = tt
verdict_has_line Given failed Reading is = tt
verdict_has_line Given failed refusal.Store is = tt
verdict_has_line Given failed refusal.InUse is = tt
verdict_has_line Given failed (refusal.BadStore place) is = tt
verdict_has_line Given failed (Config wrong) is = config_has_line is.config_text is.program_text wrong is.verdict
verdict_has_line Given failed (refusal.Program wrong) is = text_has_line is.verdict.config is.program_text wrong is.verdict.holds

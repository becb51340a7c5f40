-- What a call's answer means that shows a store.
use Rattle.std.proofs.Common.{◌≡◌, ◌∙◌, ℕ, List, []}
use Rattle.std.specs.Option.{IfSome}
use Rattle.dso_base.specs.declared.record.Txn.{Txn}
use Rattle.dso_class.specs.declared.program.Program.{Program}
use Rattle.dso_command_line.specs.Words.{Show, ShowCall}
use Rattle.dso_io.specs.Environment.{Told}
use Rattle.dso_keep.specs.Records.{AllFit, Reopens, opening}
use Rattle.dso_run.specs.declared.status.Refusal.{Refusal}
use Rattle.dso_run.specs.declared.status.Refusal.TheVariants as refusal
use Rattle.dso_run.specs.declared.status.Status.{Status}
use Rattle.dso_run.specs.declared.status.Status.TheVariants.{Shown}
use Rattle.dso_run.specs.Files.{AreAsBefore}
use Rattle.dso_run.specs.Headline.{CallOutput}
use Rattle.dso_run.specs.Status.{line_of, status_of}
use Rattle.dso_run.specs.StoreCalls.{IsShowRefused}
use Rattle.dso_run.specs.Stores.{WasTaken}
use Rattle.dso_run.specs.Writing.{MeansFor, Wrote}
use Rattle.dso_run.proofs.StatusMeaning.{graph_means, refusal_means}
use Rattle.dso_show.specs.Shown.{IsStoreText}

-- For what is asked for and its program, the files before, and what is left of a call that ran nothing and changed none:
module _ (call : ShowCall) (p : Program) (before : List ℕ → Told) (output : CallOutput) (none : output.journal ≡ []) (unchanged : AreAsBefore before output.content)
    (files : output.writes_after ≡ output.writes_before) where
  -- the store's graph was written, or a prefix of it
  pub store_shown : (records : List (ℕ × Txn)) (text : List ℕ) (answer : Status) → AllFit p.code.shape (opening p.code.shape) records
      → IfSome output.disk.before (λ file. Reopens p.code.shape (output.disk.found call.store) records) → IsStoreText p records text → WasTaken call.store output.disk
      → output.disk.faults_after ≡ output.disk.faults_before
      → Wrote output.sink_before output.sink_after output.failed_before output.failed_after text Shown answer → MeansFor (Show call) p before output answer
  store_shown records text answer fit reopens is taken sound wrote input accepted same =
      graph_means input output text answer
      (record {
        call = call;
        program = p;
        accepted = accepted;
        records = records;
        fit = fit;
        reopens = reopens;
        is_text = is;
        nothing_ran = none;
        unchanged = λ file. unchanged file ∙ same file;
        taken = taken;
        sound = sound;
      }) files wrote

  -- the store couldn't be read
  pub not_shown : (why : Refusal) (answer : Status) → IsShowRefused call.store p.code.shape output.disk why
      → Wrote output.sink_before output.sink_after output.failed_before output.failed_after (line_of why) (status_of why) answer → MeansFor (Show call) p before output answer
  not_shown refusal.Store answer is wrote = λ input accepted same.
      refusal_means input output refusal.Store answer
      (record { command = Show call; program = p; accepted = accepted; failed = is.failed; leaves = (none, is.unwritten) })
      tt (λ file. unchanged file ∙ same file) files wrote
  not_shown (refusal.BadStore place) answer is wrote = λ input accepted same.
      refusal_means input output (refusal.BadStore place) answer
      (record { call = call; program = p; accepted = accepted; bad = is.bad; taken = is.taken })
      none (λ file. unchanged file ∙ same file) files wrote
  not_shown refusal.InUse answer never wrote = absurd never
  not_shown refusal.Words answer never wrote = absurd never
  not_shown refusal.Reading answer never wrote = absurd never
  not_shown (refusal.Config fault) answer never wrote = absurd never
  not_shown (refusal.Program fault) answer never wrote = absurd never

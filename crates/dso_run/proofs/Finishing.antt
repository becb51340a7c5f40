-- What exit 0 means, from what a finished run and its report are.
use Rattle.std.specs.List.{list_any}
use Rattle.std.proofs.Common.{◌≡◌, refl, Bool, true, false, not, ◌&&◌, List, reverse}
use Rattle.dso_base.specs.declared.journal.Entry.{Entry}
use Rattle.dso_base.specs.declared.journal.Node.TheVariants.{Server}
use Rattle.dso_base.specs.declared.lock.ThreadId.{ThreadId}
use Rattle.dso_base.specs.Following.{is_thread}
use Rattle.dso_client.proofs.flushed.Flushable.{fails_too}
use Rattle.dso_law.specs.Entries.{entries_of}
use Rattle.dso_law.specs.ServerReadings.{is_lost}
use Rattle.dso_run.specs.Finished.{FinishedMeans}
use Rattle.dso_run.specs.RunEnds.{has_failed, is_faulty}

-- a kept thread has not failed where no kept thread has
not_failed : (failed lost : Bool) → (failed && not lost) ≡ false → lost ≡ false → failed ≡ false
not_failed true true none kept = absurd (cc kept)
not_failed true false none kept = none
not_failed false lost none kept = refl

faultless : (threads : List ThreadId) (es : List Entry) (t : ThreadId) → is_faulty threads es ≡ false → list_any (is_thread t) threads ≡ true
    → is_lost t.client (entries_of Server es) ≡ false → has_failed t es ≡ false
faultless threads es t none there kept =
    not_failed (has_failed t es) (is_lost t.client (entries_of Server es))
    (fails_too t (λ u. has_failed u es && not (is_lost u.client (entries_of Server es))) threads none there) kept

pub finished_means : FinishedMeans
finished_means input output means =
    let run = means.due.run in
    let ended = run.ran.ended in
    record {
      command = means.due.command;
      words = run.accepted.read.words;
      config = run.accepted.config;
      text = run.accepted.program;
      read = run.accepted.read.given;
      program = means.due.program;
      taken = run.accepted.taken;
      lawful = ended.run.lawful;
      finished = ended.finished;
      legal = run.ran.commits.legal;
      parts = run.ran.commits.parts;
      whole = λ t there kept. record {
        faultless = faultless means.due.program.threads (reverse output.journal) t ended.fault there kept;
        events = run.ran.commits.whole ended.finished t there kept;
      };
      kept = means.due.kept;
      report = means.text;
      is_report = means.due.is_text;
      took = means.took;
      stored = run.stored;
      sink_sound = means.sink_sound;
      files_sound = means.files_sound;
    }

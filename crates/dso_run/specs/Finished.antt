-- What exit 0 means, in one place.
use Rattle.std.specs.List.{list_any}
use Rattle.std.specs.Prelude.{◌≡◌, ℕ, true, false, List, reverse}
use Rattle.dso_base.specs.declared.journal.Entry.{Entry}
use Rattle.dso_base.specs.declared.journal.Node.TheVariants.{Client, Server}
use Rattle.dso_base.specs.declared.lock.ThreadId.{ThreadId}
use Rattle.dso_base.specs.Following.{is_thread, Listed}
use Rattle.dso_class.specs.declared.program.Program.{Program}
use Rattle.dso_io.specs.Environment.{taken_after}
use Rattle.dso_law.specs.Entries.{entries_of, events_in}
use Rattle.dso_law.specs.ServerReadings.{is_lost}
use Rattle.dso_legal.specs.Committed.{committed}
use Rattle.dso_legal.specs.Lawful.{IsLawful}
use Rattle.dso_legal.specs.Resolved.{AreResolved, IsPrefixResolved}
use Rattle.dso_legal.specs.Slots.{is_finished}
use Rattle.dso_machine.specs.Next.{next_request}
use Rattle.dso_plain.specs.History.{events_of, IsLegal}
use Rattle.dso_run.specs.declared.status.Status.TheVariants.{Finished}
use Rattle.dso_run.specs.Accepted.{settings_of, AreTaken}
use Rattle.dso_run.specs.Headline.{CallInput, CallOutput, Gives, IsKept, IsRunText, StatusMeans}
use Rattle.dso_run.specs.RunEnds.{has_failed}
use Rattle.dso_command_line.specs.Words.{AreLawful, Command, store_of}
use Rattle.dso_kept.specs.Keeping.{applied}
use Rattle.dso_run.specs.Stores.{KeepsRecords}

-- Of a program and the entries of a run that finished, the newest first: what became of one of its threads, whose
-- client wasn't lost. It ended without a fault; the history has all its events, in order, as the server resolved them.
pub record RanWhole (p : Program) (es : List Entry) (t : ThreadId) : Type 0 where
  pub faultless : has_failed t es ≡ false
  pub events : AreResolved (events_in t (entries_of (Client t.client) es)) (events_of t (committed es))

-- What a call that answers Finished did.
pub record FinishedCall (input : CallInput) (output : CallOutput) : Type 0 where
  -- the words ask for this, these are the bytes of its two files, and they are this program;
  pub command : Command
  pub words : AreLawful input.words command
  pub config : List ℕ
  pub text : List ℕ
  pub read : Gives input.content command config text
  pub program : Program
  pub taken : AreTaken config text program
  -- the journal of the run is lawful, and finished;
  pub lawful : IsLawful (settings_of program) (next_request program.code) (reverse output.journal)
  pub finished : is_finished (settings_of program) (reverse output.journal) ≡ true
  -- what it commits is a legal history of one heap, in which each thread follows the program;
  pub legal : IsLegal (next_request program.code) (Listed (next_request program.code)) program.code.shape
      (committed (reverse output.journal))
  -- it has the first of each thread's events, and of each whose client wasn't lost all of them, without a fault;
  pub parts : (t : ThreadId)
      → IsPrefixResolved (events_in t (entries_of (Client t.client) (reverse output.journal)))
      (events_of t (committed (reverse output.journal)))
  pub whole : (t : ThreadId) → list_any (is_thread t) program.threads ≡ true
      → is_lost t.client (entries_of Server (reverse output.journal)) ≡ false
      → RanWhole program (reverse output.journal) t
  -- the file that the words name for it has the journal, and the sink took the report of the history, where it tells;
  pub kept : IsKept command output.journal input.content output.content
  pub report : List ℕ
  pub is_report : IsRunText command program output.journal report
  pub took : output.sink_after ≡ taken_after output.sink_before report
  -- the store that the words name has the records that the server of the journal applied;
  pub stored : KeepsRecords (store_of command) program.code.shape (applied (reverse output.journal)) output.disk
  -- and nothing failed in writing.
  pub sink_sound : output.failed_after ≡ output.failed_before
  pub files_sound : output.writes_after ≡ output.writes_before

-- what exit 0 means
abbrev pub FinishedMeans : Type 0
FinishedMeans = (input : CallInput) (output : CallOutput) → StatusMeans input output Finished
    → FinishedCall input output

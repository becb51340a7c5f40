-- The program's theorem: what each status of a call means, from the bytes that were read to those that were written.
-- `StatusMeans`, at the end, is the clause `answer` of `dso_main`. What it is made of stands above it, in the order of
-- the work.
use Rattle.std.specs.Prelude.{◌≡◌, ℕ, suc, ℤ, ◌⊎◌, ◌<◌, ◌≤◌, true, false, List, [], ◌++◌, length}
use Rattle.std.specs.Prelude.{Option, Some, None, reverse}
use Rattle.std.specs.Option.{IfSome}
use Rattle.dso_base.specs.declared.journal.Entry.{Entry}
use Rattle.dso_base.specs.declared.lock.ThreadId.{ThreadId}
use Rattle.dso_base.specs.declared.record.Txn.{Txn}
use Rattle.dso_base.specs.declared.request.Event.{Event}
use Rattle.dso_base.specs.declared.request.Request.{Request}
use Rattle.dso_class.specs.declared.program.Program.{Program}
use Rattle.dso_keep.specs.Records.{AllFit, IsBadAt, Reopens, opening}
use Rattle.dso_kept.specs.Keeping.{ReopensFirst, applied}
use Rattle.dso_law.specs.Settings.{Settings}
use Rattle.dso_legal.specs.Central.{CommitsLegally}
use Rattle.dso_legal.specs.Committed.{committed}
use Rattle.dso_lint.specs.declared.answer.Lint as checker
use Rattle.dso_lint.specs.declared.answer.Lint.TheVariants as lint
use Rattle.dso_lint.specs.Verdict.{IsVerdict}
use Rattle.dso_machine.specs.Next.{next_request}
use Rattle.dso_plain.specs.History.{last_state}
use Rattle.dso_gen.specs.GeneratedLoad.{load_config, load_program}
use Rattle.dso_gen.specs.LoadLine.{load_line}
use Rattle.dso_report.specs.CounterTotal.{IsCounterTotal}
use Rattle.dso_report.specs.JournalText.{journal_text}
use Rattle.dso_report.specs.Report.{IsReport}
use Rattle.dso_show.specs.Shown.{IsStoreText}
use Rattle.dso_run.specs.declared.running.Outcome.{Outcome}
use Rattle.dso_run.specs.declared.running.Outcome.TheVariants as outcome
use Rattle.dso_config.specs.declared.fault.ConfigFault.{ConfigFault}
use Rattle.dso_run.specs.declared.status.ProgramFault.{ProgramFault}
use Rattle.dso_run.specs.declared.status.Refusal.{Refusal}
use Rattle.dso_run.specs.declared.status.Refusal.TheVariants as refusal
use Rattle.dso_run.specs.declared.status.Status.{Status}
use Rattle.dso_run.specs.declared.status.Status.TheVariants.{Finished, FinishedFault, Usage, BadConfig, BadProgram}
use Rattle.dso_run.specs.declared.status.Status.TheVariants.{ReadFault, WriteFault, Stuck, Budget, NoMemory}
use Rattle.dso_run.specs.declared.status.Status.TheVariants.{StoreFault, StoreInUse, BadStore, Shown, LintYes, LintNo}
use Rattle.dso_syntax.specs.TextLimits.{longest_text}
use Rattle.dso_run.specs.Accepted.{settings_of, AreTaken, IsConfigRefusal, IsProgramRefusal}
use Rattle.dso_io.specs.Environment.{Told, MayGive, Rose, taken_after, TookPrefix}
use Rattle.dso_run.specs.Files.{AreAsBefore, IsWritten}
use Rattle.dso_run.specs.RunEnds.{EndsFinished, EndsStuck, EndsOverBudget, IsRun, Making, BySlots, ByThreads}
use Rattle.dso_run.specs.Status.{line_of, lint_line}
use Rattle.dso_run.specs.Stores.{CallDisk, IsUntouched, IsUnwritten, KeepsRecords, SinceTaken, WasTaken}
use Rattle.dso_run.specs.Swept.{IsSweptCount, swept_line}
use Rattle.dso_command_line.specs.Words.{AreLawful, AreUnlawful, Command, Sim, Run, Big, Show, Lint}
use Rattle.dso_command_line.specs.Words.{SimCall, ShowCall, LintCall, journal_of, steps_of, store_of}

-- how many bytes are read of a file at most: one more than a program's text may have
abbrev pub most_read : ℕ
most_read = suc longest_text

-- What a call reads: the words behind the program's name; what is told of each file before the call; how many reads of
-- each file had failed before the call, and how many have after it.
pub record CallInput : Type 0 where
  pub words : List (List ℕ)
  pub content : List ℕ → Told
  pub failed_before : List ℕ → ℕ
  pub failed_after : List ℕ → ℕ

-- What a call leaves: what its sink had taken before the call, and has after it; how many calls of the sink had failed
-- before, and how many have after it; what is told of each file after the call; how many writes of files had failed
-- before, and how many have after it; its disk; and the journal of the run, its first entry first.
pub record CallOutput : Type 0 where
  pub sink_before : Option (List ℕ)
  pub sink_after : Option (List ℕ)
  pub failed_before : ℕ
  pub failed_after : ℕ
  pub content : List ℕ → Told
  pub writes_before : ℕ
  pub writes_after : ℕ
  pub disk : CallDisk
  pub journal : List Entry

-- What files and a sink leave of a call, and what was read of them, by their own words (what is told of a file, how
-- many reads of each have failed; how many writes have; what the sink has taken, and how many of its calls have
-- failed), as the files and the sink were before the call and are after it.
abbrev pub read_by : {F : Type 0} → (F → List ℕ → Told) → (F → List ℕ → ℕ) → F → F → List (List ℕ) → CallInput
read_by content read_faults files_before files_after words = record {
  words = words;
  content = content files_before;
  failed_before = read_faults files_before;
  failed_after = read_faults files_after;
}

abbrev pub left_by : {F K : Type 0} → (F → List ℕ → Told) → (F → ℕ) → (K → Option (List ℕ)) → (K → ℕ)
    → F → F → K → K → CallDisk → List Entry → CallOutput
left_by content write_faults taken faults files_before files_after sink_before sink_after disk journal = record {
  sink_before = taken sink_before;
  sink_after = taken sink_after;
  failed_before = faults sink_before;
  failed_after = faults sink_after;
  content = content files_after;
  writes_before = write_faults files_before;
  writes_after = write_faults files_after;
  disk = disk;
  journal = journal;
}

-- the files of these names gave these bytes: all that a file has, or the first `most_read` bytes of a longer one
abbrev pub FilesGive : (List ℕ → Told) → List ℕ → List ℕ → List ℕ → List ℕ → Type 0
FilesGive content config_name program_name config program =
    MayGive (content config_name) most_read config × MayGive (content program_name) most_read program

-- the texts of the generated load stand for bytes that are read
abbrev pub LoadGives : ℕ → List ℕ → List ℕ → Type 0
LoadGives number config program = (config ≡ load_config number) × (program ≡ load_program number)

-- the bytes of a configuration and of a program that a command's run goes by, from its files or from the load
abbrev pub Gives : (List ℕ → Told) → Command → List ℕ → List ℕ → Type 0
Gives content (Sim call) config program = FilesGive content call.config call.program config program
Gives content (Run call) config program = FilesGive content call.config call.program config program
Gives content (Big number) config program = LoadGives number config program
Gives content (Show call) config program = FilesGive content call.config call.program config program
Gives content (Lint call) config program = FilesGive content call.config call.program config program

-- a read of one of a command's two files failed, where it is said of each name what tells that a read of it did; `big`
-- reads no file
abbrev pub ReadFailed : Command → (List ℕ → Type 0) → Type 0
ReadFailed (Sim call) failed = failed call.config ⊎ failed call.program
ReadFailed (Run call) failed = failed call.config ⊎ failed call.program
ReadFailed (Big number) failed = ⊥
ReadFailed (Show call) failed = failed call.config ⊎ failed call.program
ReadFailed (Lint call) failed = failed call.config ⊎ failed call.program

-- how many reads of the file of a name failed has risen
abbrev pub RoseOf : (List ℕ → ℕ) → (List ℕ → ℕ) → List ℕ → Type 0
RoseOf before after name = Rose (before name) (after name)

-- WHAT WAS READ, AND WHICH PROGRAM IT IS
module _ (input : CallInput) where
  -- The words ask for this, and its run goes by these bytes.
  pub record WereRead (command : Command) (config program : List ℕ) : Type 0 where
    pub words : AreLawful input.words command
    pub given : Gives input.content command config program

  -- The words ask for this, both texts were read, and they are taken as this program.
  pub record IsAccepted (command : Command) (p : Program) : Type 0 where
    pub config : List ℕ
    pub program : List ℕ
    pub read : WereRead command config program
    pub taken : AreTaken config program p

  -- The words ask for this, and a read of one of its two files failed: the count of that file rose.
  pub record IsUnread : Type 0 where
    pub command : Command
    pub words : AreLawful input.words command
    pub failed : ReadFailed command (RoseOf input.failed_before input.failed_after)

  -- Both texts were read, and the configuration is refused for this fault.
  pub record IsConfigRefused (fault : ConfigFault) : Type 0 where
    pub command : Command
    pub config : List ℕ
    pub program : List ℕ
    pub read : WereRead command config program
    pub refused : IsConfigRefusal config program fault

  -- Both texts were read, and the program is refused for this fault.
  pub record IsProgramRefused (fault : ProgramFault) : Type 0 where
    pub command : Command
    pub config : List ℕ
    pub program : List ℕ
    pub read : WereRead command config program
    pub refused : IsProgramRefusal config program fault

-- how the entries of a command's run are made: of `run` by threads, and else at the slots that are chosen, by the seed
-- that `sim` is given or by round robin
abbrev pub making_of : Command → Making
making_of (Sim call) = BySlots call.seed
making_of (Run call) = ByThreads
making_of (Big number) = BySlots None
making_of (Show call) = BySlots None
making_of (Lint call) = BySlots None

-- THE RUN, for the settings of a program, what each of its threads asks next after its events, how its entries are
-- made, and a budget: how much its journal may weigh before it is cut off. Entries stand with the newest first.
module _ (p : Settings) (next : ThreadId → List Event → Option Request) (how : Making) (budget : ℕ) where
  -- The entries are a lawful journal that was made so, and the run ended so: finished, without a fault of a kept thread
  -- or with one, or stuck, or out of its budget.
  abbrev pub EndsAs : Outcome → List Entry → Type 0
  EndsAs outcome.Finished es = EndsFinished p next how budget false es
  EndsAs outcome.FinishedFault es = EndsFinished p next how budget true es
  EndsAs outcome.Stuck es = EndsStuck p next how budget es
  EndsAs outcome.Budget es = EndsOverBudget p next how budget es

  -- A run that ended so. What its journal commits is a legal history of one heap with plain monitors, in which each
  -- thread follows the program. The history has the first of each thread's events, each once and in order, and all of
  -- a kept thread's where the run is finished, but for whom the server chose to wake; of a lost client it has the
  -- blocks of its first endings, and of what was cut nothing.
  pub record HasRun (outcome : Outcome) (es : List Entry) : Type 0 where
    pub ended : EndsAs outcome es
    pub commits : CommitsLegally p next es

-- the journal, its first entry first, is that of a run of this program that was made so, with this budget, and ended so
abbrev pub IsRunOf : Program → Making → ℕ → Outcome → List Entry → Type 0
IsRunOf p how budget outcome journal =
    HasRun (settings_of p) (next_request p.code) how budget outcome (reverse journal)

-- the text is the report of the history that the journal commits, with the program's names
abbrev pub IsRunReport : Program → List Entry → List ℕ → Type 0
IsRunReport p journal text =
    IsReport p.names p.threads (last_state p.code.shape (committed (reverse journal))) text

-- the report, and behind it the line of how many objects were swept by collections after n entries each
abbrev pub IsReportAndLine : Program → ℕ → List Entry → List ℕ → Type 0
IsReportAndLine p n journal text =
    (report : List ℕ) × IsRunReport p journal report
    × ((count : ℕ) × IsSweptCount p n journal count × (text ≡ report ++ swept_line count))

-- what is told of a run that collects after so many entries each, if it does
abbrev pub IsToldOf : Option ℕ → Program → List Entry → List ℕ → Type 0
IsToldOf None p journal text = IsRunReport p journal text
IsToldOf (Some n) p journal text = IsReportAndLine p n journal text

-- the text is what is told of the history that a journal commits: with `big` the line of its load, with what the
-- counters come to that can be reached, and else the report, behind which `sim` may tell of its collections; `show` and
-- `lint` tell of no journal
abbrev pub IsRunText : Command → Program → List Entry → List ℕ → Type 0
IsRunText (Big number) p journal text =
    (total : ℤ) × IsCounterTotal p.names (last_state p.code.shape (committed (reverse journal))) total
    × (text ≡ load_line number total)
IsRunText (Sim call) p journal text = IsToldOf call.collect p journal text
IsRunText (Run call) p journal text = IsRunReport p journal text
IsRunText (Show call) p journal text = ⊥
IsRunText (Lint call) p journal text = ⊥

-- the text of a run's journal is in the file that the command names for it, and no other file was changed
abbrev pub IsKept : Command → List Entry → (List ℕ → Told) → (List ℕ → Told) → Type 0
IsKept command journal before after =
    IsWritten (journal_of command) (journal_text (record { entries = journal })) before after

-- WHAT WAS WRITTEN
module _ (input : CallInput) (output : CallOutput) where
  -- A program was accepted, and the journal is that of a run of it, as the command asks, that ended so; the store that
  -- the command names has the records that the journal's server applied.
  pub record HasRunOf (command : Command) (program : Program) (outcome : Outcome) : Type 0 where
    pub accepted : IsAccepted input command program
    pub ran : IsRunOf program (making_of command) (steps_of command) outcome output.journal
    pub stored : KeepsRecords (store_of command) program.code.shape (applied (reverse output.journal)) output.disk

  -- Such a run was made, its journal is kept, and the text is what is told of what the journal commits.
  pub record IsReportDue (outcome : Outcome) (text : List ℕ) : Type 0 where
    pub command : Command
    pub program : Program
    pub run : HasRunOf command program outcome
    pub kept : IsKept command output.journal input.content output.content
    pub is_text : IsRunText command program output.journal text

  -- A run of a program over the store of a name was cut off when the disk failed: the journal is that of the run so
  -- far, and a crash at any moment leaves some of the first records that its server applied.
  pub record WasCutOff (call : SimCall) (program : Program) : Type 0 where
    pub name : List ℕ
    pub named : call.store ≡ Some name
    pub so_far : IsRun (settings_of program) (next_request program.code) (BySlots call.seed) call.steps
        (reverse output.journal)
    pub crash : length (output.disk.found name) ≤ 1
        → SinceTaken (ReopensFirst program.code.shape (applied (reverse output.journal))) name output.disk

  -- what a call leaves whose disk failed: of `sim` a run that was cut off, of `show` nothing
  abbrev pub LeavesOfStore : Command → Program → Type 0
  LeavesOfStore (Sim call) program = WasCutOff call program
  LeavesOfStore (Show call) program = (output.journal ≡ []) × IsUnwritten call.store output.disk
  LeavesOfStore command program = ⊥

  -- The disk failed in the call, which had a program for a store.
  pub record IsStoreFault : Type 0 where
    pub command : Command
    pub program : Program
    pub accepted : IsAccepted input command program
    pub failed : Rose output.disk.faults_before output.disk.faults_after
    pub leaves : LeavesOfStore command program

  -- The store that is named for a run has a file of more than one byte, to which nothing was done.
  pub record IsStoreInUse : Type 0 where
    pub command : Command
    pub program : Program
    pub accepted : IsAccepted input command program
    pub name : List ℕ
    pub named : store_of command ≡ Some name
    pub long : IfSome output.disk.before (λ file. 1 < length (output.disk.found name))
    pub taken : WasTaken name output.disk

  -- An open gate at this place of the store that is to be shown is followed by no whole record that fits the graph.
  pub record IsStoreBad (place : ℕ) : Type 0 where
    pub call : ShowCall
    pub program : Program
    pub accepted : IsAccepted input (Show call) program
    pub bad : IfSome output.disk.before (λ file. IsBadAt program.code.shape (output.disk.found call.store) place)
    pub taken : WasTaken call.store output.disk

  -- why nothing is run, or no more
  abbrev pub HasCause : Refusal → Type 0
  HasCause refusal.Words = AreUnlawful input.words
  HasCause refusal.Reading = IsUnread input
  HasCause (refusal.Config fault) = IsConfigRefused input fault
  HasCause (refusal.Program fault) = IsProgramRefused input fault
  HasCause refusal.Store = IsStoreFault
  HasCause refusal.InUse = IsStoreInUse
  HasCause (refusal.BadStore place) = IsStoreBad place

  -- what else a refusal leaves: no journal, and an untouched disk where its cause says nothing of it
  abbrev pub LeavesNothing : Refusal → Type 0
  LeavesNothing refusal.Store = Unit {0}
  LeavesNothing refusal.InUse = output.journal ≡ []
  LeavesNothing (refusal.BadStore place) = output.journal ≡ []
  LeavesNothing refusal = (output.journal ≡ []) × IsUntouched output.disk

  -- The refusal has its cause, the text is its line, it leaves nothing else, and no file was changed.
  pub record IsLineDue (refusal : Refusal) (text : List ℕ) : Type 0 where
    pub cause : HasCause refusal
    pub is_line : text ≡ line_of refusal
    pub nothing_else : LeavesNothing refusal
    pub unchanged : AreAsBefore input.content output.content

  -- A store is to be shown: its records fit, each the graph of those before it; where the disk tells its bytes its file
  -- reopens to them; and the text is the lines of the graph that they leave. Nothing was run, no file was changed, the
  -- store's was not written to, and no call of the disk failed.
  pub record IsGraphDue (text : List ℕ) : Type 0 where
    pub call : ShowCall
    pub program : Program
    pub accepted : IsAccepted input (Show call) program
    pub records : List (ℕ × Txn)
    pub fit : AllFit program.code.shape (opening program.code.shape) records
    pub reopens : IfSome output.disk.before (λ file. Reopens program.code.shape (output.disk.found call.store) records)
    pub is_text : IsStoreText program records text
    pub nothing_ran : output.journal ≡ []
    pub unchanged : AreAsBefore input.content output.content
    pub taken : WasTaken call.store output.disk
    pub sound : output.disk.faults_after ≡ output.disk.faults_before

  -- A program's locks are to be checked: this is the checker's answer, and the text is its line. Nothing was run, no
  -- file was changed, and nothing was done to the disk.
  pub record IsVerdictDue (answer : checker.Lint) (text : List ℕ) : Type 0 where
    pub call : LintCall
    pub program : Program
    pub accepted : IsAccepted input (Lint call) program
    pub verdict : IsVerdict program.code answer
    pub is_line : text ≡ lint_line answer
    pub nothing_ran : output.journal ≡ []
    pub unchanged : AreAsBefore input.content output.content
    pub untouched : IsUntouched output.disk

  -- what was to be written: the line of a refusal, what is told of a run, the graph of a store, or the line of the lock
  -- checker's answer
  abbrev pub IsDue : List ℕ → Type 0
  IsDue text = ((refusal : Refusal) × IsLineDue refusal text) ⊎ ((outcome : Outcome) × IsReportDue outcome text)
      ⊎ IsGraphDue text ⊎ ((answer : checker.Lint) × IsVerdictDue answer text)

  -- What was to be written was written whole, and nothing failed in writing.
  pub record WroteWhole (Due : List ℕ → Type 0) : Type 0 where
    pub text : List ℕ
    pub due : Due text
    pub took : output.sink_after ≡ taken_after output.sink_before text
    pub sink_sound : output.failed_after ≡ output.failed_before
    pub files_sound : output.writes_after ≡ output.writes_before

  -- The sink failed, and took a prefix of what was to be written.
  pub record WrotePrefix (Due : List ℕ → Type 0) : Type 0 where
    pub text : List ℕ
    pub due : Due text
    pub took : TookPrefix output.sink_before text output.sink_after
    pub failed : Rose output.failed_before output.failed_after

  -- Such a run was made, but its journal could not be written to the file that the command names: no file was changed,
  -- and the sink was given nothing.
  pub record IsUnkept : Type 0 where
    pub command : Command
    pub program : Program
    pub ended : Outcome
    pub run : HasRunOf command program ended
    pub file : List ℕ
    pub named : journal_of command ≡ Some file
    pub unchanged : AreAsBefore input.content output.content
    pub untouched : output.sink_after ≡ output.sink_before
    pub failed : Rose output.writes_before output.writes_after

  -- An allocation was refused: the sink was given nothing, no file was changed, and no journal is kept.
  pub record WroteNothing : Type 0 where
    pub untouched : output.sink_after ≡ output.sink_before
    pub unchanged : AreAsBefore input.content output.content
    pub nothing_kept : output.journal ≡ []

  -- WHAT EACH STATUS MEANS
  abbrev pub StatusMeans : Status → Type 0
  StatusMeans Finished = WroteWhole (IsReportDue outcome.Finished)
  StatusMeans FinishedFault = WroteWhole (IsReportDue outcome.FinishedFault)
  StatusMeans Stuck = WroteWhole (IsReportDue outcome.Stuck)
  StatusMeans Budget = WroteWhole (IsReportDue outcome.Budget)
  StatusMeans Usage = WroteWhole (IsLineDue refusal.Words)
  StatusMeans ReadFault = WroteWhole (IsLineDue refusal.Reading)
  StatusMeans (BadConfig fault) = WroteWhole (IsLineDue (refusal.Config fault))
  StatusMeans (BadProgram fault) = WroteWhole (IsLineDue (refusal.Program fault))
  StatusMeans StoreFault = WroteWhole (IsLineDue refusal.Store)
  StatusMeans StoreInUse = WroteWhole (IsLineDue refusal.InUse)
  StatusMeans (BadStore place) = WroteWhole (IsLineDue (refusal.BadStore place))
  StatusMeans Shown = WroteWhole IsGraphDue
  StatusMeans LintYes = WroteWhole (IsVerdictDue lint.Yes)
  StatusMeans (LintNo place why) = WroteWhole (IsVerdictDue (lint.No place why))
  StatusMeans WriteFault = WrotePrefix IsDue ⊎ IsUnkept
  StatusMeans NoMemory = WroteNothing

-- other words alone decide: the status is Usage, or WriteFault in its place
abbrev pub IsUsage : Status → Type 0
IsUsage Usage = Unit {0}
IsUsage WriteFault = Unit {0}
IsUsage status = ⊥

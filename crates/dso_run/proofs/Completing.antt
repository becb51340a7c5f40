-- No status stands without its cause, and a call that may run does run.
use Rattle.std.proofs.Common.{arith, ◌≡◌, inl, inr, subst, ℕ, List}
use Rattle.dso_class.specs.declared.fault.NameFault.TheVariants as name
use Rattle.dso_class.specs.declared.program.Program.{Program}
use Rattle.dso_class.specs.NameFaults.{IsFirstFault}
use Rattle.dso_class.proofs.rules.OneFault.{no_fault}
use Rattle.dso_config.specs.declared.config.Config.{Config}
use Rattle.dso_config.specs.declared.fault.ConfigFault.{ConfigFault}
use Rattle.dso_config.specs.declared.fault.ConfigFault.TheVariants as config_fault
use Rattle.dso_config.proofs.OneAnswer.{not_both, one_configuration}
use Rattle.dso_syntax.specs.declared.fault.SyntaxFault.{SyntaxFault}
use Rattle.dso_syntax.specs.declared.fault.SyntaxFault.TheVariants as syntax
use Rattle.dso_syntax.specs.declared.tree.Ast.{Ast}
use Rattle.dso_syntax.proofs.completeness.ReadPrograms.{one_program}
use Rattle.dso_run.specs.declared.status.ProgramFault.{ProgramFault}
use Rattle.dso_run.specs.declared.status.ProgramFault.TheVariants as fault
use Rattle.dso_run.specs.declared.status.Status.{Status}
use Rattle.dso_run.specs.declared.status.Status.TheVariants.{Finished, FinishedFault, Usage, BadConfig, BadProgram, ReadFault, WriteFault, Stuck, Budget, NoMemory, StoreFault, StoreInUse, BadStore, Shown, LintYes, LintNo}
use Rattle.dso_run.specs.Accepted.{AreTaken, HasTree, IsConfigRefusal, IsProgramRefusal, IsTakenText, IsTextFault}
use Rattle.dso_run.specs.declared.running.Outcome.{Outcome}
use Rattle.dso_run.specs.declared.running.Outcome.TheVariants as outcome
use Rattle.dso_run.specs.Completeness.{Completeness, IsDecided, IsOfRun, MayRun, MayRunRuns, NothingFailed, RanTo, TakenIsNotRefused}
use Rattle.dso_run.specs.Headline.{CallInput, CallOutput, IsConfigRefused, IsProgramRefused, IsReportDue, ReadFailed, RoseOf, StatusMeans, WereRead, WroteWhole}
use Rattle.dso_command_line.specs.Words.{AreLawful, Command, Sim, Run, Big, Show, Lint}
use Rattle.dso_command_line.proofs.reading_words.Asking.{asks-once}

-- a configuration that is taken isn't refused
config_taken : (config program : List ℕ) (p : Program) (wrong : ConfigFault) → AreTaken config program p → IsConfigRefusal config program wrong → ⊥
config_taken config program p config_fault.NotToml taken is = not_both config taken.config config_fault.NotToml taken.says is
config_taken config program p (config_fault.UnknownKey spot) taken is = not_both config taken.config (config_fault.UnknownKey spot) taken.says is
config_taken config program p (config_fault.WrongKind spot) taken is = not_both config taken.config (config_fault.WrongKind spot) taken.says is
config_taken config program p (config_fault.OutOfRange spot) taken is = not_both config taken.config (config_fault.OutOfRange spot) taken.says is
config_taken config program p (config_fault.BadMethodPattern spot) taken is = not_both config taken.config (config_fault.BadMethodPattern spot) taken.says is
config_taken config program p (config_fault.BadGuard spot) taken is = not_both config taken.config (config_fault.BadGuard spot) taken.says is
config_taken config program p (config_fault.Twice spot) taken is = not_both config taken.config (config_fault.Twice spot) taken.says is
config_taken config program p config_fault.TooLong taken is = not_both config taken.config config_fault.TooLong taken.says is
config_taken config program p (config_fault.BadName spot) taken is = not_both config taken.config (config_fault.BadName spot) taken.says is
config_taken config program p (config_fault.NoMemory refusal) taken is = is

-- a text of a tree has no fault of the grammar
refuses_none : (text : List ℕ) (tree : Ast) (wrong : SyntaxFault) (p : Program) (config : Config) → HasTree text tree → IsTextFault config text (fault.Syntax wrong) → ⊥
refuses_none text tree (syntax.BadByte place) p config has is = is.1 tree has.is_text
refuses_none text tree (syntax.BadToken place) p config has is = is.1 tree has.is_text
refuses_none text tree (syntax.Unexpected place) p config has is = is.1 tree has.is_text
refuses_none text tree (syntax.NumberTooWide place) p config has is = is.1 tree has.is_text
refuses_none text tree (syntax.NestTooDeep place) p config has is = is.1 tree has.is_text
refuses_none text tree syntax.TooLong p config has is = let short = has.short in omega (arith, is, short)
refuses_none text tree (syntax.NoMemory refusal) p config has is = is

-- a text that is taken has no fault under its configuration
text_taken : (config : Config) (text : List ℕ) (p : Program) (wrong : ProgramFault) → IsTakenText config text p → IsTextFault config text wrong → ⊥
text_taken config text p (fault.Syntax wrong) taken is = refuses_none text taken.tree wrong p config taken.has_tree is
text_taken config text p (fault.Name (name.At kind line)) taken is =
    let same = one_program text is.tree taken.tree is.has_tree.is_text taken.has_tree.is_text in
    no_fault config taken.tree p kind line taken.resolved.program (subst (λ tree. IsFirstFault config tree kind line) same is.refused)
text_taken config text p (fault.Name (name.NoMemory refusal)) taken is = is.refused

-- so a program that is taken isn't refused
program_taken : (config program : List ℕ) (p : Program) (wrong : ProgramFault) → AreTaken config program p → IsProgramRefusal config program wrong → ⊥
program_taken config program p wrong taken is =
    let same = one_configuration config is.config taken.config is.says taken.says in
    text_taken taken.config program p wrong taken.holds (subst (λ said. IsTextFault said program wrong) same is.holds)

-- words ask for one run
pub one_call : (words : List (List ℕ)) (command other : Command) → AreLawful words command → AreLawful words other → command ≡ other
one_call words command other is also = asks-once words command other is also

-- a read of a command's files failed only where that is told of some name
of_some : (command : Command) (failed : List ℕ → Type 0) → ReadFailed command failed → (name : List ℕ) × failed name
of_some (Sim call) failed (inl is) = (call.config, is)
of_some (Sim call) failed (inr is) = (call.program, is)
of_some (Run call) failed (inl is) = (call.config, is)
of_some (Run call) failed (inr is) = (call.program, is)
of_some (Big number) failed never = absurd never
of_some (Show call) failed (inl is) = (call.config, is)
of_some (Show call) failed (inr is) = (call.program, is)
of_some (Lint call) failed (inl is) = (call.config, is)
of_some (Lint call) failed (inr is) = (call.program, is)

module _ (input : CallInput) (output : CallOutput) where
  -- a report is due of a run only
  ran_to : (ended : Outcome) → WroteWhole input output (IsReportDue input output ended) → RanTo input output ended
  ran_to ended is = record { command = is.due.command; program = is.due.program; run = is.due.run }

  decided : (status : Status) → NothingFailed input output → StatusMeans input output status → IsDecided input output status
  decided Finished sound means = ran_to outcome.Finished means
  decided FinishedFault sound means = ran_to outcome.FinishedFault means
  decided Stuck sound means = ran_to outcome.Stuck means
  decided Budget sound means = ran_to outcome.Budget means
  decided NoMemory sound means = tt
  decided Usage sound means = means.due.cause
  decided (BadConfig wrong) sound means = means.due.cause
  decided (BadProgram wrong) sound means = means.due.cause
  decided StoreInUse sound means = means.due.cause
  decided (BadStore place) sound means = means.due.cause
  decided StoreFault sound means = sound.all_stored means.due.cause.failed
  decided Shown sound means = (means.text, means.due)
  decided LintYes sound means = (means.text, means.due)
  decided (LintNo place why) sound means = (means.text, means.due)
  decided ReadFault sound means =
      let some = of_some means.due.cause.command (RoseOf input.failed_before input.failed_after) means.due.cause.failed in
      sound.all_read some.0 some.1
  decided WriteFault sound (inl cut) = sound.all_written cut.failed
  decided WriteFault sound (inr unkept) = sound.all_kept unkept.failed

  -- A CALL THAT MAY RUN
  module _ (may : MayRun input output) where
    -- no configuration is refused
    no_config : (wrong : ConfigFault) → IsConfigRefused input wrong → ⊥
    no_config wrong is =
        let same = one_call input.words is.command may.command is.read.words may.words in
        let taken = may.taken is.config is.program (subst (λ command. WereRead input command is.config is.program) same is.read) in
        config_taken is.config is.program taken.0 wrong taken.1 is.refused

    -- and no program
    no_program : (wrong : ProgramFault) → IsProgramRefused input wrong → ⊥
    no_program wrong is =
        let same = one_call input.words is.command may.command is.read.words may.words in
        let taken = may.taken is.config is.program (subst (λ command. WereRead input command is.config is.program) same is.read) in
        program_taken is.config is.program taken.0 wrong taken.1 is.refused

    of_run : (status : Status) → IsDecided input output status → IsOfRun status
    of_run Finished is = tt
    of_run FinishedFault is = tt
    of_run Stuck is = tt
    of_run Budget is = tt
    of_run Shown is = tt
    of_run LintYes is = tt
    of_run (LintNo place why) is = tt
    of_run NoMemory is = tt
    of_run Usage is = is may.command may.words
    of_run ReadFault never = never
    of_run (BadConfig wrong) is = no_config wrong is
    of_run (BadProgram wrong) is = no_program wrong is
    of_run WriteFault never = never
    of_run StoreFault never = never
    of_run StoreInUse is = may.unused is
    of_run (BadStore place) is = may.good place is

pub completeness : Completeness
completeness input output status sound means = decided input output status sound means

pub taken_not_refused : TakenIsNotRefused
taken_not_refused config program p taken = (λ wrong. config_taken config program p wrong taken, λ wrong. program_taken config program p wrong taken)

pub may_run : MayRunRuns
may_run input output status may means = of_run input output may status (decided input output status may.sound means)

-- What is given for the two texts, and the verdict on it.
use Rattle.std.proofs.Common.{◌≡◌, ℕ, List, [], subst, Result, Ok, Err, IfOk}
use Rattle.dso_base.specs.declared.no_memory.NoMemory.{NoMemory}
use Rattle.dso_config.specs.declared.fault.ConfigFault.{ConfigFault}
use Rattle.dso_config.specs.declared.fault.ConfigFault.TheVariants as fault
use Rattle.dso_config.specs.Configuration.{IsFaultOf}
use Rattle.dso_config.specs.Keys.{IsOfText}
use Rattle.dso_io.specs.Environment.{Told, MayGive}
use Rattle.dso_run.specs.declared.verdict.Verdict.{Verdict}
use Rattle.dso_run.specs.declared.verdict.Verdict.TheVariants.{Refused, Accepted}
use Rattle.dso_class.specs.declared.program.Program as whole
use Rattle.dso_run.specs.declared.status.Refusal.{Refusal}
use Rattle.dso_run.specs.declared.status.Refusal.TheVariants.{Words, Reading, Program}
use Rattle.dso_run.specs.declared.status.Refusal.TheVariants as refusal
use Rattle.dso_run.specs.Accepted.{IsConfigRefusal}
use Rattle.dso_run.specs.Files.{AreAsBefore}
use Rattle.dso_run.specs.Headline.{CallInput, CallOutput, FilesGive, Gives, HasCause, IsAccepted, LeavesNothing, RoseOf, most_read}
use Rattle.dso_run.specs.Stores.{IsUntouched}
use Rattle.dso_run.specs.Verdict.{IsVerdictBy, IsVerdictOn, IsVerdictOnGiven, IsVerdictOnTexts}
use Rattle.dso_command_line.specs.Words.{AreLawful, Command}

-- A configuration that has a fault is refused for it.
pub fault_refused : (config program : List ℕ) (wrong : ConfigFault) → (IsOfText wrong → IsFaultOf config wrong) → (IsOfText wrong → IsConfigRefusal config program wrong)
fault_refused config program fault.NotToml is of_text = is of_text
fault_refused config program (fault.UnknownKey spot) is of_text = is of_text
fault_refused config program (fault.WrongKind spot) is of_text = is of_text
fault_refused config program (fault.OutOfRange spot) is of_text = is of_text
fault_refused config program (fault.BadMethodPattern spot) is of_text = is of_text
fault_refused config program (fault.BadGuard spot) is of_text = is of_text
fault_refused config program (fault.Twice spot) is of_text = is of_text
fault_refused config program fault.TooLong is of_text = is of_text
fault_refused config program (fault.BadName spot) is of_text = is of_text
fault_refused config program (fault.NoMemory refusal) is never = absurd never

-- what the texts come to that are given is the verdict on them
module _ (Given : List ℕ → List ℕ → Type 0) (failed : Type 0) (config_text program_text : List ℕ) (given : Given config_text program_text) where
  on_given : (verdict : Verdict) → IsVerdictOnTexts config_text program_text verdict → IsVerdictOnGiven Given failed verdict
  on_given verdict is = record { config_text = config_text; program_text = program_text; given = given; verdict = is }

  verdict_by : (verdict : Verdict) → IsVerdictOnTexts config_text program_text verdict → IsVerdictBy Given failed verdict
  verdict_by (Refused Words) never = absurd never
  verdict_by (Refused Reading) never = absurd never
  verdict_by (Refused refusal.Store) never = absurd never
  verdict_by (Refused refusal.InUse) never = absurd never
  verdict_by (Refused (refusal.BadStore place)) never = absurd never
  verdict_by (Refused (refusal.Config wrong)) is = on_given (Refused (refusal.Config wrong)) is
  verdict_by (Refused (Program wrong)) is = on_given (Refused (Program wrong)) is
  verdict_by (Accepted p) is = on_given (Accepted p) is

  -- the verdict, where memory may have run out
  pub verdict_if_ok : (result : Result Verdict NoMemory) → IfOk result (IsVerdictOnTexts config_text program_text) → IfOk result (IsVerdictBy Given failed)
  verdict_if_ok (Ok verdict) is = verdict_by verdict is
  verdict_if_ok (Err e) is = is

-- the first read changed no file, so the second gave what the program's file had before it
pub files_give : (content after_first : List ℕ → Told) (config program config_text program_text : List ℕ) → MayGive (content config) most_read config_text
    → AreAsBefore content after_first → MayGive (after_first program) most_read program_text → FilesGive content config program config_text program_text
files_give content after_first config program config_text program_text first same second =
    (first, (let P : Told → Type 0 = λ told. MayGive told most_read program_text in subst P (same program) second))

-- THE CAUSE, for a lawful command
module _ (input : CallInput) (command : Command) (words : AreLawful input.words command) where
  -- a refusal by what is given has its cause
  pub cause_of : (output : CallOutput) (why : Refusal) → IsVerdictOn input.content (RoseOf input.failed_before input.failed_after) command (Refused why) → HasCause input output why
  cause_of output Words never = absurd never
  cause_of output refusal.Store never = absurd never
  cause_of output refusal.InUse never = absurd never
  cause_of output (refusal.BadStore place) never = absurd never
  cause_of output Reading is = record { command = command; words = words; failed = is }
  cause_of output (refusal.Config wrong) is = record {
    command = command;
    config = is.config_text;
    program = is.program_text;
    read = record { words = words; given = is.given };
    refused = is.verdict;
  }
  cause_of output (Program wrong) is = record {
    command = command;
    config = is.config_text;
    program = is.program_text;
    read = record { words = words; given = is.given };
    refused = is.verdict;
  }

  -- a program that is taken is accepted
  pub accepted_of : (failed : Type 0) (p : whole.Program) → IsVerdictBy (Gives input.content command) failed (Accepted p) → IsAccepted input command p
  accepted_of failed p is = record {
    config = is.config_text;
    program = is.program_text;
    read = record { words = words; given = is.given };
    taken = is.verdict;
  }

-- and leaves nothing, where there is no journal and nothing was done to the disk
pub leaves_nothing : (input : CallInput) (output : CallOutput) (Given : List ℕ → List ℕ → Type 0) (failed : Type 0) (why : Refusal) → IsVerdictBy Given failed (Refused why)
    → output.journal ≡ [] → IsUntouched output.disk → LeavesNothing input output why
leaves_nothing input output Given failed Words is none untouched = (none, untouched)
leaves_nothing input output Given failed Reading is none untouched = (none, untouched)
leaves_nothing input output Given failed (refusal.Config wrong) is none untouched = (none, untouched)
leaves_nothing input output Given failed (Program wrong) is none untouched = (none, untouched)
leaves_nothing input output Given failed refusal.Store never none untouched = absurd never
leaves_nothing input output Given failed refusal.InUse never none untouched = absurd never
leaves_nothing input output Given failed (refusal.BadStore place) never none untouched = absurd never

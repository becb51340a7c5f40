-- What the process ends with.
use Rattle.std.specs.Prelude.{◌≡◌, ◌⊎◌, ℕ, List, [], Result, Ok, Err}
use Rattle.std.specs.Process.{exit_status}
use Rattle.std.specs.declared.process.ExitCode.{ExitCode}
use Rattle.dso_base.specs.declared.journal.Entry.{Entry}
use Rattle.dso_run.specs.declared.status.Status.{Status}
use Rattle.dso_run.specs.declared.status.Status.TheVariants.{Usage, WriteFault}
use Rattle.dso_run.specs.Headline.{CallInput, CallOutput, StatusMeans}
use Rattle.dso_run.specs.Status.{exit_number_of}

-- The number is that of a status, and the status means what it is to mean: of what a call reads, and of what it leaves
-- with some journal.
pub record EndsWith (input : CallInput) (output : List Entry → CallOutput) (code : ExitCode) : Type 0 where
  pub status : Status
  pub journal : List Entry
  pub means : StatusMeans input (output journal) status
  pub number : exit_status code ≡ exit_number_of status

-- the number is that of unlawful words, or of a line that could not be written
abbrev pub IsUsageNumber : ℕ → Type 0
IsUsageNumber number = (number ≡ exit_number_of Usage) ⊎ (number ≡ exit_number_of WriteFault)

-- the words of a process, by the texts of what tells them: none where they weren't told
abbrev pub words_told : {A E : Type 0} → (A → List (List ℕ)) → Result A E → List (List ℕ)
words_told texts (Ok words) = texts words
words_told texts (Err error) = []

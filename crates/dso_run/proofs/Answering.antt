-- What a call's answer means whose program was accepted, from the verdict and from what was done then.
use Rattle.std.proofs.Common.{◌≡◌, subst, ℕ, List, Option}
use Rattle.dso_base.specs.declared.journal.Entry.{Entry}
use Rattle.dso_class.specs.declared.program.Program.{Program}
use Rattle.dso_command_line.specs.Words.{AreLawful, Command}
use Rattle.dso_io.specs.Environment.{Told}
use Rattle.dso_run.specs.declared.status.Status.{Status}
use Rattle.dso_run.specs.declared.verdict.Verdict.TheVariants.{Accepted}
use Rattle.dso_run.specs.Files.{AreAsBefore}
use Rattle.dso_run.specs.Headline.{CallInput, CallOutput, Gives, StatusMeans, left_by, read_by}
use Rattle.dso_run.specs.Stores.{CallDisk}
use Rattle.dso_run.specs.Verdict.{IsVerdictBy}
use Rattle.dso_run.specs.Writing.{MeansFor}
use Rattle.dso_run.proofs.GivenTexts.{accepted_of}

module _ {F K : Type 0} (content : F → List ℕ → Told) (read_faults : F → List ℕ → ℕ) (write_faults : F → ℕ) (taken : K → Option (List ℕ)) (faults : K → ℕ) where
  -- the files were judged first, which changed neither them nor the sink, and the rest was done behind that
  pub told_means : (first judged last : F) (before same after : K) (disk : CallDisk) (journal : List Entry) (command : Command) (p : Program) (failed : Type 0)
      → IsVerdictBy (Gives (content first) command) failed (Accepted p) → AreAsBefore (content first) (content judged) → write_faults judged ≡ write_faults first
      → same ≡ before → (answer : Status) → MeansFor command p (content judged) (left_by content write_faults taken faults judged last same after disk journal) answer
      → (words : List (List ℕ)) → AreLawful words command
      → StatusMeans (read_by content read_faults first last words) (left_by content write_faults taken faults first last before after disk journal) answer
  told_means first judged last before same after disk journal command p failed verdict unchanged writes is answer means words lawful =
      let input : CallInput = read_by content read_faults first last words in
      let left : ℕ → K → CallOutput = λ count sink. record (left_by content write_faults taken faults judged last sink after disk journal) { writes_before = count } in
      subst (λ sink. StatusMeans input (left (write_faults first) sink) answer) is
      (subst (λ count. StatusMeans input (left count same) answer) writes
      (means input (accepted_of input command lawful failed p verdict) unchanged))

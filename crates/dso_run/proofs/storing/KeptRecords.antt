-- What a crash leaves of the store that words name for a run, whatever the call's status.
use Rattle.std.proofs.Common.{◌≡◌, ◌≢◌, ◌⊎◌, inl, inr, ◌∙◌, refl, sym, subst, arith, ℕ, ◌<◌, ◌≤◌, List, length, Option, Some, None, reverse}
use Rattle.std.specs.Option.{IfSome}
use Rattle.dso_class.specs.declared.program.Program.{Program}
use Rattle.dso_command_line.specs.Words.{AreLawful, Command, Sim, Run, Big, Show, Lint, store_of}
use Rattle.dso_keep.specs.Disk.{Attached, File, changed}
use Rattle.dso_kept.specs.Keeping.{ReopensFirst, applied}
use Rattle.dso_run.specs.declared.running.Outcome.{Outcome}
use Rattle.dso_run.specs.declared.running.Outcome.TheVariants as outcome
use Rattle.dso_run.specs.declared.status.Refusal.{Refusal}
use Rattle.dso_run.specs.declared.status.Refusal.TheVariants as refusal
use Rattle.dso_run.specs.declared.status.Status.{Status}
use Rattle.dso_run.specs.declared.status.Status.TheVariants.{Finished, FinishedFault, Usage, BadConfig, BadProgram, ReadFault, WriteFault, Stuck, Budget, NoMemory, StoreFault, StoreInUse, BadStore, Shown, LintYes, LintNo}
use Rattle.dso_lint.specs.declared.answer.Lint as checker
use Rattle.dso_lint.specs.declared.answer.Lint.TheVariants as lint
use Rattle.dso_run.specs.Headline.{CallInput, CallOutput, HasRunOf, IsAccepted, IsDue, IsGraphDue, IsLineDue, IsVerdictDue, LeavesOfStore, StatusMeans}
use Rattle.dso_run.specs.StoreLaws.{HasAll, HasKept, LeftAlone, RecordsAreKept}
use Rattle.dso_run.specs.Stores.{KeepsRecords, SinceTaken, file_taken}
use Rattle.dso_run.proofs.Completing.{one_call}

-- a file of at most one byte isn't longer than that, where it is told; where it isn't, nothing is known of it
not_long : (found : List ℕ) (old new : Option File) → IfSome old (λ file. 1 < length found) → length found ≤ 1 → new ≡ changed (Attached found) old → new ≡ old
not_long found None new long short is = is
not_long found (Some file) new long short is = absurd (omega (arith, long, short))

-- For words that name a store for a run, whose file has at most one byte:
module _ (input : CallInput) (output : CallOutput) (command : Command) (name : List ℕ) (words : AreLawful input.words command)
    (named : store_of command ≡ Some name) (short : length (output.disk.found name) ≤ 1) where
  abbrev Kept : Status → Type 0
  Kept status = LeftAlone input output status ⊎ HasKept input output status command name

  -- the command is the one that a run was accepted for
  of_run : (status : Status) (other : Command) (p : Program) (outcome : Outcome) → HasRunOf input output other p outcome → Kept status
  of_run status other p outcome run = by (one_call input.words other command run.accepted.read.words words) run
    where
      by : other ≡ command → HasRunOf input output other p outcome → Kept status
      by same run =
          let accepted = subst (λ c. IsAccepted input c p) same run.accepted in
          let Stored : Option (List ℕ) → Type 0 = λ file. KeepsRecords file p.code.shape (applied (reverse output.journal)) output.disk in
          let stored = subst Stored named (subst (λ c. Stored (store_of c)) same run.stored) in
          inr (record { program = p; accepted = accepted; crash = stored.crash; whole = λ all. stored.whole })

  -- the line of a refusal is due
  of_line : (status : Status) (why : Refusal) (text : List ℕ) → IsLineDue input output why text
      → (why ≡ refusal.Store → HasAll status output.disk → ⊥) → Kept status
  of_line status refusal.Words text due never = absurd (due.cause command words)
  of_line status refusal.Reading text due never = inl (record { file = due.nothing_else.1.file; none = λ all. due.nothing_else.0 })
  of_line status (refusal.Config fault) text due never = inl (record { file = due.nothing_else.1.file; none = λ all. due.nothing_else.0 })
  of_line status (refusal.Program fault) text due never = inl (record { file = due.nothing_else.1.file; none = λ all. due.nothing_else.0 })
  of_line status refusal.InUse text due never =
      let cause = due.cause in
      let same = one_call input.words cause.command command cause.accepted.read.words words in
      let one : Some cause.name ≡ Some name = sym cause.named ∙ (subst (λ c. store_of c ≡ Some name) (sym same) named) in
      let is : cause.name ≡ name = cc one in
      let long = subst (λ n. IfSome output.disk.before (λ file. 1 < length (output.disk.found n))) is cause.long in
      let taken = subst (λ n. output.disk.after ≡ file_taken n output.disk) is cause.taken in
      inl (record { file = not_long (output.disk.found name) output.disk.before output.disk.after long short taken; none = λ all. due.nothing_else })
  of_line status (refusal.BadStore place) text due never =
      let same = one_call input.words (Show due.cause.call) command due.cause.accepted.read.words words in
      let wrong : store_of (Show due.cause.call) ≡ Some name = subst (λ c. store_of c ≡ Some name) (sym same) named in absurd (cc wrong)
  of_line status refusal.Store text due never = by due.cause.command due.cause.accepted due.cause.leaves (one_call input.words due.cause.command command due.cause.accepted.read.words words)
    where
      p : Program
      p = due.cause.program

      since : SinceTaken (ReopensFirst p.code.shape (applied (reverse output.journal))) name output.disk → IsAccepted input command p → Kept status
      since (inl same) accepted = inl (record { file = same; none = λ all. absurd (never refl all) })
      since (inr leaves) accepted = inr (record { program = p; accepted = accepted; crash = leaves; whole = λ all. absurd (never refl all) })

      by : (other : Command) → IsAccepted input other p → LeavesOfStore input output other p → other ≡ command → Kept status
      by (Sim call) accepted leaves same =
          let one : Some leaves.name ≡ Some name = sym leaves.named ∙ subst (λ c. store_of c ≡ Some name) (sym same) named in
          let is : leaves.name ≡ name = cc one in
          let Since : List ℕ → Type 0 = λ n. length (output.disk.found n) ≤ 1 → SinceTaken (ReopensFirst p.code.shape (applied (reverse output.journal))) n output.disk in
          since (subst Since is leaves.crash short) (subst (λ c. IsAccepted input c p) same accepted)
      by (Show call) accepted leaves same = let wrong : store_of (Show call) ≡ Some name = subst (λ c. store_of c ≡ Some name) (sym same) named in absurd (cc wrong)
      by (Run call) accepted never same = absurd never
      by (Big number) accepted never same = absurd never
      by (Lint call) accepted never same = absurd never

  -- no store is to be shown
  of_graph : (status : Status) (text : List ℕ) → IsGraphDue input output text → Kept status
  of_graph status text due =
      let same = one_call input.words (Show due.call) command due.accepted.read.words words in
      let wrong : store_of (Show due.call) ≡ Some name = subst (λ c. store_of c ≡ Some name) (sym same) named in absurd (cc wrong)

  -- and no locks are to be checked
  of_verdict : (status : Status) (answer : checker.Lint) (text : List ℕ) → IsVerdictDue input output answer text → Kept status
  of_verdict status answer text due =
      let same = one_call input.words (Lint due.call) command due.accepted.read.words words in
      let wrong : store_of (Lint due.call) ≡ Some name = subst (λ c. store_of c ≡ Some name) (sym same) named in absurd (cc wrong)

  kept : (status : Status) → StatusMeans input output status → status ≢ NoMemory → Kept status
  kept Finished means some = of_run Finished means.due.command means.due.program outcome.Finished means.due.run
  kept FinishedFault means some = of_run FinishedFault means.due.command means.due.program outcome.FinishedFault means.due.run
  kept Stuck means some = of_run Stuck means.due.command means.due.program outcome.Stuck means.due.run
  kept Budget means some = of_run Budget means.due.command means.due.program outcome.Budget means.due.run
  kept Usage means some = of_line Usage refusal.Words means.text means.due (λ is. absurd (cc is))
  kept ReadFault means some = of_line ReadFault refusal.Reading means.text means.due (λ is. absurd (cc is))
  kept (BadConfig fault) means some = of_line (BadConfig fault) (refusal.Config fault) means.text means.due (λ is. absurd (cc is))
  kept (BadProgram fault) means some = of_line (BadProgram fault) (refusal.Program fault) means.text means.due (λ is. absurd (cc is))
  kept StoreFault means some = of_line StoreFault refusal.Store means.text means.due (λ is all. all)
  kept StoreInUse means some = of_line StoreInUse refusal.InUse means.text means.due (λ is. absurd (cc is))
  kept (BadStore place) means some = of_line (BadStore place) (refusal.BadStore place) means.text means.due (λ is. absurd (cc is))
  kept Shown means some = of_graph Shown means.text means.due
  kept LintYes means some = of_verdict LintYes lint.Yes means.text means.due
  kept (LintNo place why) means some = of_verdict (LintNo place why) (lint.No place why) means.text means.due
  kept WriteFault (inl cut) some = by cut.due
    where
      by : IsDue input output cut.text → Kept WriteFault
      by (inl line) = of_line WriteFault line.0 cut.text line.1
          (λ is all. let due = subst (λ why. IsLineDue input output why cut.text) is line.1 in all due.cause.failed)
      by (inr (inl report)) = of_run WriteFault report.1.command report.1.program report.0 report.1.run
      by (inr (inr (inl graph))) = of_graph WriteFault cut.text graph
      by (inr (inr (inr verdict))) = of_verdict WriteFault verdict.0 cut.text verdict.1
  kept WriteFault (inr unkept) some = of_run WriteFault unkept.command unkept.program unkept.ended unkept.run
  kept NoMemory means some = absurd (some refl)

pub records_are_kept : RecordsAreKept
records_are_kept input output status means some command name words named short = kept input output command name words named short status means some

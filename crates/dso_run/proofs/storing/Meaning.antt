-- What a call's answer means that had a store: from what became of the store, and from what was written.
use Rattle.std.proofs.Common.{◌≡◌, ◌≢◌, ◌⊎◌, inl, inr, ◌∙◌, refl, sym, subst, ℕ, ◌≤◌, List, [], length, Option, Some, None, reverse}
use Rattle.dso_base.specs.declared.journal.Entry.{Entry}
use Rattle.dso_base.specs.declared.shape.Shape.{Shape}
use Rattle.dso_class.specs.declared.program.Program.{Program}
use Rattle.dso_command_line.specs.Words.{Command, Sim, Run, Big, Show, Lint, seed_of, steps_of, store_of}
use Rattle.dso_io.specs.Environment.{Rose, Told}
use Rattle.dso_keep.specs.Records.{HoldsRecords}
use Rattle.dso_kept.specs.Keeping.{ReopensFirst, applied}
use Rattle.dso_kept.proofs.keeping.Leaving.{none_first}
use Rattle.dso_machine.specs.Next.{next_request}
use Rattle.dso_run.specs.declared.status.Refusal.{Refusal}
use Rattle.dso_run.specs.declared.status.Refusal.TheVariants as refusal
use Rattle.dso_run.specs.declared.status.Status.{Status}
use Rattle.dso_run.specs.declared.status.Status.TheVariants.{NoMemory}
use Rattle.dso_run.specs.Accepted.{settings_of}
use Rattle.dso_run.specs.Files.{AreAsBefore}
use Rattle.dso_run.specs.Headline.{CallInput, CallOutput, LeavesOfStore, making_of}
use Rattle.dso_run.specs.RunEnds.{BySlots, ByThreads, IsRun}
use Rattle.dso_run.specs.Status.{HasLine, line_of, status_of}
use Rattle.dso_run.specs.StoreCalls.{IsOpenRefused, IsShowRefused}
use Rattle.dso_run.specs.Stores.{CallDisk, IsStored, IsUntouched, KeepsRecords, SinceTaken, file_taken}
use Rattle.dso_run.specs.Writing.{MeansFor, ToldRun, Wrote}
use Rattle.dso_run.proofs.StatusMeaning.{refusal_means, run_means}
use Rattle.dso_world.proofs.worlds.Openings.{empty_lawful}

-- For a command and its program, the files before, and what is left:
module _ (command : Command) (p : Program) (before : List ℕ → Told) (output : CallOutput) where
  -- no store is named, and nothing was done to the disk
  pub without_store : (answer : Status) → ToldRun command p before output answer → store_of command ≡ None → IsUntouched output.disk → MeansFor command p before output answer
  without_store answer told none untouched input accepted same =
      let Stored : Option (List ℕ) → Type 0 = λ name. KeepsRecords name p.code.shape (applied (reverse output.journal)) output.disk in
      run_means input output command p before accepted same answer (λ some. subst Stored (sym none) untouched) told

  -- memory ran out
  pub out_of_memory : output.sink_after ≡ output.sink_before → AreAsBefore before output.content → output.journal ≡ [] → MeansFor command p before output NoMemory
  out_of_memory untouched unchanged none input accepted same = record { untouched = untouched; unchanged = λ name. unchanged name ∙ same name; nothing_kept = none }

  -- OVER A STORE
  module _ (name : List ℕ) (named : store_of command ≡ Some name) where
    -- a run ended, whose records are in the store
    pub over_store : (journal : List Entry) (answer : Status) → ToldRun command p before output answer → (answer ≡ NoMemory) ⊎ (output.journal ≡ journal)
        → IsStored name p.code.shape (applied (reverse journal)) output.disk → MeansFor command p before output answer
    over_store journal answer told kept stored input accepted same =
        run_means input output command p before accepted same answer (stored_of kept) told
      where
        stored_of : (answer ≡ NoMemory) ⊎ (output.journal ≡ journal) → answer ≢ NoMemory
            → KeepsRecords (store_of command) p.code.shape (applied (reverse output.journal)) output.disk
        stored_of (inl spent) some = absurd (some spent)
        stored_of (inr is) some =
            let Stored : Option (List ℕ) → Type 0 = λ name. KeepsRecords name p.code.shape (applied (reverse output.journal)) output.disk in
            subst Stored (sym named) (subst (λ j. IsStored name p.code.shape (applied (reverse j)) output.disk) (sym is) stored)

    -- what the disk's failure leaves of a run so far
    cut_off : (so_far : IsRun (settings_of p) (next_request p.code) (BySlots (seed_of command)) (steps_of command) (reverse output.journal))
        → (length (output.disk.found name) ≤ 1 → SinceTaken (ReopensFirst p.code.shape (applied (reverse output.journal))) name output.disk)
        → (input : CallInput) → LeavesOfStore input output command p
    cut_off so_far crash input = by command named so_far
      where
        by : (command : Command) → store_of command ≡ Some name
            → IsRun (settings_of p) (next_request p.code) (BySlots (seed_of command)) (steps_of command) (reverse output.journal) → LeavesOfStore input output command p
        by (Sim call) is so_far = record { name = name; named = is; so_far = so_far; crash = crash }
        by (Run call) is so_far = cc is
        by (Big number) is so_far = cc is
        by (Show call) is so_far = cc is
        by (Lint call) is so_far = cc is

    module _ (unchanged : AreAsBefore before output.content) (files : output.writes_after ≡ output.writes_before) where
      -- the disk failed in the run
      pub store_failed : (answer : Status) → Rose output.disk.faults_before output.disk.faults_after
          → IsRun (settings_of p) (next_request p.code) (BySlots (seed_of command)) (steps_of command) (reverse output.journal)
          → (length (output.disk.found name) ≤ 1 → SinceTaken (ReopensFirst p.code.shape (applied (reverse output.journal))) name output.disk)
          → Wrote output.sink_before output.sink_after output.failed_before output.failed_after (line_of refusal.Store) (status_of refusal.Store) answer
          → MeansFor command p before output answer
      store_failed answer failed so_far crash wrote input accepted same =
          refusal_means input output refusal.Store answer
          (record { command = command; program = p; accepted = accepted; failed = failed; leaves = cut_off so_far crash input })
          tt (λ file. unchanged file ∙ same file) files wrote

      -- no run was made
      module _ (none : output.journal ≡ []) where
        nothing_yet : IsRun (settings_of p) (next_request p.code) (BySlots (seed_of command)) (steps_of command) (reverse output.journal)
        nothing_yet =
            subst (λ (j : List Entry). IsRun (settings_of p) (next_request p.code) (BySlots (seed_of command)) (steps_of command) (reverse j)) (sym none)
            (record { lawful = empty_lawful p; made = tt })

        first_of_none : SinceTaken (λ left. HoldsRecords left []) name output.disk
            → SinceTaken (ReopensFirst p.code.shape (applied (reverse output.journal))) name output.disk
        first_of_none (inl same) = inl same
        first_of_none (inr leaves) =
            inr (none_first p.code.shape (applied (reverse output.journal)) (file_taken name output.disk) output.disk.after leaves)

        -- since there was no store to be had
        pub not_opened : (why : Refusal) (answer : Status) → IsOpenRefused name output.disk why
            → Wrote output.sink_before output.sink_after output.failed_before output.failed_after (line_of why) (status_of why) answer
            → MeansFor command p before output answer
        not_opened refusal.Store answer is wrote = store_failed answer is.failed nothing_yet (λ short. first_of_none (is.crash short)) wrote
        not_opened refusal.InUse answer is wrote = λ input accepted same.
            refusal_means input output refusal.InUse answer
            (record { command = command; program = p; accepted = accepted; name = name; named = named; long = is.long; taken = is.taken })
            none (λ file. unchanged file ∙ same file) files wrote
        not_opened refusal.Words answer never wrote = absurd never
        not_opened refusal.Reading answer never wrote = absurd never
        not_opened (refusal.Config fault) answer never wrote = absurd never
        not_opened (refusal.Program fault) answer never wrote = absurd never
        not_opened (refusal.BadStore place) answer never wrote = absurd never

-- what runs in threads names no store
pub threads_store_none : (command : Command) → making_of command ≡ ByThreads → store_of command ≡ None
threads_store_none (Run call) is = refl
threads_store_none (Sim call) is = cc is
threads_store_none (Big number) is = refl
threads_store_none (Show call) is = refl
threads_store_none (Lint call) is = refl

-- what refuses a store has a line
pub open_has_line : (name : List ℕ) (disk : CallDisk) (why : Refusal) → IsOpenRefused name disk why → HasLine why
open_has_line name disk refusal.Store is = tt
open_has_line name disk refusal.InUse is = tt
open_has_line name disk refusal.Words never = absurd never
open_has_line name disk refusal.Reading never = absurd never
open_has_line name disk (refusal.Config fault) never = absurd never
open_has_line name disk (refusal.Program fault) never = absurd never
open_has_line name disk (refusal.BadStore place) never = absurd never

pub show_has_line : (name : List ℕ) (shape : Shape) (disk : CallDisk) (why : Refusal) → IsShowRefused name shape disk why → HasLine why
show_has_line name shape disk refusal.Store is = tt
show_has_line name shape disk (refusal.BadStore place) is = tt
show_has_line name shape disk refusal.InUse never = absurd never
show_has_line name shape disk refusal.Words never = absurd never
show_has_line name shape disk refusal.Reading never = absurd never
show_has_line name shape disk (refusal.Config fault) never = absurd never
show_has_line name shape disk (refusal.Program fault) never = absurd never

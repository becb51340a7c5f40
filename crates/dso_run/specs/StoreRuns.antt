-- What a run over a store comes to.
use Rattle.std.specs.Prelude.{ℕ, List, Option, reverse}
use Rattle.dso_base.specs.declared.journal.Entry.{Entry}
use Rattle.dso_base.specs.declared.record.Txn.{Txn}
use Rattle.dso_base.specs.declared.shape.Shape.{Shape}
use Rattle.dso_class.specs.declared.program.Program.{Program}
use Rattle.dso_keep.specs.Disk.{File}
use Rattle.dso_kept.specs.Keeping.{IsStoreOf}
use Rattle.dso_machine.specs.Next.{next_request}
use Rattle.dso_run.specs.declared.store_run.StoreRun.{StoreRun}
use Rattle.dso_run.specs.declared.store_run.StoreRun.TheVariants.{Ended, CutOff}
use Rattle.dso_run.specs.Headline.{IsRunOf}
use Rattle.dso_run.specs.RunEnds.{BySlots, IsRun}
use Rattle.dso_world.specs.WorldSteps.{settings_of}

-- its journal, the first entry first
abbrev pub journal_in : StoreRun → List Entry
journal_in (Ended run) = run.journal.entries
journal_in (CutOff journal) = journal.entries

-- a run of this program by this seed, with this budget, that ended; or, where the disk failed in it, such a run so far
abbrev pub IsStoreRunOf : Program → Option ℕ → ℕ → StoreRun → Type 0
IsStoreRunOf p seed budget (Ended run) = IsRunOf p (BySlots seed) budget run.outcome run.journal.entries
IsStoreRunOf p seed budget (CutOff journal) =
    IsRun (settings_of p) (next_request p.code) (BySlots seed) budget (reverse journal.entries)

-- where the run ended, reopening the file gives all the records
abbrev pub IsWholeIn : Shape → List (ℕ × Txn) → Option File → StoreRun → Type 0
IsWholeIn shape records file (Ended run) = IsStoreOf shape records file
IsWholeIn shape records file (CutOff journal) = Unit {0}

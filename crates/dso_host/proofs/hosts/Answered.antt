-- What a host answers of its journal.
use Rattle.std.specs.List.{sum_by}
use Rattle.std.proofs.Common.{ℕ, ◌-◌, ◌^◌, ◌≡◌, sym, ◌∙◌, ap, subst, min, Option, Some, Result, Ok, Err, IfOk, List, reverse}
use Rattle.dso_base.specs.declared.journal.Entry.{Entry}
use Rattle.dso_base.specs.declared.journal.Journal.{Journal}
use Rattle.dso_base.specs.declared.no_memory.NoMemory.{NoMemory}
use Rattle.dso_class.specs.declared.program.Program.{Program}
use Rattle.dso_class.specs.Sound.{IsSoundProgram}
use Rattle.dso_legal.specs.Lawful.{IsLawful}
use Rattle.dso_legal.specs.Slots.{weight}
use Rattle.dso_line.specs.Letters.{newest}
use Rattle.dso_machine.specs.Next.{next_request}
use Rattle.dso_world.specs.WorldSteps.{settings_of}
use Rattle.dso_host.specs.declared.cells.Cells.{Cells}
use Rattle.dso_host.specs.HostStates.{IsHostJournal, Stands}
use Rattle.dso_host.specs.Journals.{IsGathered, logs_in}
use Rattle.dso_host.proofs.hosts.Journals.{gathered_is_lawful, gathered_weight}

-- What its logs weigh the journal weighs.
pub weight_told : (host : Option Cells) (cells : Cells) (told : ℕ) → host ≡ Some cells → told ≡ min (sum_by (λ log. weight (newest log)) (logs_in cells)) (2 ^ 64 - 1)
    → (program : Program) (entries : List Entry) → IsHostJournal program host entries → told ≡ min (weight (reverse entries)) (2 ^ 64 - 1)
weight_told host cells told is weighs program entries journal =
    weighs ∙ ap (λ n. min n (2 ^ 64 - 1)) (sym (gathered_weight cells entries (subst (λ host. IsHostJournal program host entries) is journal).gathered))

-- What is gathered is lawful.
pub gathered_lawful : (host : Option Cells) (cells : Cells) (made : Result Journal NoMemory) → host ≡ Some cells → IfOk made (λ journal. IsGathered cells journal.entries)
    → IfOk made (λ journal. (program : Program) → IsSoundProgram program → Stands program host → IsLawful (settings_of program) (next_request program.code) (reverse journal.entries))
gathered_lawful host cells (Err refused) is gathered = tt
gathered_lawful host cells (Ok journal) is gathered = λ program sound stands.
    gathered_is_lawful program cells journal.entries (record { sound = sound; host = (subst (Stands program) is stands).host; gathered = gathered })

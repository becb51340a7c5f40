use Rattle.std.specs.List.{list_any}
use Rattle.std.proofs.Common.{◌≡◌, false, List, take}
use Rattle.dso_base.specs.declared.journal.Entry.{Entry}
use Rattle.dso_legal.specs.Slots.{Acts}
use Rattle.dso_host.specs.Journals.{IsJournalOf}
use Rattle.dso_host.specs.OpenSlots.{is_open_in}
use Rattle.dso_host.proofs.cells.Cells.is_any_act_open.Given as goal

abbrev pub invariant-loop-thread : goal.invariant-loop-thread
invariant-loop-thread l = (entries : List Entry) → IsJournalOf l.program l.self entries
    → list_any (λ t. is_open_in l.program entries (Acts t)) (take l.thread-index l.program.threads) ≡ false

use Rattle.std.specs.List.{list_any}
use Rattle.std.proofs.Common.{◌≡◌, false, List}
use Rattle.dso_base.specs.declared.journal.Entry.{Entry}
use Rattle.dso_law.specs.Settings.{up_to}
use Rattle.dso_host.specs.Journals.{IsJournalOf}
use Rattle.dso_host.specs.OpenSlots.{is_open_in, step_slots}
use Rattle.dso_host.proofs.cells.Cells.is_any_step_open.Given as goal

abbrev pub invariant-loop-place : goal.invariant-loop-place
invariant-loop-place l = (entries : List Entry) → IsJournalOf l.program l.self entries
    → list_any (λ c. list_any (is_open_in l.program entries) (step_slots c)) (up_to l.place) ≡ false

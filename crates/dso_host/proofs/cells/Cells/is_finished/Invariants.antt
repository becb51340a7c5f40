use Rattle.std.specs.List.{list_any}
use Rattle.std.proofs.Common.{◌≡◌, false, List, reverse}
use Rattle.dso_base.specs.declared.journal.Entry.{Entry}
use Rattle.dso_law.specs.Settings.{up_to}
use Rattle.dso_world.specs.Busy.{is_busy}
use Rattle.dso_world.specs.WorldSteps.{settings_of}
use Rattle.dso_host.specs.Journals.{IsJournalOf}
use Rattle.dso_host.proofs.cells.Cells.is_finished.Given as goal

abbrev pub invariant-loop-place : goal.invariant-loop-place
invariant-loop-place l = (entries : List Entry) → IsJournalOf l.program l.self entries
    → list_any (λ c. is_busy (settings_of l.program) c (reverse entries)) (up_to l.place) ≡ false

use Rattle.std.specs.List.{list_any}
use Rattle.std.proofs.Common.{◌≡◌, false, List}
use Rattle.dso_base.specs.declared.journal.Entry.{Entry}
use Rattle.dso_law.specs.Settings.{up_to}
use Rattle.dso_world.specs.Busy.{is_busy}
use Rattle.dso_world.specs.ClientSteps.{IsJournal}
use Rattle.dso_world.specs.NodesStand.{NodesStand}
use Rattle.dso_world.specs.WorldSteps.{settings_of}
use Rattle.dso_world.proofs.slot_test.is_finished.Given as goal

abbrev pub invariant-loop-place : goal.invariant-loop-place
invariant-loop-place l = (es : List Entry) → IsJournal l.program es → NodesStand l.program l.nodes es → list_any (λ c. is_busy (settings_of l.program) c es) (up_to l.place) ≡ false

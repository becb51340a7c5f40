use Rattle.std.proofs.Common.{List, take}
use Rattle.std.specs.List.{AllByRecursion}
use Rattle.dso_base.specs.declared.journal.Entry.{Entry}
use Rattle.dso_law.specs.ServerReadings.{counted}
use Rattle.dso_law.specs.Settings.{Settings}
use Rattle.dso_server.specs.ServerStands.{ServerStands}
use Rattle.dso_law.specs.FitsUp.{FitsNote}
use Rattle.dso_server.proofs.fits_lists.notes_fit.Given as goal

abbrev pub invariant-loop-note : goal.invariant-loop-note
invariant-loop-note l = (p : Settings) (es : List Entry) → ServerStands p l.server es → AllByRecursion (FitsNote p l.client (counted es)) (take l.note-index l.notes)

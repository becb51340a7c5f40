use Rattle.std.proofs.Common.{◌≡◌, List, take}
use Rattle.std.specs.List.{AllByRecursion}
use Rattle.dso_base.specs.declared.journal.Entry.{Entry}
use Rattle.dso_law.specs.ServerReadings.{counted}
use Rattle.dso_law.specs.Settings.{Settings}
use Rattle.dso_server.specs.Fitting.{graph_in}
use Rattle.dso_server.specs.ServerStands.{ServerStands}
use Rattle.dso_law.specs.FitsUp.{FitsSetBy}
use Rattle.dso_server.proofs.fits_lists.all_sets_fit.Given as goal

abbrev pub invariant-loop-set : goal.invariant-loop-set
invariant-loop-set l = (p : Settings) (es : List Entry) → p.shape ≡ l.shape → ServerStands p l.server es → AllByRecursion (FitsSetBy (graph_in l.server) p l.client (counted es)) (take l.set-index l.sets)

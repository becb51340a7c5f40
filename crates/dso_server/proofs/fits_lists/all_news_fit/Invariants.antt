use Rattle.std.proofs.Common.{◌≡◌, List, take}
use Rattle.std.specs.List.{AllByRecursion}
use Rattle.dso_base.specs.declared.journal.Entry.{Entry}
use Rattle.dso_law.specs.ServerReadings.{counted}
use Rattle.dso_law.specs.Settings.{Settings}
use Rattle.dso_server.specs.Fitting.{graph_in}
use Rattle.dso_server.specs.ServerStands.{ServerStands}
use Rattle.dso_law.specs.FitsUp.{FitsNewsBy}
use Rattle.dso_server.proofs.fits_lists.all_news_fit.Given as goal

abbrev pub invariant-loop-body : goal.invariant-loop-body
invariant-loop-body l = (p : Settings) (es : List Entry) → p.shape ≡ l.shape → ServerStands p l.server es → AllByRecursion (FitsNewsBy (graph_in l.server) p l.client (counted es)) (take l.body-index l.news)

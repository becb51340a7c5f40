use Rattle.std.proofs.Common.{take}
use Rattle.std.specs.List.{AllByRecursion}
use Rattle.dso_server.specs.Fitting.{graph_in}
use Rattle.dso_server.specs.Records.{FitsValue}
use Rattle.dso_server.proofs.fits_lists.set_values_fit.Given as goal

abbrev pub invariant-loop-set : goal.invariant-loop-set
invariant-loop-set l = AllByRecursion (λ set. FitsValue l.shape (graph_in l.server) l.news set.value) (take l.set-index l.sets)

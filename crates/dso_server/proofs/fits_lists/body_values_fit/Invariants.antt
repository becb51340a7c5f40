use Rattle.std.proofs.Common.{take}
use Rattle.std.specs.List.{AllByRecursion}
use Rattle.dso_server.specs.Fitting.{graph_in}
use Rattle.dso_server.specs.Records.{FitsValue}
use Rattle.dso_server.proofs.fits_lists.body_values_fit.Given as goal

abbrev pub invariant-loop-body : goal.invariant-loop-body
invariant-loop-body l = AllByRecursion (λ body. AllByRecursion (FitsValue l.shape (graph_in l.server) l.news) body.values) (take l.body-index l.bodies)
